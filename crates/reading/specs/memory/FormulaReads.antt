-- What the code tells of a formula at a place of the theory's text.
use Rattle.std.specs.Prelude.{ℕ, ◌+◌, ◌≤◌, ◌<◌, ◌≡◌, [], ◌∷◌, true, false, Option, Some, None, Result, Ok, Err, length, drop}
use Rattle.grammar.specs.Bytes.{Bytes, bytes}
use Rattle.grammar.specs.Outcome.{done, refused}
use Rattle.grammar.specs.Reading.{Reading, give, ◌⇒◌, one_of}
use Rattle.logic.specs.Formula.{Formula, truth, size}
use Rattle.logic.specs.Text.{truth_text}
use Rattle.logic.specs.Reading.{read_equality, read_atom}
use Rattle.logic.specs.Names.{known}
use Rattle.logic.specs.Limits.{variables}
use Rattle.words.specs.memory.Words.{words}
use Rattle.terms.specs.memory.Facts.{facts_of}
use Rattle.terms.specs.memory.Entries.{Setting, Memory, Entered}
use Rattle.terms.specs.declared.fact.Facts.{Facts}
use Rattle.text.specs.declared.read.Read.{Read}
use Rattle.reading.specs.declared.fault.Fault.{Fault}
use Rattle.reading.specs.declared.read.Measured.{Measured}
use Rattle.reading.specs.memory.Faults.{number_of}

-- what the code tells of a formula, and the place behind it
abbrev pub read_to : ℕ → Facts → ℕ → Read Measured
read_to extent facts next = record { value = record { size = extent; facts = facts }; next = next }

-- a formula is read, measured, judged and entered
pub record Found (reader : Reading Formula) (s : Setting) (at : ℕ) (old : Memory) (to : ℕ) (r : Read Measured) (new : Memory) : Type 0 where
  pub formula : Formula
  pub is : reader (drop at s.text) ≡ done (formula, drop r.next s.text)
  pub measured : r.value.size ≡ size formula
  pub judged : r.value.facts ≡ facts_of s.problem s.bound formula
  pub after : at + r.value.size ≤ r.next
  pub within : r.next ≤ length s.text
  pub entered : Entered s.text (variables formula) (known s.problem formula) (λ ix. words ix s.index formula) old to new

-- a formula, or formulas, are refused: they are malformed, or too deep
pub record Refuses {A : Type 0} (reader : Reading A) (s : Bytes) (fault : Fault) : Type 0 where
  pub is : reader s ≡ refused (number_of fault)
  pub early : number_of fault ≤ 6

abbrev pub Told : Reading Formula → Setting → ℕ → Memory → ℕ → Result (Read Measured) Fault → Memory → Type 0
Told reader s at old to (Ok r) new = Found reader s at old to r new
Told reader s at old to (Err fault) new = Refuses reader (drop at s.text) fault

-- of a formula with no formula in it, which is refused as malformed alone
abbrev pub ToldLeaf : Reading Formula → Setting → ℕ → Memory → ℕ → Option (Read Measured) → Memory → Type 0
ToldLeaf reader s at old to (Some r) new = Found reader s at old to r new
ToldLeaf reader s at old to None new = reader (drop at s.text) ≡ refused 5

-- what is read behind a sign, told of every reader that reads the sign too
abbrev pub ToldBehind : Reading Formula → Setting → ℕ → Memory → ℕ → Result (Read Measured) Fault → Memory → Type 0
ToldBehind other s at old to r new =
    (reader : Reading Formula) (sign : ℕ) → reader (drop sign s.text) ≡ other (drop at s.text) → sign < at → Told reader s sign old to r new

-- a formula with no formula in it
unfoldable pub read_leaf : Reading Formula
read_leaf =
    one_of (truth_text true ⇒ give (truth true) ∷ truth_text false ⇒ give (truth false) ∷ bytes "=(" ⇒ read_equality ∷ []) read_atom
