-- What the code tells of a line of the theory's text, judged up to number 8.
use Rattle.std.specs.Prelude.{ℕ, ◌+◌, ◌≤◌, ◌<◌, ◌≡◌, true, Result, Ok, Err, length, drop}
use Rattle.grammar.specs.Sizes.{level_count}
use Rattle.grammar.specs.Bytes.{Bytes, bytes}
use Rattle.grammar.specs.Outcome.{done, refused}
use Rattle.grammar.specs.Reading.{Reading, give, require, ◌>>=◌, ◌>>◌, word}
use Rattle.grammar.specs.Problem.{Name, Problem}
use Rattle.logic.specs.Formula.{Formula, size}
use Rattle.logic.specs.Reading.{read_formula}
use Rattle.logic.specs.Names.{names_fit}
use Rattle.logic.specs.Normal.{is_gnf}
use Rattle.logic.specs.Limits.{guard_quantifiers, variables}
use Rattle.words.specs.memory.Words.{words}
use Rattle.terms.specs.memory.Entries.{Memory, Entered}
use Rattle.text.specs.declared.read.Read.{Read}
use Rattle.reading.specs.declared.fault.Fault.{Fault}
use Rattle.reading.specs.declared.theory_line.TheoryLine.{TheoryLine}
use Rattle.reading.specs.memory.Faults.{number_of}

-- a formula and the end of its line, 5 and 6; then 7, then 8
unfoldable pub read_theory_line : Problem → Reading Formula
read_theory_line P = do
  f ← read_formula level_count
  word 5 (bytes "\n")
  require 7 (names_fit P f)
  require 8 (is_gnf P f)
  give f

-- a line is read, measured and entered; every element and predicate of it is known
pub record TheoryLineFound (P : Problem) (text : Bytes) (index : Name → ℕ) (at : ℕ) (old : Memory) (to : ℕ) (r : Read TheoryLine) (new : Memory) : Type 0 where
  pub formula : Formula
  pub is : read_theory_line P (drop at text) ≡ done (formula, drop r.next text)
  pub measured : r.value.size ≡ size formula
  pub counted : r.value.guarded ≡ guard_quantifiers formula
  pub after : at + r.value.size < r.next
  pub within : r.next ≤ length text
  pub entered : Entered text (variables formula) true (λ ix. words ix index formula) old to new

abbrev pub ToldTheoryLine : Problem → Bytes → (Name → ℕ) → ℕ → Memory → ℕ → Result (Read TheoryLine) Fault → Memory → Type 0
ToldTheoryLine P text index at old to (Ok r) new = TheoryLineFound P text index at old to r new
ToldTheoryLine P text index at old to (Err fault) new = read_theory_line P (drop at text) ≡ refused (number_of fault)
