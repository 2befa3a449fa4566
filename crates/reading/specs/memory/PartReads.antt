-- What the code tells of the parts of a connective, and of a quantifier's guard and body, at a place of the theory's text.
use Rattle.std.specs.Prelude.{ℕ, ◌+◌, ◌≤◌, ◌≡◌, List, ◌++◌, Bool, true, false, not, ◌&&◌, eqb, Result, Ok, Err, length, drop}
use Rattle.grammar.specs.Bytes.{Bytes, bytes, next}
use Rattle.grammar.specs.Outcome.{done}
use Rattle.grammar.specs.Reading.{Reading, give, ◌>>=◌, ◌>>◌, word}
use Rattle.logic.specs.Formula.{Connective, negation, implies, implied_by, equivalent, junction, Formula, parts_of, size, sizes}
use Rattle.logic.specs.Names.{known, all_known}
use Rattle.logic.specs.Limits.{variables, all_variables}
use Rattle.words.specs.memory.Words.{words, all_words}
use Rattle.terms.specs.memory.Facts.{simple_facts, beside, facts_of, all_facts_of}
use Rattle.terms.specs.memory.Entries.{Setting, Memory, Entered}
use Rattle.text.specs.declared.read.Read.{Read}
use Rattle.reading.specs.declared.fault.Fault.{Fault}
use Rattle.reading.specs.declared.read.Measured.{Measured}
use Rattle.reading.specs.declared.read.Parts.{Parts}
use Rattle.reading.specs.declared.read.Guarded.{Guarded}
use Rattle.reading.specs.memory.FormulaReads.{Refuses}

-- How the parts of a connective are listed and closed.

-- no part follows: the bracket stands at once
abbrev pub none_follow : Connective → Bytes → Bool
none_follow negation s = false
none_follow implies s = false
none_follow implied_by s = false
none_follow equivalent s = false
none_follow (junction c) s = eqb (next s) 41

-- how many may follow the first, in a text of so many bytes
abbrev pub further_parts : Connective → ℕ → ℕ
further_parts negation n = 0
further_parts implies n = 1
further_parts implied_by n = 1
further_parts equivalent n = 1
further_parts (junction c) n = n

-- another follows one, where there may be so many more
abbrev pub another_follows : ℕ → Bytes → Bool
another_follows more s = not (eqb more 0) && eqb (next s) 44

-- so many are closed
abbrev pub parts_close : Connective → ℕ → Bytes → Bool
parts_close negation count s = eqb count 1
parts_close implies count s = eqb count 2 && eqb (next s) 41
parts_close implied_by count s = eqb count 2 && eqb (next s) 41
parts_close equivalent count s = eqb count 2 && eqb (next s) 41
parts_close (junction c) count s = eqb (next s) 41

-- by so many bytes
abbrev pub close_size : Connective → ℕ
close_size negation = 0
close_size implies = 1
close_size implied_by = 1
close_size equivalent = 1
close_size (junction c) = 1

-- a guard and a body
unfoldable pub read_guarded : Reading Formula → Reading (Formula × Formula)
read_guarded r = do
  g ← r
  word 5 (bytes "]:")
  f ← r
  give (g, f)

-- what the code tells of no parts, and of parts with one more behind them
abbrev pub none_told : Parts
none_told = record { count = 0; size = 0; facts = simple_facts true true }

abbrev pub with_told : Parts → Measured → Parts
with_told parts one = record { count = parts.count + 1; size = parts.size + one.size; facts = beside parts.facts one.facts }

-- parts are counted, measured, judged and entered
pub record PartsTaken (s : Setting) (items : List Formula) (parts : Parts) (old : Memory) (to : ℕ) (new : Memory) : Type 0 where
  pub counted : parts.count ≡ length items
  pub measured : parts.size ≡ sizes (parts_of items)
  pub judged : parts.facts ≡ all_facts_of s.problem s.bound (parts_of items)
  pub entered :
      Entered s.text (all_variables (parts_of items)) (all_known s.problem (parts_of items)) (λ ix. all_words ix s.index (parts_of items)) old to new

-- parts are read
pub record PartsFound (reader : Reading (List Formula)) (s : Setting) (at : ℕ) (old : Memory) (to : ℕ) (r : Read Parts) (new : Memory) : Type 0 where
  pub items : List Formula
  pub is : reader (drop at s.text) ≡ done (items, drop r.next s.text)
  pub taken : PartsTaken s items r.value old to new
  pub after : at + r.value.size ≤ r.next
  pub within : r.next ≤ length s.text

abbrev pub ToldParts : Reading (List Formula) → Setting → ℕ → Memory → ℕ → Result (Read Parts) Fault → Memory → Type 0
ToldParts reader s at old to (Ok r) new = PartsFound reader s at old to r new
ToldParts reader s at old to (Err fault) new = Refuses reader (drop at s.text) fault

-- a guard and a body are read, measured together, judged each and entered
pub record GuardedFound (reader : Reading (Formula × Formula)) (s : Setting) (at : ℕ) (old : Memory) (to : ℕ) (r : Read Guarded) (new : Memory) : Type 0 where
  pub first : Formula
  pub second : Formula
  pub is : reader (drop at s.text) ≡ done ((first, second), drop r.next s.text)
  pub measured : r.value.size ≡ size first + size second
  pub guard_judged : r.value.guard ≡ facts_of s.problem s.bound first
  pub body_judged : r.value.body ≡ facts_of s.problem s.bound second
  pub after : at + r.value.size ≤ r.next
  pub within : r.next ≤ length s.text
  pub entered :
      Entered s.text (variables first ++ variables second) (known s.problem first && known s.problem second)
      (λ ix. words ix s.index first ++ words ix s.index second) old to new

abbrev pub ToldGuarded : Reading (Formula × Formula) → Setting → ℕ → Memory → ℕ → Result (Read Guarded) Fault → Memory → Type 0
ToldGuarded reader s at old to (Ok r) new = GuardedFound reader s at old to r new
ToldGuarded reader s at old to (Err fault) new = Refuses reader (drop at s.text) fault
