-- Where the replay begins: what memory holds of a theory's text is what it holds of the first state, by the naming of the variables' table and the problem's
-- predicates. Each formula is well formed and can be held, since it is valid and its variables are in the table.
-- Assumes nothing.
use Prim.Native.Nat.{ℕ, ◌≤◌}
use mathlib.Core.Path.{◌≡◌, refl, sym, ap, ◌∙◌}
use mathlib.Core.List.{List, [], ◌∷◌}
use mathlib.Core.Bool.{true, false}
use lib.Dec.{leb}
use lib.ListN.{length, take}
use borrow.Author.Tests.{leb-true}
use Rattle.grammar.specs.Sizes.{formula_count, theory_size}
use Rattle.grammar.specs.Bytes.{Bytes, member}
use Rattle.grammar.specs.Problem.{Name, Problem}
use Rattle.grammar.specs.Each.{Each}
use Rattle.grammar.specs.Valid.{Valid}
use Rattle.grammar.proofs.Laws.{and_left, and_right, each_left, each_right}
use Rattle.logic.specs.Formula.{Formula}
use Rattle.logic.specs.Names.{known}
use Rattle.logic.specs.Limits.{variables, theory_variables, size_total, sizes_fit}
use Rattle.logic.specs.Meaning.{count_from}
use Rattle.demands.specs.ValidTheory.{ValidFormula}
use Rattle.demands.specs.Theory.{initial}
use Rattle.demands.proofs.Ground.{formulas-numbered, valid_well}
use Rattle.demands.proofs.TheoryText.{theory_of_exactly}
use Rattle.table.specs.memory.Table.{position, table_names, problem_in}
use Rattle.table.specs.declared.table.Table.{Table}
use Rattle.words.proofs.memory.Naming.{Naming, Storable}
use Rattle.terms.specs.memory.NameTable.{extended_by, names_in, list_fits}
use Rattle.terms.specs.declared.name_table.NameTable.{NameTable}
use Rattle.terms.specs.memory.Entries.{predicate_index}
use Rattle.terms.proofs.memory.Listing.{table_names_in, problem_naming, storable_known}
use Rattle.reading.proofs.memory.TheoryLines.{fits-length, fits_members}
use Rattle.theory.specs.memory.TheoryReads.{TheoryFound}
use Rattle.steps.specs.memory.Held.{held}
use Rattle.held.proofs.HeldWords.{held_of}
use Rattle.held.proofs.Held.{held_first, Sound, sound_first}

-- a theory that is found is within its sizes
module _ {P : Problem} {text : Bytes} {index : Name → ℕ} {count full : ℕ} {names : NameTable} {work : List ℕ} (found : TheoryFound P text index count full names work) where
  found-sized : sizes_fit found.formulas ≡ true
  found-sized = and_left (sizes_fit found.formulas) _ found.fits

  pub found-full : full ≤ 4096
  unfolding theory_size
  found-full = rw found.measured (leb-true (size_total found.formulas) 4096 (and_left _ _ found-sized))

  pub found-count : count ≤ 1024
  unfolding formula_count
  found-count =
      rw found.counted
      (leb-true (length found.formulas) 1024 (and_right (leb (size_total found.formulas) theory_size) _ found-sized))

  found_valid : Each (ValidFormula P) found.formulas
  found_valid = ((theory_of_exactly P text found.formulas).0 found.is).0.formulas

  -- every variable is in the table
  found-variables : Each (λ x. member x (names_in text names) ≡ true) (theory_variables found.formulas)
  found-variables =
      let fits : list_fits (extended_by [] (theory_variables found.formulas)) ≡ true = sym (ap list_fits found.listed) ∙ found.short in
      rw found.listed (fits_members (theory_variables found.formulas) [] fits)

-- the replay's first state, as memory holds it
pub record Begun (problem : Bytes) (table : Table) (rows : List ℕ) (inside : table.inputs ≤ table.count) (valid : Valid (problem_in problem table rows))
    (T : List Formula) (words : List ℕ) (count : ℕ) : Type 0 where
  pub naming : Naming
  pub index : (p : Name) → naming.predicate_index p ≡ position p (table_names problem table)
  pub sound : Sound naming problem table rows inside valid index (initial T)
  pub holds : held_of naming (initial T) ≡ held words (count_from 1 count) count false

module _ (problem : Bytes) (table : Table) (rows : List ℕ) (inside : table.inputs ≤ table.count) (valid : Valid (problem_in problem table rows)) where
  abbrev P : Problem
  P = problem_in problem table rows

  module _ (variable_names : List Name) (few : length variable_names ≤ 64) where
    abbrev N : Naming
    N = problem_naming P valid variable_names (table_names problem table) few (table_names_in problem table rows inside)

    each_storable : (fs : List Formula) → Each (ValidFormula P) fs → Each (λ x. member x variable_names ≡ true) (theory_variables fs) → Each (Storable N) fs
    each_storable [] p h = tt
    each_storable (f ∷ fs) p h = (
      storable_known P valid variable_names (table_names problem table) few (table_names_in problem table rows inside) f (and_left (known P f) _ p.0.named)
          (each_left _ (variables f) (theory_variables fs) h),
      each_storable fs p.1 (each_right _ (variables f) (theory_variables fs) h),
    )

  pub begun : {text : Bytes} {count full : ℕ} {names : NameTable} {work : List ℕ} (found : TheoryFound P text (predicate_index problem table) count full names work)
      → Begun problem table rows inside valid found.formulas (take full work) count
  begun {text} {count} {full} {names} {work} found =
      let few : length (names_in text names) ≤ 64 = fits-length (names_in text names) found.short in
      let T = found.formulas in
      record {
        naming = N (names_in text names) few;
        index = λ p. refl;
        sound = sound_first (N (names_in text names) few) problem table rows inside valid (λ p. refl) T
            (rw (formulas-numbered 1 T) at (valid_well P T (found_valid found)))
            (each_storable (names_in text names) few T (found_valid found) (found-variables found))
            (found-sized found);
        holds = held_first (N (names_in text names) few) T ∙ rw (found.stored, found.counted);
      }
