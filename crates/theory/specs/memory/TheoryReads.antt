-- What the code tells of a theory's text, and what memory holds of it.
use Rattle.std.specs.Prelude.{ℕ, ◌≡◌, List, [], Bool, true, ◌&&◌, leb, Result, Ok, Err, length, take}
use Rattle.grammar.specs.Sizes.{guard_quantifier_count, formula_count, theory_size}
use Rattle.grammar.specs.Bytes.{Bytes}
use Rattle.grammar.specs.Outcome.{done, refused}
use Rattle.grammar.specs.Lines.{refusal}
use Rattle.grammar.specs.Problem.{Name, Problem}
use Rattle.logic.specs.Formula.{Formula, parts_of}
use Rattle.logic.specs.Limits.{theory_variables, size_total, limits_fit}
use Rattle.demands.specs.TheoryText.{theory_of}
use Rattle.words.specs.memory.Words.{all_words}
use Rattle.terms.specs.memory.NameTable.{extended_by, index_in, names_in, list_fits}
use Rattle.terms.specs.declared.name_table.NameTable.{NameTable}
use Rattle.reading.specs.memory.Faults.{number_of}
use Rattle.theory.specs.declared.theory_reader.Theory.{Theory}
use Rattle.theory.specs.declared.theory_reader.Refusal.{Refusal}

-- number 9 by the totals so far, the most quantifiers on a path inside a guard of the last formula, and the variables' table
abbrev pub totals_fit : (full count guarded : ℕ) → List Name → Bool
totals_fit full count guarded names = leb full theory_size && (leb count formula_count && (leb guarded guard_quantifier_count && list_fits names))

-- the text is a theory: its formulas' words stand at the front of memory, one formula after the other, with the variables' indices of the table
pub record TheoryFound (P : Problem) (text : Bytes) (index : Name → ℕ) (count full : ℕ) (names : NameTable) (work : List ℕ) : Type 0 where
  pub formulas : List Formula
  pub is : theory_of P text ≡ done formulas
  pub counted : count ≡ length formulas
  pub measured : full ≡ size_total formulas
  pub fits : limits_fit formulas ≡ true
  pub listed : names_in text names ≡ extended_by [] (theory_variables formulas)
  pub short : list_fits (names_in text names) ≡ true
  pub stored : take full work ≡ all_words (index_in (names_in text names)) index (parts_of formulas)

abbrev pub ToldTheory : Problem → Bytes → (Name → ℕ) → Result Theory Refusal → NameTable → List ℕ → Type 0
ToldTheory P text index (Ok theory) names work = TheoryFound P text index theory.count theory.full names work
ToldTheory P text index (Err r) names work = theory_of P text ≡ refused (refusal (number_of r.fault) 2 r.line)
