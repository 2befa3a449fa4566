-- Valid theories of a problem: what 5 to 9 ask for. Just these have a text that is read.
use Rattle.std.specs.Prelude.{◌≤◌, ◌≡◌, List, true}
use Rattle.grammar.specs.Sizes.{level_count}
use Rattle.grammar.specs.Each.{Each}
use Rattle.grammar.specs.Problem.{Problem}
use Rattle.logic.specs.Formula.{Formula, depth}
use Rattle.logic.specs.Text.{spelled}
use Rattle.logic.specs.Names.{names_fit}
use Rattle.logic.specs.Normal.{is_gnf}
use Rattle.logic.specs.Limits.{limits_fit}

-- well spelled, of at most 32 levels; predicates known with their arity, elements of the domain, no variable free; in GNF
pub record ValidFormula (P : Problem) (f : Formula) : Type 0 where
  pub well_spelled : spelled f ≡ true  -- 5
  pub shallow : depth f ≤ level_count  -- 6
  pub named : names_fit P f ≡ true  -- 7
  pub normal : is_gnf P f ≡ true  -- 8

-- valid formulas, and all together within the limits: their number and size, different variables and the length of their names, quantifiers inside guards
pub record ValidTheory (P : Problem) (T : List Formula) : Type 0 where
  pub formulas : Each (ValidFormula P) T
  pub limited : limits_fit T ≡ true  -- 9
