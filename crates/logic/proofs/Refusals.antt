-- Which numbers a formula's text and a rule at a path are refused with: every reader by a search through the laws of readers, every rule by the
-- kinds of formulas.
-- Assumes nothing.
use Prim.Native.Nat.{ℕ, suc, zero}
use mathlib.Core.List.{List, [], ◌∷◌}
use Rattle.grammar.specs.Reading.{Reading}
use Rattle.grammar.specs.Problem.{Problem, read_name}
use Rattle.grammar.specs.Derivation.{Rule, SNAND, SNOR, STN, EPRED, EPROP, IQ}
use Rattle.grammar.proofs.Refusals.{Refuses, never, only, refuses-mapped, outcomes, OnlyRefuses, EachRefuses, only_refuse, only_one_of, readers}
use Rattle.logic.specs.Formula.{no_terms, term, Side, all, any, Connective, Formula, truth, atom, equal, connective, quantifier, Formulas, no_parts, part}
use Rattle.logic.specs.Reading.{read_variable, read_term, read_equality, read_arguments, read_atom, read_negation, read_two, read_parts, read_junction, read_quantifier}
use Rattle.logic.specs.Reading.{formula_kinds, read_formula}
use Rattle.logic.specs.Rules.{Rewriting, simplify, evaluate_predicate, evaluate_proposition, apply, into_parts, into, at}
use Rattle.logic.proofs.Rules.{on_truth_cases, on_negation_cases, on_junction_cases, on_quantifier_cases}

-- A formula's text: 5, and 6 where no level is left.

module _ {N : ℕ → Type 0} (malformed : N 5) where
  read_term-refuses : OnlyRefuses N read_term
  unfolding read_term read_variable
  read_term-refuses = search readers

  read_equality-refuses : OnlyRefuses N read_equality
  unfolding read_equality
  read_equality-refuses = search (readers, read_term-refuses)

  read_atom-refuses : OnlyRefuses N read_atom
  unfolding read_atom read_arguments read_name
  read_atom-refuses = search (readers, read_term-refuses) depth 8

  module _ {r : Reading Formula} (inner : OnlyRefuses N r) where
    read_two-refuses : (o : Connective) → OnlyRefuses N (read_two r o)
    unfolding read_two
    read_two-refuses o = search readers

    read_junction-refuses : (c : Side) → OnlyRefuses N (read_junction r c)
    unfolding read_junction read_parts
    read_junction-refuses c = search readers

    read_quantifier-refuses : (c : Side) → OnlyRefuses N (read_quantifier r c)
    unfolding read_quantifier read_variable
    read_quantifier-refuses c = search readers depth 8

    formula_kinds-refuses : EachRefuses N (formula_kinds r)
    unfolding formula_kinds read_negation
    formula_kinds-refuses = search (readers, read_equality-refuses, read_two-refuses, read_junction-refuses, read_quantifier-refuses) depth 16

  pub read_formula-refuses : N 6 → (levels : ℕ) → OnlyRefuses N (read_formula levels)
  unfolding read_formula
  read_formula-refuses deep zero = only_refuse 6 deep
  read_formula-refuses deep (suc levels) = only_one_of (formula_kinds-refuses (read_formula-refuses deep levels)) read_atom-refuses

-- A rule: 13 where it does not fit, and 14 for a guard with another variable.

module _ {N : ℕ → Type 0} (unfitting : N 13) (free : N 14) (P : Problem) where
  simplify-refuses : (c : Side) (f : Formula) → Refuses N (simplify c f)
  simplify-refuses c = on_junction_cases _ (λ f. Refuses N) (λ f. only unfitting) _ (λ d fs. search outcomes)

  evaluate_predicate-refuses : (f : Formula) → Refuses N (evaluate_predicate P f)
  evaluate_predicate-refuses (truth b) = only unfitting
  evaluate_predicate-refuses (atom p no_terms) = only unfitting
  evaluate_predicate-refuses (atom p (term t ts)) = search outcomes
  evaluate_predicate-refuses (equal s t) = search outcomes
  evaluate_predicate-refuses (connective o fs) = only unfitting
  evaluate_predicate-refuses (quantifier c x g f) = only unfitting

  evaluate_proposition-refuses : (f : Formula) → Refuses N (evaluate_proposition P f)
  evaluate_proposition-refuses (truth b) = only unfitting
  evaluate_proposition-refuses (atom p no_terms) = search outcomes
  evaluate_proposition-refuses (atom p (term t ts)) = only unfitting
  evaluate_proposition-refuses (equal s t) = only unfitting
  evaluate_proposition-refuses (connective o fs) = only unfitting
  evaluate_proposition-refuses (quantifier c x g f) = only unfitting

  pub apply-refuses : (r : Rule) (f : Formula) → Refuses N (apply P r f)
  apply-refuses SNAND = simplify-refuses all
  apply-refuses SNOR = simplify-refuses any
  apply-refuses STN = on_negation_cases _ (λ f. Refuses N) (λ f. only unfitting) _ (on_truth_cases _ (λ f. Refuses N) (λ f. only unfitting) _ (λ b. never _))
  apply-refuses EPRED = evaluate_predicate-refuses
  apply-refuses EPROP = evaluate_proposition-refuses
  apply-refuses IQ = on_quantifier_cases _ (λ f. Refuses N) (λ f. only unfitting) _ (λ c x g f. search outcomes)

-- Whatever is done at a path: 12 besides, where no formula is.

module _ {N : ℕ → Type 0} (nowhere : N 12) where
  module _ {k : Rewriting} (inner : (f : Formula) → Refuses N (k f)) where
    into_parts-refuses : (fs : Formulas) (i : ℕ) → Refuses N (into_parts fs i k)
    into_parts-refuses no_parts i = only nowhere
    into_parts-refuses (part f fs) zero = refuses-mapped _ (inner f)
    into_parts-refuses (part f fs) (suc i) = refuses-mapped _ (into_parts-refuses fs i)

    into-refuses : (i : ℕ) (f : Formula) → Refuses N (into i k f)
    into-refuses i (truth b) = only nowhere
    into-refuses i (atom p ts) = only nowhere
    into-refuses i (equal s t) = only nowhere
    into-refuses i (connective o fs) = refuses-mapped _ (into_parts-refuses fs i)
    into-refuses zero (quantifier c x g f) = refuses-mapped _ (inner g)
    into-refuses (suc zero) (quantifier c x g f) = refuses-mapped _ (inner f)
    into-refuses (suc (suc i)) (quantifier c x g f) = only nowhere

  pub at-refuses : {k : Rewriting} → ((f : Formula) → Refuses N (k f)) → (path : List ℕ) (f : Formula) → Refuses N (at path k f)
  at-refuses inner [] = inner
  at-refuses inner (i ∷ is) = into-refuses (at-refuses inner is) i
