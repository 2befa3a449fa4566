-- A ground clause could stand in a theory: it is well spelled where output predicates' names are, in disjunctive form, and has no variable and no guard.
-- By its three shapes.
-- Assumes nothing.
use Prim.Native.Nat.{max}
use mathlib.Core.Path.{◌≡◌, refl, ap₂}
use mathlib.Core.List.{[], ◌++◌}
use mathlib.Core.Bool.{true, ◌&&◌, false≢true}
use Rattle.grammar.specs.Problem.{Name, Problem, is_output, is_name}
use Rattle.logic.specs.Formula.{element, variable, Terms, no_terms, term, Side, all, any, Formula, Formulas}
use Rattle.logic.specs.Text.{terms_spelled, spelled, all_spelled}
use Rattle.logic.specs.Normal.{permits, elements_only, has_form, all_have_form}
use Rattle.logic.specs.Limits.{guard_quantifiers, most_guard_quantifiers, terms_variables, variables, all_variables}
use Rattle.logic.proofs.Normal.{Clause, positive, negative, disjunction, Clauses, no_clauses, clause}

elements-spelled : (ts : Terms) → elements_only ts ≡ true → terms_spelled ts ≡ true
elements-spelled no_terms e = refl
elements-spelled (term (element v) ts) e = elements-spelled ts e
elements-spelled (term (variable x) ts) e = absurd (false≢true e)

elements-variables : (ts : Terms) → elements_only ts ≡ true → terms_variables ts ≡ []
elements-variables no_terms e = refl
elements-variables (term (element v) ts) e = elements-variables ts e
elements-variables (term (variable x) ts) e = absurd (false≢true e)

permits_any : (c : Side) → permits c any ≡ true
permits_any all = refl
permits_any any = refl

module _ (P : Problem) where
  mutual
    unfolding variables

    pub clause_variables : {f : Formula} → Clause P f → variables f ≡ []
    clause_variables (positive {ts = ts} o e) = elements-variables ts e
    clause_variables (negative {ts = ts} o e) = ap₂ ◌++◌ (elements-variables ts e) refl
    clause_variables (disjunction c cs) = ap₂ ◌++◌ (clause_variables c) (clauses_variables cs)

    clauses_variables : {fs : Formulas} → Clauses P fs → all_variables fs ≡ []
    clauses_variables no_clauses = refl
    clauses_variables (clause c cs) = ap₂ ◌++◌ (clause_variables c) (clauses_variables cs)

  mutual
    unfolding guard_quantifiers

    pub clause_guards : {f : Formula} → Clause P f → guard_quantifiers f ≡ 0
    clause_guards (positive {ts = ts} o e) = refl
    clause_guards (negative {ts = ts} o e) = refl
    clause_guards (disjunction c cs) = ap₂ max (clause_guards c) (clauses_guards cs)

    clauses_guards : {fs : Formulas} → Clauses P fs → most_guard_quantifiers fs ≡ 0
    clauses_guards no_clauses = refl
    clauses_guards (clause c cs) = ap₂ max (clause_guards c) (clauses_guards cs)

  mutual
    unfolding has_form

    pub clause_form : {f : Formula} → Clause P f → (c : Side) → has_form P c f ≡ true
    clause_form (positive {ts = ts} o e) c = refl
    clause_form (negative {ts = ts} o e) c = refl
    clause_form (disjunction k ks) c = ap₂ ◌&&◌ (permits_any c) (ap₂ ◌&&◌ (clause_form k any) (clauses_form ks any))

    clauses_form : {fs : Formulas} → Clauses P fs → (c : Side) → all_have_form P c fs ≡ true
    clauses_form no_clauses c = refl
    clauses_form (clause k ks) c = ap₂ ◌&&◌ (clause_form k c) (clauses_form ks c)

  module _ (names : (p : Name) → is_output P p ≡ true → is_name p ≡ true) where
    mutual
      unfolding spelled

      pub clause_spelled : {f : Formula} → Clause P f → spelled f ≡ true
      clause_spelled (positive {ts = ts} o e) = ap₂ ◌&&◌ (names _ o) (elements-spelled ts e)
      clause_spelled (negative {ts = ts} o e) = ap₂ ◌&&◌ (ap₂ ◌&&◌ (names _ o) (elements-spelled ts e)) refl
      clause_spelled (disjunction c cs) = ap₂ ◌&&◌ (clause_spelled c) (clauses_spelled cs)

      clauses_spelled : {fs : Formulas} → Clauses P fs → all_spelled fs ≡ true
      clauses_spelled no_clauses = refl
      clauses_spelled (clause c cs) = ap₂ ◌&&◌ (clause_spelled c) (clauses_spelled cs)
