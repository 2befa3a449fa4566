-- Number 8: literals, disjunctive form and GNF; and ground clauses, number 17.
use Rattle.std.specs.Prelude.{Bool, true, false, ◌&&◌}
use Rattle.grammar.specs.Problem.{Name, Problem, is_input, is_output}
use Rattle.logic.specs.Formula.{Term, element, variable, Terms, no_terms, term, Side, all, any, Connective, negation, implies, implied_by, equivalent, junction}
use Rattle.logic.specs.Formula.{Formula, truth, atom, equal, connective, quantifier, Formulas, no_parts, part, on_sole}

-- every predicate passes a test
unfoldable mutual
  pub mentions_only : (Name → Bool) → Formula → Bool
  mentions_only test (truth b) = true
  mentions_only test (atom p ts) = test p
  mentions_only test (equal s t) = true
  mentions_only test (connective o fs) = all_mention_only test fs
  mentions_only test (quantifier c x g f) = mentions_only test g && mentions_only test f

  pub all_mention_only : (Name → Bool) → Formulas → Bool
  all_mention_only test no_parts = true
  all_mention_only test (part f fs) = mentions_only test f && all_mention_only test fs

-- its predicates are all input predicates
abbrev pub inputs_only : Problem → Formula → Bool
inputs_only P f = mentions_only (is_input P) f

-- a truth value, an atom or an equality
abbrev pub is_simple : Formula → Bool
is_simple (truth b) = true
is_simple (atom p ts) = true
is_simple (equal s t) = true
is_simple (connective o fs) = false
is_simple (quantifier c x g f) = false

-- GNF is the form of `all`, disjunctive form that of `any`: below `|` and `?` no `&` or `!` stands
abbrev pub permits : Side → Side → Bool
permits all d = true
permits any all = false
permits any any = true

-- a connective of that form, where `parts d` says that the parts have the form of d
abbrev pub connective_form : Side → (Side → Bool) → Connective → Formulas → Bool
connective_form c parts negation fs = on_sole false is_simple fs
connective_form c parts implies fs = false
connective_form c parts implied_by fs = false
connective_form c parts equivalent fs = false
connective_form c parts (junction d) fs = permits c d && parts d

unfoldable mutual
  pub has_form : Problem → Side → Formula → Bool
  has_form P c (truth b) = true
  has_form P c (atom p ts) = true
  has_form P c (equal s t) = true
  has_form P c (connective o fs) = connective_form c (λ d. all_have_form P d fs) o fs
  has_form P c (quantifier d x g f) = permits c d && (inputs_only P g && has_form P d f)

  pub all_have_form : Problem → Side → Formulas → Bool
  all_have_form P c no_parts = true
  all_have_form P c (part f fs) = has_form P c f && all_have_form P c fs

abbrev pub is_gnf : Problem → Formula → Bool
is_gnf P f = has_form P all f

-- with elements only
abbrev pub is_element_term : Term → Bool
is_element_term (element v) = true
is_element_term (variable x) = false

abbrev pub elements_only : Terms → Bool
elements_only no_terms = true
elements_only (term t ts) = is_element_term t && elements_only ts

-- an atom of an output predicate with elements only
abbrev pub is_ground_atom : Problem → Formula → Bool
is_ground_atom P (truth b) = false
is_ground_atom P (atom p ts) = is_output P p && elements_only ts
is_ground_atom P (equal s t) = false
is_ground_atom P (connective o fs) = false
is_ground_atom P (quantifier c x g f) = false

-- one such negated, or `|` of one or more clauses
abbrev pub connective_clause : Problem → Bool → Connective → Formulas → Bool
connective_clause P parts negation fs = on_sole false (is_ground_atom P) fs
connective_clause P parts implies fs = false
connective_clause P parts implied_by fs = false
connective_clause P parts equivalent fs = false
connective_clause P parts (junction all) fs = false
connective_clause P parts (junction any) no_parts = false
connective_clause P parts (junction any) (part f fs) = parts

unfoldable mutual
  pub is_clause : Problem → Formula → Bool
  is_clause P (truth b) = false
  is_clause P (atom p ts) = is_ground_atom P (atom p ts)
  is_clause P (equal s t) = false
  is_clause P (connective o fs) = connective_clause P (all_clauses P fs) o fs
  is_clause P (quantifier c x g f) = false

  pub all_clauses : Problem → Formulas → Bool
  all_clauses P no_parts = true
  all_clauses P (part f fs) = is_clause P f && all_clauses P fs
