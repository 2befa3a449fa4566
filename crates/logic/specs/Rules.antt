-- The rules on a formula, with 13 where a rule does not fit and 14 for IQ; a rule at a path, with 12 where no formula is.
use Rattle.std.specs.Prelude.{ℕ, suc, zero, List, [], ◌∷◌, Bool, true, false, cond, not, ◌&&◌, ◌||◌, eqb}
use Rattle.std.specs.Bool.{beq}
use Rattle.grammar.specs.Outcome.{Outcome, done, refused, mapped}
use Rattle.grammar.specs.Problem.{Name, Problem, is_input, given}
use Rattle.grammar.specs.Derivation.{Rule, SNAND, SNOR, STN, EPRED, EPROP, IQ}
use Rattle.logic.specs.Formula.{Term, Terms, no_terms, term, Side, all, any, negation, implies, implied_by, equivalent, junction}
use Rattle.logic.specs.Formula.{Formula, truth, atom, equal, connective, quantifier, Formulas, no_parts, part, replace, on_sole}
use Rattle.logic.specs.Names.{closed_but}
use Rattle.logic.specs.Normal.{is_element_term, elements_only}
use Rattle.logic.specs.Meaning.{input_structure, nowhere, bind, value_of, values_of, unit, elements_to, holds}

-- what is made of a formula, or the number of the refusal
abbrev pub Rewriting : Type 0
Rewriting = Formula → Outcome ℕ Formula

-- One kind of formula, and `otherwise` for every other.
module _ {A : Type 0} (otherwise : A) where
  abbrev pub on_truth : (Bool → A) → Formula → A
  on_truth k (truth b) = k b
  on_truth k (atom p ts) = otherwise
  on_truth k (equal s t) = otherwise
  on_truth k (connective o fs) = otherwise
  on_truth k (quantifier c x g f) = otherwise

  abbrev pub on_negation : (Formula → A) → Formula → A
  on_negation k (truth b) = otherwise
  on_negation k (atom p ts) = otherwise
  on_negation k (equal s t) = otherwise
  on_negation k (connective negation fs) = on_sole otherwise k fs
  on_negation k (connective implies fs) = otherwise
  on_negation k (connective implied_by fs) = otherwise
  on_negation k (connective equivalent fs) = otherwise
  on_negation k (connective (junction c) fs) = otherwise
  on_negation k (quantifier c x g f) = otherwise

  abbrev pub on_junction : (Side → Formulas → A) → Formula → A
  on_junction k (truth b) = otherwise
  on_junction k (atom p ts) = otherwise
  on_junction k (equal s t) = otherwise
  on_junction k (connective negation fs) = otherwise
  on_junction k (connective implies fs) = otherwise
  on_junction k (connective implied_by fs) = otherwise
  on_junction k (connective equivalent fs) = otherwise
  on_junction k (connective (junction c) fs) = k c fs
  on_junction k (quantifier c x g f) = otherwise

  abbrev pub on_quantifier : (Side → Name → Formula → Formula → A) → Formula → A
  on_quantifier k (truth b) = otherwise
  on_quantifier k (atom p ts) = otherwise
  on_quantifier k (equal s t) = otherwise
  on_quantifier k (connective o fs) = otherwise
  on_quantifier k (quantifier c x g f) = k c x g f

-- SNAND and SNOR

abbrev pub is_truth : Bool → Formula → Bool
is_truth b f = on_truth false (beq b) f

abbrev pub has_truth : Bool → Formulas → Bool
has_truth b no_parts = false
has_truth b (part f fs) = is_truth b f || has_truth b fs

abbrev pub without : Bool → Formulas → Formulas
without b no_parts = no_parts
without b (part f fs) = cond (is_truth b f) (without b fs) (part f (without b fs))

-- if none is left, the value of none
abbrev pub unless_none : Side → Formulas → Formula
unless_none c no_parts = truth (unit c)
unless_none c (part f fs) = connective (junction c) (part f fs)

-- a part `false` makes an `&` so; otherwise parts `true` are dropped. An `|` likewise with the values exchanged
abbrev pub simplified : Side → Formulas → Formula
simplified c fs = cond (has_truth (not (unit c)) fs) (truth (not (unit c))) (unless_none c (without (unit c) fs))

abbrev pub is_side : Side → Side → Bool
is_side all all = true
is_side all any = false
is_side any all = false
is_side any any = true

abbrev pub simplify : Side → Rewriting
simplify c f = on_junction (refused 13) (λ d fs. cond (is_side c d) (done (simplified d fs)) (refused 13)) f

-- STN
abbrev pub negate : Rewriting
negate f = on_negation (refused 13) (on_truth (refused 13) (λ b. done (truth (not b)))) f

-- EPRED and EPROP

abbrev pub looked : Problem → Name → Terms → Outcome ℕ Formula
looked P p ts = cond (is_input P p && elements_only ts) (done (truth (given P p (values_of nowhere ts)))) (refused 13)

abbrev pub compared : Term → Term → Outcome ℕ Formula
compared s t = cond (is_element_term s && is_element_term t) (done (truth (eqb (value_of nowhere s) (value_of nowhere t)))) (refused 13)

abbrev pub evaluate_predicate : Problem → Rewriting
evaluate_predicate P (truth b) = refused 13
evaluate_predicate P (atom p no_terms) = refused 13
evaluate_predicate P (atom p (term t ts)) = looked P p (term t ts)
evaluate_predicate P (equal s t) = compared s t
evaluate_predicate P (connective o fs) = refused 13
evaluate_predicate P (quantifier c x g f) = refused 13

abbrev pub evaluate_proposition : Problem → Rewriting
evaluate_proposition P (truth b) = refused 13
evaluate_proposition P (atom p no_terms) = looked P p no_terms
evaluate_proposition P (atom p (term t ts)) = refused 13
evaluate_proposition P (equal s t) = refused 13
evaluate_proposition P (connective o fs) = refused 13
evaluate_proposition P (quantifier c x g f) = refused 13

-- IQ

-- the guard with v for x is true in the input structure
abbrev pub admits : Problem → Name → Formula → ℕ → Bool
admits P x g v = holds (input_structure P) (bind nowhere x v) g

-- the body with v for x, for each element that the guard admits
unfoldable pub instances : Problem → Name → Formula → Formula → List ℕ → Formulas
instances P x g f [] = no_parts
instances P x g f (v ∷ vs) = cond (admits P x g v) (part (replace x v f) (instances P x g f vs)) (instances P x g f vs)

abbrev pub instantiated : Problem → Side → Name → Formula → Formula → Formula
instantiated P c x g f = connective (junction c) (instances P x g f (elements_to P.domain))

abbrev pub instantiate : Problem → Rewriting
instantiate P f = on_quantifier (refused 13) (λ c x g h. cond (closed_but x g) (done (instantiated P c x g h)) (refused 14)) f

abbrev pub apply : Problem → Rule → Rewriting
apply P SNAND = simplify all
apply P SNOR = simplify any
apply P STN = negate
apply P EPRED = evaluate_predicate P
apply P EPROP = evaluate_proposition P
apply P IQ = instantiate P

-- Paths

abbrev pub into_parts : Formulas → ℕ → Rewriting → Outcome ℕ Formulas
into_parts no_parts i k = refused 12
into_parts (part f fs) zero k = mapped (λ h. part h fs) (k f)
into_parts (part f fs) (suc i) k = mapped (part f) (into_parts fs i k)

-- parts of a connective from 0; of a quantifier 0 for the guard, 1 for the body. No path enters an atom
abbrev pub into : ℕ → Rewriting → Rewriting
into i k (truth b) = refused 12
into i k (atom p ts) = refused 12
into i k (equal s t) = refused 12
into i k (connective o fs) = mapped (connective o) (into_parts fs i k)
into zero k (quantifier c x g f) = mapped (λ h. quantifier c x h f) (k g)
into (suc zero) k (quantifier c x g f) = mapped (λ h. quantifier c x g h) (k f)
into (suc (suc i)) k (quantifier c x g f) = refused 12

abbrev pub at : List ℕ → Rewriting → Rewriting
at [] k f = k f
at (i ∷ is) k f = into i (at is k) f
