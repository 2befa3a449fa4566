-- What is told of a formula, by its kind and by what is told of its parts.
-- Assumes nothing.
use Prim.Native.Nat.{ℕ, ◌≤◌, max}
use native.Mathlib.Nat.{zero-max, max-zero}
use native.Mathlib.Numerals.{add-one}
use native.Mathlib.Omega.{arith}
use mathlib.Core.Path.{◌≡◌, refl, ◌∙◌}
use mathlib.Core.List.{List, [], ◌∷◌, ◌++◌}
use mathlib.Core.Bool.{Bool, true, false, ◌&&◌, and-true, and_assoc, false≢true}
use Rattle.grammar.specs.Problem.{Name, Problem, predicates, declared, is_input}
use Rattle.logic.specs.Formula.{Terms, term_count, Side, all, any, Connective, negation, implies, implied_by, equivalent, junction}
use Rattle.logic.specs.Formula.{Term, Formula, truth, atom, equal, connective, quantifier, Formulas, no_parts, part, parts_of, size, sizes}
use Rattle.logic.specs.Text.{takes}
use Rattle.logic.specs.Names.{term_known, terms_known, known, all_known, besides, term_closed, terms_closed, closed, all_closed}
use Rattle.logic.specs.Normal.{mentions_only, is_simple, has_form}
use Rattle.logic.specs.Limits.{quantifiers, most_quantifiers, guard_quantifiers}
use Rattle.terms.specs.declared.fact.Facts.{Facts}
use Rattle.terms.specs.memory.Facts.{facts_of, all_facts_of, simple_facts, beside, connective_facts, quantifier_facts}

pub and_swap : (a b c d : Bool) → ((a && b) && (c && d)) ≡ ((a && c) && (b && d))
and_swap true true c d = refl
and_swap true false true d = refl
and_swap true false false d = refl
and_swap false b c d = refl

max_assoc : (a b c : ℕ) → max (max a b) c ≡ max a (max b c)
max_assoc a b c = omega arith

beside_assoc : (a b c : Facts) → beside a (beside b c) ≡ beside (beside a b) c
beside_assoc a b c = simp (and_assoc, max_assoc)

module _ (P : Problem) (bound : Name → Bool) where
  pub facts_truth : (b : Bool) → facts_of P bound (truth b) ≡ simple_facts true true
  unfolding facts_of known closed mentions_only has_form quantifiers guard_quantifiers
  facts_truth b = refl

  pub facts_atom : (p : Name) (ts : Terms)
      → facts_of P bound (atom p ts) ≡ simple_facts (declared (predicates P) p (term_count ts) && (terms_known P.domain ts && terms_closed bound ts)) (is_input P p)
  unfolding facts_of known closed mentions_only has_form quantifiers guard_quantifiers
  facts_atom p ts = rw (and_assoc (declared (predicates P) p (term_count ts)) (terms_known P.domain ts) (terms_closed bound ts))

  pub facts_equal : (s t : Term)
      → facts_of P bound (equal s t) ≡ simple_facts ((term_known P.domain s && term_known P.domain t) && (term_closed bound s && term_closed bound t)) true
  unfolding facts_of known closed mentions_only has_form quantifiers guard_quantifiers
  facts_equal s t = refl

  pub facts_none : all_facts_of P bound no_parts ≡ simple_facts true true
  unfolding all_facts_of known closed mentions_only has_form quantifiers guard_quantifiers
  facts_none = refl

  facts_part : (f : Formula) (fs : Formulas) → all_facts_of P bound (part f fs) ≡ beside (facts_of P bound f) (all_facts_of P bound fs)
  unfolding facts_of all_facts_of known closed mentions_only has_form quantifiers guard_quantifiers
  facts_part f fs = rw (and_swap (known P f) (all_known P fs) (closed bound f) (all_closed bound fs))

  facts_first : (f : Formula) → all_facts_of P bound (part f no_parts) ≡ beside (all_facts_of P bound no_parts) (facts_of P bound f)
  unfolding facts_of all_facts_of known closed mentions_only has_form quantifiers guard_quantifiers
  facts_first f = simp (and-true, zero-max, max-zero)

  -- of formulas and one more behind them
  pub facts_last : (fs : List Formula) (f : Formula)
      → all_facts_of P bound (parts_of (fs ++ (f ∷ []))) ≡ beside (all_facts_of P bound (parts_of fs)) (facts_of P bound f)
  facts_last [] f = facts_first f
  facts_last (g ∷ fs) f =
      facts_part g (parts_of (fs ++ (f ∷ [])))
      ∙ rw (facts_last fs f, facts_part g (parts_of fs)) (beside_assoc (facts_of P bound g) (all_facts_of P bound (parts_of fs)) (facts_of P bound f))

  pub facts_connective : (o : Connective) (fs : Formulas) → takes o fs ≡ true → facts_of P bound (connective o fs) ≡ connective_facts o (all_facts_of P bound fs)
  unfolding facts_of all_facts_of known closed mentions_only has_form quantifiers guard_quantifiers
  facts_connective negation no_parts e = absurd (false≢true e)
  facts_connective negation (part f no_parts) e = rw (and-true (is_simple f))
  facts_connective negation (part f (part g fs)) e = absurd (false≢true e)
  facts_connective implies fs e = refl
  facts_connective implied_by fs e = refl
  facts_connective equivalent fs e = refl
  facts_connective (junction all) fs e = refl
  facts_connective (junction any) fs e = refl

  pub facts_quantifier : (c : Side) (x : Name) (g f : Formula)
      → facts_of P bound (quantifier c x g f) ≡ quantifier_facts c (facts_of P (besides x bound) g) (facts_of P (besides x bound) f)
  unfolding facts_of known closed mentions_only has_form quantifiers guard_quantifiers
  facts_quantifier all x g f =
      rw (and_swap (known P g) (known P f) (closed (besides x bound) g) (closed (besides x bound) f), add-one (max (quantifiers g) (quantifiers f)))
  facts_quantifier any x g f =
      rw (and_swap (known P g) (known P f) (closed (besides x bound) g) (closed (besides x bound) f), add-one (max (quantifiers g) (quantifiers f)))

-- quantifiers on a path are parts of the formula
mutual
  unfolding quantifiers size

  pub quantifiers-size : (f : Formula) → quantifiers f ≤ size f
  quantifiers-size (truth b) = omega arith
  quantifiers-size (atom p ts) = omega arith
  quantifiers-size (equal s t) = omega arith
  quantifiers-size (connective o fs) = omega (arith, most_quantifiers-sizes fs)
  quantifiers-size (quantifier c x g f) = omega (arith, quantifiers-size g, quantifiers-size f)

  most_quantifiers-sizes : (fs : Formulas) → most_quantifiers fs ≤ sizes fs
  most_quantifiers-sizes no_parts = omega arith
  most_quantifiers-sizes (part f fs) = omega (arith, quantifiers-size f, most_quantifiers-sizes fs)
