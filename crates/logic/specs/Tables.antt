-- The paper's tables 1 and 3 as relations: what a rule makes of a formula, and where a path leads.
use Rattle.std.specs.Prelude.{ℕ, suc, zero, ◌≡◌, List, [], ◌∷◌, Bool, true, false, not, eqb}
use Rattle.grammar.specs.Problem.{Name, Problem, is_input, given}
use Rattle.grammar.specs.Derivation.{Rule, SNAND, SNOR, STN, EPRED, EPROP, IQ}
use Rattle.logic.specs.Formula.{Term, Terms, no_terms, term, Side, all, any, Connective, negation, junction}
use Rattle.logic.specs.Formula.{Formula, truth, atom, equal, connective, quantifier, Formulas, no_parts, part}
use Rattle.logic.specs.Names.{closed_but}
use Rattle.logic.specs.Normal.{is_element_term, elements_only}
use Rattle.logic.specs.Meaning.{nowhere, value_of, values_of, unit}
use Rattle.logic.specs.Rules.{has_truth, without, unless_none, instantiated}

-- SNAND for `&`, SNOR for `|`
abbrev pub simplification : Side → Rule
simplification all = SNAND
simplification any = SNOR

-- Table 1: the rule makes the second formula of the first
pub data Makes (P : Problem) : Rule → Formula → Formula → Type 0 where
  -- some part is `false` (`true`, for `|`)
  absorbing : (c : Side) (fs : Formulas) → has_truth (not (unit c)) fs ≡ true
      → Makes P (simplification c) (connective (junction c) fs) (truth (not (unit c)))
  -- no part is, and parts `true` (`false`) are dropped
  dropping : (c : Side) (fs : Formulas) → has_truth (not (unit c)) fs ≡ false
      → Makes P (simplification c) (connective (junction c) fs) (unless_none c (without (unit c) fs))
  negating : (b : Bool) → Makes P STN (connective negation (part (truth b) no_parts)) (truth (not b))
  predicate : (p : Name) (t : Term) (ts : Terms) → is_input P p ≡ true → elements_only (term t ts) ≡ true
      → Makes P EPRED (atom p (term t ts)) (truth (given P p (values_of nowhere (term t ts))))
  equality : (s t : Term) → is_element_term s ≡ true → is_element_term t ≡ true
      → Makes P EPRED (equal s t) (truth (eqb (value_of nowhere s) (value_of nowhere t)))
  proposition : (p : Name) → is_input P p ≡ true → Makes P EPROP (atom p no_terms) (truth (given P p []))
  instantiating : (c : Side) (x : Name) (g f : Formula) → closed_but x g ≡ true
      → Makes P IQ (quantifier c x g f) (instantiated P c x g f)

-- Table 3: a part of a list by its number, and the list with another in its place
pub data Exchanged : ℕ → Formula → Formula → Formulas → Formulas → Type 0 where
  first : (g h : Formula) (fs : Formulas) → Exchanged zero g h (part g fs) (part h fs)
  later : (i : ℕ) (g h f : Formula) (fs hs : Formulas) → Exchanged i g h fs hs → Exchanged (suc i) g h (part f fs) (part f hs)

-- the second formula is the first with what Q allows at a path
pub data AtPath (Q : Formula → Formula → Type 0) : List ℕ → Formula → Formula → Type 0 where
  here : (f h : Formula) → Q f h → AtPath Q [] f h
  in_part : (i : ℕ) (is : List ℕ) (o : Connective) (g h : Formula) (fs hs : Formulas) → Exchanged i g h fs hs → AtPath Q is g h
      → AtPath Q (i ∷ is) (connective o fs) (connective o hs)
  in_guard : (is : List ℕ) (c : Side) (x : Name) (g h f : Formula) → AtPath Q is g h → AtPath Q (0 ∷ is) (quantifier c x g f) (quantifier c x h f)
  in_body : (is : List ℕ) (c : Side) (x : Name) (g f h : Formula) → AtPath Q is f h → AtPath Q (1 ∷ is) (quantifier c x g f) (quantifier c x g h)

-- the rule, at a path, makes the second formula of the first
abbrev pub MakesAt : Problem → Rule → List ℕ → Formula → Formula → Type 0
MakesAt P r = AtPath (Makes P r)
