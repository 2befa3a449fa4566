-- The functions of specs/Rules decide the relations of specs/Tables. The table of rules against formulas is gone through here, once: a property of
-- what the rules make is proved by the relation's cases.
-- Assumes nothing.
use Prim.Native.Nat.{ℕ, suc, zero}
use mathlib.Core.Path.{◌≡◌, refl}
use mathlib.Core.List.{List, [], ◌∷◌}
use mathlib.Core.Bool.{Bool, true, false, cond, not, ◌&&◌}
use Rattle.grammar.specs.Outcome.{Outcome, done, refused}
use Rattle.grammar.specs.Problem.{Problem, is_input}
use Rattle.grammar.specs.Derivation.{Rule, SNAND, SNOR, STN, EPRED, EPROP, IQ}
use Rattle.grammar.proofs.Laws.{and_left, and_right}
use Rattle.grammar.proofs.Outcome.{Allowed, allowed_mapped, allowed_weaken, allowed_cond}
use Rattle.logic.specs.Formula.{no_terms, term, Side, all, any, negation, junction, Formula, truth, atom, equal, connective, quantifier, Formulas, no_parts, part}
use Rattle.logic.specs.Names.{closed_but}
use Rattle.logic.specs.Normal.{is_element_term, elements_only}
use Rattle.logic.specs.Meaning.{unit}
use Rattle.logic.specs.Rules.{Rewriting, has_truth, without, unless_none, simplified, is_side, simplify, evaluate_predicate, evaluate_proposition}
use Rattle.logic.specs.Rules.{apply, into_parts, into, at}
use Rattle.logic.specs.Tables.{simplification, Makes, absorbing, dropping, negating, predicate, equality, proposition, instantiating}
use Rattle.logic.specs.Tables.{Exchanged, first, later, AtPath, MakesAt, here, in_part, in_guard, in_body}
use Rattle.logic.proofs.Rules.{on_truth_cases, on_negation_cases, on_junction_cases, on_quantifier_cases}

module _ (P : Problem) where
  -- what the rule r may make of a formula; a refusal is free
  abbrev Made : Rule → Formula → Outcome ℕ Formula → Type 0
  Made r f o = Allowed (Makes P r f) o

  simplified_made : (c : Side) (fs : Formulas) → Makes P (simplification c) (connective (junction c) fs) (simplified c fs)
  simplified_made c fs = pick (has_truth (not (unit c)) fs) refl
    where
      pick : (b : Bool) → has_truth (not (unit c)) fs ≡ b
          → Makes P (simplification c) (connective (junction c) fs) (cond b (truth (not (unit c))) (unless_none c (without (unit c) fs)))
      pick true e = absorbing c fs e
      pick false e = dropping c fs e

  simplify_made : (c : Side) (f : Formula) → Made (simplification c) f (simplify c f)
  simplify_made c = on_junction_cases (refused 13) (Made (simplification c)) (λ f. tt) _ (side c)
    where
      side : (c d : Side) (fs : Formulas) → Made (simplification c) (connective (junction d) fs) (cond (is_side c d) (done (simplified d fs)) (refused 13))
      side all all fs = simplified_made all fs
      side all any fs = tt
      side any all fs = tt
      side any any fs = simplified_made any fs

  evaluate_predicate_made : (f : Formula) → Made EPRED f (evaluate_predicate P f)
  evaluate_predicate_made (truth b) = tt
  evaluate_predicate_made (atom p no_terms) = tt
  evaluate_predicate_made (atom p (term t ts)) =
      allowed_cond (Makes P EPRED (atom p (term t ts))) _ 13 (is_input P p && elements_only (term t ts))
      (λ e. predicate p t ts (and_left (is_input P p) _ e) (and_right (is_input P p) _ e))
  evaluate_predicate_made (equal s t) =
      allowed_cond (Makes P EPRED (equal s t)) _ 13 (is_element_term s && is_element_term t)
      (λ e. equality s t (and_left (is_element_term s) _ e) (and_right (is_element_term s) _ e))
  evaluate_predicate_made (connective o fs) = tt
  evaluate_predicate_made (quantifier c x g f) = tt

  evaluate_proposition_made : (f : Formula) → Made EPROP f (evaluate_proposition P f)
  evaluate_proposition_made (truth b) = tt
  evaluate_proposition_made (atom p no_terms) =
      allowed_cond (Makes P EPROP (atom p no_terms)) _ 13 (is_input P p && true) (λ e. proposition p (and_left (is_input P p) _ e))
  evaluate_proposition_made (atom p (term t ts)) = tt
  evaluate_proposition_made (equal s t) = tt
  evaluate_proposition_made (connective o fs) = tt
  evaluate_proposition_made (quantifier c x g f) = tt

  -- a rule makes only what the table says
  pub apply_makes : (r : Rule) (f : Formula) → Allowed (Makes P r f) (apply P r f)
  apply_makes SNAND f = simplify_made all f
  apply_makes SNOR f = simplify_made any f
  apply_makes STN f =
      on_negation_cases (refused 13) (Made STN) (λ f. tt) _
      (on_truth_cases (refused 13) (λ f. Made STN (connective negation (part f no_parts))) (λ f. tt) _ negating) f
  apply_makes EPRED f = evaluate_predicate_made f
  apply_makes EPROP f = evaluate_proposition_made f
  apply_makes IQ f =
      on_quantifier_cases (refused 13) (Made IQ) (λ f. tt) _
      (λ c x g h. allowed_cond (Makes P IQ (quantifier c x g h)) _ 14 (closed_but x g) (instantiating c x g h)) f

  simplify_own : (c : Side) (fs : Formulas) → apply P (simplification c) (connective (junction c) fs) ≡ done (simplified c fs)
  simplify_own all fs = refl
  simplify_own any fs = refl

  -- and all that the table says
  pub makes_apply : {r : Rule} {f h : Formula} → Makes P r f h → apply P r f ≡ done h
  makes_apply (absorbing c fs e) = rw (simplify_own c fs, e)
  makes_apply (dropping c fs e) = rw (simplify_own c fs, e)
  makes_apply (negating b) = refl
  makes_apply (predicate p t ts i e) = rw (i, e)
  makes_apply (equality s t d e) = rw (d, e)
  makes_apply (proposition p i) = rw i
  makes_apply (instantiating c x g k e) = rw e

-- Paths.

-- parts of which one is exchanged, as Q says
abbrev OneExchanged : (Formula → Formula → Type 0) → ℕ → Formulas → Formulas → Type 0
OneExchanged Q i fs hs = (g : Formula) × (h : Formula) × Exchanged i g h fs hs × Q g h

into_parts-exchanged : (Q : Formula → Formula → Type 0) (k : Rewriting) → ((f : Formula) → Allowed (Q f) (k f))
    → (fs : Formulas) (i : ℕ) → Allowed (OneExchanged Q i fs) (into_parts fs i k)
into_parts-exchanged Q k made no_parts i = tt
into_parts-exchanged Q k made (part f fs) zero =
    allowed_mapped (Q f) (OneExchanged Q zero (part f fs)) (λ h. part h fs) (λ h q. (f, h, first f h fs, q)) (k f) (made f)
into_parts-exchanged Q k made (part f fs) (suc i) =
    allowed_mapped (OneExchanged Q i fs) (OneExchanged Q (suc i) (part f fs)) (part f)
    (λ hs (g, h, e, q). (g, h, later i g h f fs hs e, q)) (into_parts fs i k) (into_parts-exchanged Q k made fs i)

exchanged-into_parts : (k : Rewriting) {i : ℕ} {g h : Formula} {fs hs : Formulas} → Exchanged i g h fs hs → k g ≡ done h → into_parts fs i k ≡ done hs
exchanged-into_parts k (first g h fs) e = rw e
exchanged-into_parts k (later i g h f fs hs q) e = rw (exchanged-into_parts k q e)

-- what a rewriting makes at a path, where Q says what it makes of a formula
module _ (Q : Formula → Formula → Type 0) where
  into-path : (i : ℕ) (is : List ℕ) (k : Rewriting) → ((f : Formula) → Allowed (AtPath Q is f) (k f))
      → (f : Formula) → Allowed (AtPath Q (i ∷ is) f) (into i k f)
  into-path i is k made (truth b) = tt
  into-path i is k made (atom p ts) = tt
  into-path i is k made (equal s t) = tt
  into-path i is k made (connective o fs) =
      allowed_mapped (OneExchanged (AtPath Q is) i fs) (AtPath Q (i ∷ is) (connective o fs)) (connective o)
      (λ hs (g, h, e, q). in_part i is o g h fs hs e q) (into_parts fs i k) (into_parts-exchanged (AtPath Q is) k made fs i)
  into-path zero is k made (quantifier c x g f) =
      allowed_mapped (AtPath Q is g) (AtPath Q (0 ∷ is) (quantifier c x g f)) (λ h. quantifier c x h f)
      (λ h q. in_guard is c x g h f q) (k g) (made g)
  into-path (suc zero) is k made (quantifier c x g f) =
      allowed_mapped (AtPath Q is f) (AtPath Q (1 ∷ is) (quantifier c x g f)) (λ h. quantifier c x g h)
      (λ h q. in_body is c x g f h q) (k f) (made f)
  into-path (suc (suc i)) is k made (quantifier c x g f) = tt

  pub at_path : (k : Rewriting) → ((f : Formula) → Allowed (Q f) (k f)) → (path : List ℕ) (f : Formula) → Allowed (AtPath Q path f) (at path k f)
  at_path k made [] f = allowed_weaken (Q f) (AtPath Q [] f) (λ h q. here f h q) (k f) (made f)
  at_path k made (i ∷ is) f = into-path i is (at is k) (λ h. at_path k made is h) f

  pub path-at : (k : Rewriting) → ((f h : Formula) → Q f h → k f ≡ done h) → {path : List ℕ} {f h : Formula} → AtPath Q path f h → at path k f ≡ done h
  path-at k made (here f h q) = made f h q
  path-at k made (in_part i is o g h fs hs e q) = rw (exchanged-into_parts (at is k) e (path-at k made q))
  path-at k made (in_guard is c x g h f q) = rw (path-at k made q)
  path-at k made (in_body is c x g f h q) = rw (path-at k made q)

module _ (P : Problem) (r : Rule) where
  -- a rule at a path makes only what the tables say
  pub at_makes : (path : List ℕ) (f : Formula) → Allowed (MakesAt P r path f) (at path (apply P r) f)
  at_makes = at_path (Makes P r) (apply P r) (apply_makes P r)

  -- and all that the tables say
  pub makes_at : {path : List ℕ} {f h : Formula} → MakesAt P r path f h → at path (apply P r) f ≡ done h
  makes_at q = path-at (Makes P r) (apply P r) (λ f h m. makes_apply P m) q

-- where nothing is allowed, nothing is at any path
pub path_never : {path : List ℕ} {f h : Formula} → AtPath (λ f h. ⊥) path f h → ⊥
path_never (here f h q) = q
path_never (in_part i is o g h fs hs e q) = path_never q
path_never (in_guard is c x g h f q) = path_never q
path_never (in_body is c x g f h q) = path_never q
