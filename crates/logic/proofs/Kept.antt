-- Every rule, at every path, keeps a formula well formed; so does an element of the domain put for a bound variable. By the cases of the tables.
-- Assumes nothing.
use Prim.Native.Nat.{ℕ, suc, zero, ◌+◌, ◌≤◌, ◌<◌}
use native.Mathlib.Omega.{arith}
use mathlib.Core.Path.{◌≡◌, refl, ap, ap₂, fun_ext}
use mathlib.Core.List.{List, [], ◌∷◌}
use mathlib.Core.Bool.{Bool, true, false, cond, ◌&&◌, ◌||◌, or_self_left}
use borrow.Author.Tests.{le-leb}
use Rattle.grammar.specs.Bytes.{same, every}
use Rattle.grammar.specs.Problem.{Name, Problem, is_element, predicates, declared}
use Rattle.grammar.specs.Derivation.{Rule}
use Rattle.grammar.proofs.Laws.{and_left, and_right, same_true}
use Rattle.grammar.proofs.Outcome.{Allowed, allowed_weaken}
use Rattle.logic.specs.Formula.{Term, element, variable, Terms, no_terms, term, term_count, Side, replace_term, replace_terms, replace, replaces}
use Rattle.logic.specs.Formula.{Formula, truth, atom, equal, connective, quantifier, Formulas, no_parts, part}
use Rattle.logic.specs.Names.{term_known, terms_known, known, besides, term_closed, terms_closed, closed}
use Rattle.logic.specs.Meaning.{count_from, elements_to}
use Rattle.logic.specs.Rules.{is_truth, without, unless_none, admits, instances, apply, at}
use Rattle.logic.specs.Tables.{Makes, absorbing, dropping, negating, predicate, equality, proposition, instantiating}
use Rattle.logic.specs.Tables.{Exchanged, first, later, MakesAt, here, in_part, in_guard, in_body}
use Rattle.logic.proofs.Tables.{at_makes}
use Rattle.logic.proofs.WellFormed.{WellFormed, of_truth, of_atom, of_equal, of_connective, of_quantifier, AllWellFormed, of_none, of_part}

-- An element put for a variable.

-- bound twice is bound once, and the order does not matter
besides_again : (bound : Name → Bool) (x y : Name) → same y x ≡ true → besides y (besides x bound) ≡ besides y bound
besides_again bound x y e = fun_ext (λ z. rw (same_true y x e) (or_self_left (same z x) (bound z)))

besides_swap : (bound : Name → Bool) (x y : Name) → besides y (besides x bound) ≡ besides x (besides y bound)
besides_swap bound x y = fun_ext (λ z. pick (same z y) (same z x) (bound z))
  where
    pick : (a b d : Bool) → (a || (b || d)) ≡ (b || (a || d))
    pick true true d = refl
    pick true false d = refl
    pick false b d = refl

pub term_count-replace : (x : Name) (v : ℕ) (ts : Terms) → term_count (replace_terms x v ts) ≡ term_count ts
term_count-replace x v no_terms = refl
term_count-replace x v (term t ts) = ap suc (term_count-replace x v ts)

module _ (P : Problem) (x : Name) (v : ℕ) (in_domain : is_element P.domain v ≡ true) where
  term_known-replace : (t : Term) → term_known P.domain t ≡ true → term_known P.domain (replace_term x v t) ≡ true
  term_known-replace (element k) e = e
  term_known-replace (variable y) e = pick (same y x)
    where
      pick : (b : Bool) → term_known P.domain (cond b (element v) (variable y)) ≡ true
      pick true = in_domain
      pick false = refl

  terms_known-replace : (ts : Terms) → terms_known P.domain ts ≡ true → terms_known P.domain (replace_terms x v ts) ≡ true
  terms_known-replace no_terms e = refl
  terms_known-replace (term t ts) e =
      ap₂ ◌&&◌ (term_known-replace t (and_left _ _ e)) (terms_known-replace ts (and_right (term_known P.domain t) _ e))

  atom_known_replace : (p : Name) (ts : Terms) → known P (atom p ts) ≡ true → known P (atom p (replace_terms x v ts)) ≡ true
  unfolding known
  atom_known_replace p ts e =
      let is_declared = declared (predicates P) p (term_count ts) in
      rw (term_count-replace x v ts, and_left is_declared _ e) (terms_known-replace ts (and_right is_declared _ e))

  term_closed-replace : (bound : Name → Bool) (t : Term) → term_closed (besides x bound) t ≡ true → term_closed bound (replace_term x v t) ≡ true
  term_closed-replace bound (element k) e = refl
  term_closed-replace bound (variable y) e = pick (same y x) e
    where
      pick : (b : Bool) → (b || bound y) ≡ true → term_closed bound (cond b (element v) (variable y)) ≡ true
      pick true e = refl
      pick false e = e

  terms_closed-replace : (bound : Name → Bool) (ts : Terms) → terms_closed (besides x bound) ts ≡ true → terms_closed bound (replace_terms x v ts) ≡ true
  terms_closed-replace bound no_terms e = refl
  terms_closed-replace bound (term t ts) e =
      ap₂ ◌&&◌ (term_closed-replace bound t (and_left _ _ e)) (terms_closed-replace bound ts (and_right (term_closed (besides x bound) t) _ e))

  mutual
    unfolding replace known closed

    pub replace-kept : (f : Formula) (inside : Bool) (bound : Name → Bool) (levels : ℕ)
        → WellFormed P inside (besides x bound) levels f → WellFormed P inside bound levels (replace x v f)
    replace-kept (truth b) inside bound levels (of_truth l) = of_truth l
    replace-kept (atom p ts) inside bound levels (of_atom l k c i) =
        of_atom l (atom_known_replace p ts k) (terms_closed-replace bound ts c) i
    replace-kept (equal s t) inside bound levels (of_equal l k c) =
        of_equal l
        (ap₂ ◌&&◌ (term_known-replace s (and_left _ _ k)) (term_known-replace t (and_right (term_known P.domain s) _ k)))
        (ap₂ ◌&&◌ (term_closed-replace bound s (and_left _ _ c)) (term_closed-replace bound t (and_right (term_closed (besides x bound) s) _ c)))
    replace-kept (connective o fs) inside bound levels (of_connective l ws) = of_connective l (replaces-kept fs inside bound _ ws)
    replace-kept (quantifier c y g f) inside bound levels (of_quantifier {rest = rest} l u w) =
        pick (same y x) refl
        (replace-kept g true (besides y bound) rest (rw (besides_swap bound x y) at u))
        (replace-kept f inside (besides y bound) rest (rw (besides_swap bound x y) at w))
      where
        pick : (b : Bool) → same y x ≡ b
            → WellFormed P true (besides y bound) rest (replace x v g) → WellFormed P inside (besides y bound) rest (replace x v f)
            → WellFormed P inside bound levels (cond b (quantifier c y g f) (quantifier c y (replace x v g) (replace x v f)))
        pick true e i j = of_quantifier l (rw (besides_again bound x y e) at u) (rw (besides_again bound x y e) at w)
        pick false e i j = of_quantifier l i j

    replaces-kept : (fs : Formulas) (inside : Bool) (bound : Name → Bool) (levels : ℕ)
        → AllWellFormed P inside (besides x bound) levels fs → AllWellFormed P inside bound levels (replaces x v fs)
    replaces-kept no_parts inside bound levels of_none = of_none
    replaces-kept (part f fs) inside bound levels (of_part w ws) = of_part (replace-kept f inside bound levels w) (replaces-kept fs inside bound levels ws)

-- What the rules make.

count_from-elements : (n k m : ℕ) → 1 ≤ k → k + m ≤ suc n → every (is_element n) (count_from k m) ≡ true
count_from-elements n k zero h e = refl
count_from-elements n k (suc m) h e =
    ap₂ ◌&&◌ (ap₂ ◌&&◌ (le-leb 1 k h) (le-leb k n (omega arith))) (count_from-elements n (suc k) m (omega arith) (omega arith))

elements_to-elements : (n : ℕ) → every (is_element n) (elements_to n) ≡ true
elements_to-elements n = count_from-elements n 1 n (omega arith) (omega arith)

positive : {rest levels : ℕ} → rest < levels → 0 < levels
positive l = omega arith

module _ (P : Problem) {inside : Bool} {bound : Name → Bool} where
  without-kept : (b : Bool) (fs : Formulas) {levels : ℕ} → AllWellFormed P inside bound levels fs → AllWellFormed P inside bound levels (without b fs)
  without-kept b no_parts of_none = of_none
  without-kept b (part f fs) {levels} (of_part w ws) = pick (is_truth b f) (without-kept b fs ws)
    where
      pick : (d : Bool) → AllWellFormed P inside bound levels (without b fs)
          → AllWellFormed P inside bound levels (cond d (without b fs) (part f (without b fs)))
      pick true rest = rest
      pick false rest = of_part w rest

  unless_none-kept : (c : Side) {levels rest : ℕ} {fs : Formulas} → rest < levels
      → AllWellFormed P inside bound rest fs → WellFormed P inside bound levels (unless_none c fs)
  unless_none-kept c l of_none = of_truth (positive l)
  unless_none-kept c l (of_part w ws) = of_connective l (of_part w ws)

  instances-kept : (x : Name) (g f : Formula) {levels : ℕ} → WellFormed P inside (besides x bound) levels f
      → (vs : List ℕ) → every (is_element P.domain) vs ≡ true → AllWellFormed P inside bound levels (instances P x g f vs)
  unfolding instances
  instances-kept x g f w [] e = of_none
  instances-kept x g f {levels} w (v ∷ vs) e = pick (admits P x g v) (instances-kept x g f w vs (and_right (is_element P.domain v) _ e))
    where
      pick : (b : Bool) → AllWellFormed P inside bound levels (instances P x g f vs)
          → AllWellFormed P inside bound levels (cond b (part (replace x v f) (instances P x g f vs)) (instances P x g f vs))
      pick true rest = of_part (replace-kept P x v (and_left _ _ e) f inside bound levels w) rest
      pick false rest = rest

  makes_kept : {r : Rule} {f h : Formula} {levels : ℕ} → Makes P r f h → WellFormed P inside bound levels f → WellFormed P inside bound levels h
  makes_kept (absorbing c fs e) (of_connective l ws) = of_truth (positive l)
  makes_kept (dropping c fs e) (of_connective l ws) = unless_none-kept c l (without-kept _ fs ws)
  makes_kept (negating b) (of_connective l ws) = of_truth (positive l)
  makes_kept (predicate p t ts i e) (of_atom l k c j) = of_truth l
  makes_kept (equality s t d e) (of_equal l k c) = of_truth l
  makes_kept (proposition p i) (of_atom l k c j) = of_truth l
  makes_kept (instantiating c x g f e) (of_quantifier l u w) =
      of_connective l (instances-kept x g f w (elements_to P.domain) (elements_to-elements P.domain))

exchanged-kept : {P : Problem} {inside : Bool} {bound : Name → Bool} {levels i : ℕ} {g h : Formula} {fs hs : Formulas} → Exchanged i g h fs hs
    → (WellFormed P inside bound levels g → WellFormed P inside bound levels h)
    → AllWellFormed P inside bound levels fs → AllWellFormed P inside bound levels hs
exchanged-kept (first g h fs) k (of_part w ws) = of_part (k w) ws
exchanged-kept (later i g h f fs hs e) k (of_part w ws) = of_part w (exchanged-kept e k ws)

pub MakesAt-kept : {P : Problem} {r : Rule} {path : List ℕ} {f h : Formula} {inside : Bool} {bound : Name → Bool} {levels : ℕ}
    → MakesAt P r path f h → WellFormed P inside bound levels f → WellFormed P inside bound levels h
MakesAt-kept (here f h q) w = makes_kept _ q w
MakesAt-kept (in_part i is o g h fs hs e q) (of_connective l ws) = of_connective l (exchanged-kept e (λ w. MakesAt-kept q w) ws)
MakesAt-kept (in_guard is c x g h f q) (of_quantifier l u w) = of_quantifier l (MakesAt-kept q u) w
MakesAt-kept (in_body is c x g f h q) (of_quantifier l u w) = of_quantifier l u (MakesAt-kept q w)

-- what a rule makes at a path of a well-formed formula is well formed
pub rule-kept : (P : Problem) (r : Rule) (path : List ℕ) {f : Formula} {inside : Bool} {bound : Name → Bool} {levels : ℕ}
    → WellFormed P inside bound levels f → Allowed (WellFormed P inside bound levels) (at path (apply P r) f)
rule-kept P r path {f} {inside} {bound} {levels} w =
    allowed_weaken (MakesAt P r path f) (WellFormed P inside bound levels) (λ h q. MakesAt-kept q w) (at path (apply P r) f) (at_makes P r path f)
