-- A rule line on a state, as the function has it, is a step of the relation, and each step of the relation is the function's: by what stands
-- around the formula that the line names. And the replay has ended exactly if the last line is UNSAT.
-- Assumes nothing.
use Prim.Native.Nat.{ℕ}
use mathlib.Core.Path.{◌≡◌, refl, ap}
use mathlib.Core.List.{List, [], ◌∷◌, ◌++◌}
use mathlib.Core.Bool.{Bool, true, false, cond, not}
use lib.Dec.{eqb}
use borrow.Author.Tests.{eqb-true, eq-eqb, not-true}
use Rattle.grammar.specs.Outcome.{Outcome, done, refused, mapped, provided, ◌>>=◌, ◌>>◌}
use Rattle.grammar.specs.Problem.{Problem}
use Rattle.grammar.specs.Derivation.{Rule, RuleLine, rewrite, unsat, trivial, splitc, is_unsat, ends_in_unsat}
use Rattle.grammar.proofs.Laws.{and_left, and_right}
use Rattle.grammar.proofs.Outcome.{Allowed, allowed_mapped, allowed_bind, allowed_weaken, allowed_provided}
use Rattle.logic.specs.Formula.{Formula, truth, connective, Formulas, no_parts, part, Side, all, any, junction}
use Rattle.logic.specs.Limits.{sizes_fit}
use Rattle.logic.specs.Rules.{is_truth, apply, at}
use Rattle.logic.specs.Tables.{AtPath, MakesAt}
use Rattle.logic.proofs.Rules.{on_junction_cases, is_truth_true}
use Rattle.logic.proofs.Tables.{at_path, path_never, at_makes, makes_at}
use Rattle.demands.specs.Theory.{entry, Theory, formulas_of, State, live, ended, live_theory, in_place, whole_only, removed, refuted, named_parts, split_parts, split, climbing, highest, within, stepped}
use Rattle.demands.specs.Steps.{position, absent, Named, none_named, one_named, Step, rewriting, removing, splitting, ending, Steps, stop, go}

-- a formula of that name stands in a theory, and what Q says it may become stands in its place in another
pub record Placed (Q : Formula → Theory → Type 0) (n : ℕ) (t u : Theory) : Type 0 where
  pub before : Theory
  pub formula : Formula
  pub after : Theory
  pub made : Theory
  pub first : absent n before ≡ true
  pub makes : Q formula made
  pub was : t ≡ before ++ (entry n formula ∷ after)
  pub is : u ≡ before ++ (made ++ after)

in_place_lem : (Q : Formula → Theory → Type 0) (n : ℕ) (k : Formula → Outcome ℕ Theory) → ((f : Formula) → Allowed (Q f) (k f)) → (t : Theory) → Allowed (Placed Q n t) (in_place n k t)
in_place_lem Q n k h [] = tt
in_place_lem Q n k h (e ∷ es) = pick (eqb e.name n) refl (in_place_lem Q n k h es)
  where
    pick : (b : Bool) → eqb e.name n ≡ b → Allowed (Placed Q n es) (in_place n k es)
        → Allowed (Placed Q n (e ∷ es)) (cond b (mapped (λ ts. ts ++ es) (k e.formula)) (mapped (λ ts. e ∷ ts) (in_place n k es)))
    pick true p q =
        allowed_mapped (Q e.formula) (Placed Q n (e ∷ es)) (λ ts. ts ++ es)
        (λ ts w. record {
          before = [];
          formula = e.formula;
          after = es;
          made = ts;
          first = refl;
          makes = w;
          was = ap (λ (m : ℕ). entry m e.formula ∷ es) (eqb-true e.name n p);
          is = refl;
        })
        (k e.formula) (h e.formula)
    pick false p q =
        allowed_mapped (Placed Q n es) (Placed Q n (e ∷ es)) (λ ts. e ∷ ts)
        (λ ts w. record {
          before = e ∷ w.before;
          formula = w.formula;
          after = w.after;
          made = w.made;
          first = rw (p, w.first);
          makes = w.makes;
          was = ap (λ (es : Theory). e ∷ es) w.was;
          is = ap (λ (es : Theory). e ∷ es) w.is;
        })
        (in_place n k es) q

place_in : (n : ℕ) (k : Formula → Outcome ℕ Theory) (before after made : Theory) (f : Formula) → absent n before ≡ true → k f ≡ done made
    → in_place n k (before ++ (entry n f ∷ after)) ≡ done (before ++ (made ++ after))
place_in n k [] after made f a e = rw (eq-eqb n n refl, e)
place_in n k (b ∷ bs) after made f a e =
    rw (not-true (eqb b.name n) (and_left (not (eqb b.name n)) (absent n bs) a), place_in n k bs after made f (and_right (not (eqb b.name n)) (absent n bs) a) e)

-- Always refused.
abbrev Never : {A : Type 0} → (Formula → Outcome ℕ A) → Type 0
Never k = (f : Formula) → Allowed (λ h. ⊥) (k f)

at_never : (k : Formula → Outcome ℕ Formula) → Never k → (path : List ℕ) → Never (at path k)
at_never k n path f = allowed_weaken (AtPath (λ f h. ⊥) path f) (λ h. ⊥) (λ h q. path_never q) (at path k f) (at_path (λ f h. ⊥) k n path f)

-- a rule that takes no path is done with none
whole_only_lem : {A : Type 0} (Q : Formula → A → Type 0) (k : Formula → Outcome ℕ A) → ((f : Formula) → Allowed (Q f) (k f))
    → (is : List ℕ) (f : Formula) → Allowed (λ a. (is ≡ []) × Q f a) (whole_only is k f)
whole_only_lem Q k h [] f = allowed_weaken (Q f) (λ a. ([] ≡ []) × Q f a) (λ a q. (refl, q)) (k f) (h f)
whole_only_lem {A} Q k h (i ∷ is) f =
    allowed_bind (λ h. ⊥) (λ a. ((i ∷ is) ≡ []) × Q f a) (λ h. refused 13) (λ h q. tt) (at (i ∷ is) (λ h. refused 13) f) (at_never (λ h. refused 13) (λ h. tt) (i ∷ is) f)

within-fits : (top : ℕ) (t : Theory) → Allowed (λ s. (s ≡ live t top) × (sizes_fit (formulas_of t) ≡ true)) (within top t)
within-fits top t =
    allowed_mapped (λ u. sizes_fit (formulas_of t) ≡ true) (λ s. (s ≡ live t top) × (sizes_fit (formulas_of t) ≡ true)) (λ u. live t top) (λ u e. (refl, e))
    (provided (sizes_fit (formulas_of t)) 15) (allowed_provided (sizes_fit (formulas_of t)) 15)

-- SPLITC
parts_named : (ns : List ℕ) (fs : Formulas) → Allowed (Named ns fs) (named_parts ns fs)
parts_named [] no_parts = none_named
parts_named [] (part f fs) = tt
parts_named (n ∷ ns) no_parts = tt
parts_named (n ∷ ns) (part f fs) = allowed_mapped (Named ns fs) (Named (n ∷ ns) (part f fs)) (λ ts. entry n f ∷ ts) (λ ts w. one_named n ns f fs ts w) (named_parts ns fs) (parts_named ns fs)

named_parts_lem : (ns : List ℕ) (fs : Formulas) (ts : Theory) → Named ns fs ts → named_parts ns fs ≡ done ts
named_parts_lem ns fs ts none_named = refl
named_parts_lem ns fs ts (one_named n ms f hs us w) = rw (named_parts_lem ms hs us w)

pub record Conjunction (names : List ℕ) (f : Formula) (ts : Theory) : Type 0 where
  pub first : Formula
  pub others : Formulas
  pub is : f ≡ connective (junction all) (part first others)
  pub named : Named names (part first others) ts

split_conjunction : (names : List ℕ) (f : Formula) → Allowed (Conjunction names f) (split names f)
split_conjunction names f = on_junction_cases (refused 13) (λ f o. Allowed (Conjunction names f) o) (λ f. tt) (split_parts names) side f
  where
    side : (c : Side) (fs : Formulas) → Allowed (Conjunction names (connective (junction c) fs)) (split_parts names c fs)
    side all no_parts = tt
    side all (part f fs) =
        allowed_weaken (Named names (part f fs)) (Conjunction names (connective (junction all) (part f fs)))
        (λ ts w. record { first = f; others = fs; is = refl; named = w }) (named_parts names (part f fs)) (parts_named names (part f fs))
    side any fs = tt

module _ (P : Problem) where
  -- a step, from what stands around the formula that the line names
  module _ (n top : ℕ) (t u : Theory) where
    rewritten : (r : Rule) (path : List ℕ) → Placed (λ f ts. (h : Formula) × MakesAt P r path f h × (ts ≡ entry n h ∷ [])) n t u
        → sizes_fit (formulas_of u) ≡ true → Step P (live t top) (rewrite r (position n path)) (live u top)
    rewritten r path w e =
        let q = w.makes in
        rw (w.was, w.is, q.2) (rewriting r n path w.before w.after w.formula q.0 top w.first q.1 (rw (w.is, q.2) at e))

    taken : (path : List ℕ) → Placed (λ f ts. (path ≡ []) × ((is_truth true f ≡ true) × (ts ≡ []))) n t u
        → sizes_fit (formulas_of u) ≡ true → Step P (live t top) (trivial (position n path)) (live u top)
    taken path w e =
        let q = w.makes in
        rw (q.0, w.was, w.is, is_truth_true true w.formula q.1.0, q.1.1) (removing n w.before w.after top w.first (rw (w.is, q.1.1) at e))

    shared : (path names : List ℕ) → Placed (λ f ts. (climbing top names ≡ true) × ((path ≡ []) × Conjunction names f ts)) n t u
        → sizes_fit (formulas_of u) ≡ true → Step P (live t top) (splitc (position n path) names) (live u (highest top names))
    shared path names w e =
        let q = w.makes in
        rw (q.1.0, w.was, w.is, q.1.1.is)
        (splitting n names w.before w.made w.after q.1.1.first q.1.1.others top w.first q.0 q.1.1.named (rw w.is at e))

    closed : (path : List ℕ) → Placed (λ f ts. (path ≡ []) × ((is_truth false f ≡ true) × (ts ≡ []))) n t u → Step P (live t top) (unsat (position n path)) (ended n top)
    closed path w =
        let q = w.makes in
        rw (q.0, w.was, is_truth_true false w.formula q.1.0) (ending n w.before w.after top w.first)

  -- what a theory with one formula changed comes to, within the sizes
  sized : (l : RuleLine) (s : State) (top : ℕ) (Q : Theory → Type 0) → ((u : Theory) → Q u → sizes_fit (formulas_of u) ≡ true → Step P s l (live u top))
      → (o : Outcome ℕ Theory) → Allowed Q o → Allowed (Step P s l) (o >>= within top)
  sized l s top Q h o q =
      allowed_bind Q (Step P s l) (within top)
      (λ u w. allowed_weaken (λ v. (v ≡ live u top) × (sizes_fit (formulas_of u) ≡ true)) (Step P s l) (λ v e. rw e.0 (h u w e.1)) (within top u) (within-fits top u))
      o q

  -- a truth value gives way to nothing
  truth_gone : (b : Bool) (f : Formula) → Allowed {E = ℕ} (λ (ts : Theory). (is_truth b f ≡ true) × (ts ≡ [])) (mapped (λ u. []) (provided (is_truth b f) 13))
  truth_gone b f =
      allowed_mapped (λ u. is_truth b f ≡ true) (λ ts. (is_truth b f ≡ true) × (ts ≡ [])) (λ u. []) (λ u e. (e, refl)) (provided (is_truth b f) 13) (allowed_provided (is_truth b f) 13)

  -- a formula that gives way to nothing that is allowed
  blocked : {A : Type 0} (W : A → Type 0) (m : ℕ) (k : Formula → Outcome ℕ Theory) → Never k → (c : Theory → Outcome ℕ A) (t : Theory) → Allowed W (in_place m k t >>= c)
  blocked W m k n c t =
      allowed_bind (Placed (λ f ts. ⊥) m t) W c (λ u w. absurd w.makes) (in_place m k t) (in_place_lem (λ f ts. ⊥) m k n t)

  refused_whole : (is : List ℕ) → Never {A = Theory} (whole_only is (λ f. refused 13))
  refused_whole is f = allowed_weaken (λ a. (is ≡ []) × ⊥) (λ a. ⊥) (λ a q. q.1) (whole_only is (λ f. refused 13) f) (whole_only_lem (λ f a. ⊥) (λ f. refused 13) (λ f. tt) is f)

  pub stepped-step : (s : State) (l : RuleLine) → Allowed (Step P s l) (stepped P s l)
  unfolding stepped
  stepped-step (live t top) (rewrite r p) =
      let k : Formula → Outcome ℕ Theory = λ f. mapped (λ h. entry p.name h ∷ []) (at p.path (apply P r) f) in
      let Q : Formula → Theory → Type 0 = λ f ts. (h : Formula) × MakesAt P r p.path f h × (ts ≡ entry p.name h ∷ []) in
      sized (rewrite r p) (live t top) top (Placed Q p.name t) (λ u w e. rewritten p.name top t u r p.path w e) (in_place p.name k t)
      (in_place_lem Q p.name k
      (λ f. allowed_mapped (MakesAt P r p.path f) (Q f) (λ h. entry p.name h ∷ []) (λ h q. (h, q, refl)) (at p.path (apply P r) f) (at_makes P r p.path f)) t)
  stepped-step (live t top) (trivial p) =
      let Q : Formula → Theory → Type 0 = λ f ts. (p.path ≡ []) × ((is_truth true f ≡ true) × (ts ≡ [])) in
      sized (trivial p) (live t top) top (Placed Q p.name t) (λ u w e. taken p.name top t u p.path w e) (in_place p.name (whole_only p.path removed) t)
      (in_place_lem Q p.name (whole_only p.path removed) (whole_only_lem (λ f ts. (is_truth true f ≡ true) × (ts ≡ [])) removed (truth_gone true) p.path) t)
  stepped-step (live t top) (splitc p names) =
      let k : Formula → Outcome ℕ Theory = λ f. provided (climbing top names) 11 >> whole_only p.path (split names) f in
      let Q : Formula → Theory → Type 0 = λ f ts. (climbing top names ≡ true) × ((p.path ≡ []) × Conjunction names f ts) in
      sized (splitc p names) (live t top) (highest top names) (Placed Q p.name t) (λ u w e. shared p.name top t u p.path names w e) (in_place p.name k t)
      (in_place_lem Q p.name k
      (λ f. allowed_bind (λ u. climbing top names ≡ true) (Q f) (λ u. whole_only p.path (split names) f)
      (λ u e. allowed_weaken (λ ts. (p.path ≡ []) × Conjunction names f ts) (Q f) (λ ts q. (e, q)) (whole_only p.path (split names) f)
      (whole_only_lem (Conjunction names) (split names) (split_conjunction names) p.path f))
      (provided (climbing top names) 11) (allowed_provided (climbing top names) 11)) t)
  stepped-step (live t top) (unsat p) =
      let Q : Formula → Theory → Type 0 = λ f ts. (p.path ≡ []) × ((is_truth false f ≡ true) × (ts ≡ [])) in
      allowed_bind (Placed Q p.name t) (Step P (live t top) (unsat p)) (λ u. done (ended p.name top)) (λ u w. closed p.name top t u p.path w)
      (in_place p.name (whole_only p.path refuted) t)
      (in_place_lem Q p.name (whole_only p.path refuted) (whole_only_lem (λ f ts. (is_truth false f ≡ true) × (ts ≡ [])) refuted (truth_gone false) p.path) t)
  stepped-step (ended m top) (rewrite r p) =
      let k : Formula → Outcome ℕ Theory = λ f. mapped (λ h. entry p.name h ∷ []) (at p.path (λ f. refused 13) f) in
      blocked (Step P (ended m top) (rewrite r p)) p.name k
      (λ f. allowed_mapped (λ h. ⊥) (λ ts. ⊥) (λ h. entry p.name h ∷ []) (λ h q. q) (at p.path (λ f. refused 13) f) (at_never (λ f. refused 13) (λ f. tt) p.path f))
      (within top) (live_theory (ended m top))
  stepped-step (ended m top) (trivial p) =
      blocked (Step P (ended m top) (trivial p)) p.name (whole_only p.path (λ f. refused 13)) (refused_whole p.path) (within top) (live_theory (ended m top))
  stepped-step (ended m top) (splitc p names) =
      blocked (Step P (ended m top) (splitc p names)) p.name (λ f. provided (climbing top names) 11 >> whole_only p.path (λ f. refused 13) f)
      (λ f. allowed_bind (λ u. Unit {0}) (λ ts. ⊥) (λ u. whole_only p.path (λ f. refused 13) f) (λ u e. refused_whole p.path f) (provided (climbing top names) 11)
      (allowed_weaken (λ u. climbing top names ≡ true) (λ u. Unit {0}) (λ u e. tt) (provided (climbing top names) 11) (allowed_provided (climbing top names) 11)))
      (within (highest top names)) (live_theory (ended m top))
  stepped-step (ended m top) (unsat p) =
      blocked (Step P (ended m top) (unsat p)) p.name (whole_only p.path (λ f. refused 13)) (refused_whole p.path) (λ t. done (ended p.name top)) (live_theory (ended m top))

  pub step-stepped : (s u : State) (l : RuleLine) → Step P s l u → stepped P s l ≡ done u
  unfolding stepped
  step-stepped s u l (rewriting r n path before after f h top a m e) =
      rw (place_in n (λ f. mapped (λ h. entry n h ∷ []) (at path (apply P r) f)) before after (entry n h ∷ []) f a (rw (makes_at P r m)), e)
  step-stepped s u l (removing n before after top a e) = rw (place_in n (whole_only [] removed) before after [] (truth true) a refl, e)
  step-stepped s u l (splitting n names before parts after f fs top a c w e) =
      rw (place_in n (λ f. provided (climbing top names) 11 >> split names f) before after parts (connective (junction all) (part f fs)) a (rw (c, named_parts_lem names (part f fs) parts w)), e)
  step-stepped s u l (ending n before after top a) = rw (place_in n (whole_only [] refuted) before after [] (truth false) a refl)

-- UNSAT is the last line: none is allowed after it.

abbrev pub has_ended : State → Bool
has_ended (live t used) = false
has_ended (ended n used) = true

module _ (P : Problem) where
  step-ended : (s u : State) (l : RuleLine) → Step P s l u → (has_ended s ≡ false) × (has_ended u ≡ is_unsat l)
  step-ended s u l (rewriting r n path before after f h top a m e) = (refl, refl)
  step-ended s u l (removing n before after top a e) = (refl, refl)
  step-ended s u l (splitting n names before parts after f fs top a c w e) = (refl, refl)
  step-ended s u l (ending n before after top a) = (refl, refl)

  pub steps-ended : (s u : State) (ls : List RuleLine) → Steps P s ls u → has_ended s ≡ false → has_ended u ≡ ends_in_unsat ls
  steps-ended s u ls (stop v) e = e
  steps-ended s u ls (go t v w l [] a (stop x)) e = (step-ended t v l a).1
  steps-ended s u ls (go t v w l (m ∷ ms) a (go x y z k ks b c)) e = steps-ended v w (m ∷ ms) (go x y z k ks b c) (step-ended v y m b).0
