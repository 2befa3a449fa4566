-- The theory's names; the rule lines on it, with 11 to 15.
use Rattle.std.specs.Prelude.{ℕ, suc, List, [], ◌∷◌, ◌++◌, map, Bool, true, false, cond, ◌&&◌, eqb, ltb, length}
use Rattle.grammar.specs.Outcome.{Outcome, done, refused, mapped, provided, ◌>>=◌, ◌>>◌}
use Rattle.grammar.specs.Problem.{Problem}
use Rattle.grammar.specs.Derivation.{RuleLine, rewrite, unsat, trivial, splitc}
use Rattle.logic.specs.Formula.{Formula, truth, Formulas, no_parts, part, Side, all, any}
use Rattle.logic.specs.Limits.{sizes_fit}
use Rattle.logic.specs.Rules.{on_junction, is_truth, apply, at}

-- Named formulas.

pub record Entry : Type 0 where
  pub name : ℕ
  pub formula : Formula

abbrev pub entry : ℕ → Formula → Entry
entry n f = record { name = n; formula = f }

abbrev pub Theory : Type 0
Theory = List Entry

abbrev pub formulas_of : Theory → List Formula
formulas_of t = map (λ e. e.formula) t

abbrev pub names_of : Theory → List ℕ
names_of t = map (λ e. e.name) t

-- named 1, 2, 3 and so on
abbrev pub numbered : ℕ → List Formula → Theory
numbered n [] = []
numbered n (f ∷ fs) = entry n f ∷ numbered (suc n) fs

-- the live formulas, or after UNSAT the name of the one formula `false`; each with the greatest name used
pub data State : Type 0 where
  live : Theory → ℕ → State
  ended : ℕ → ℕ → State

abbrev pub live_theory : State → Theory
live_theory (live t used) = t
live_theory (ended n used) = entry n (truth false) ∷ []

abbrev pub greatest_used : State → ℕ
greatest_used (live t used) = used
greatest_used (ended n used) = used

abbrev pub initial : List Formula → State
initial fs = live (numbered 1 fs) (length fs)

-- Rule lines.

-- the formula of a name gives way to what is made of it, in its place in the list; 11 where the name is not live
abbrev pub in_place : ℕ → (Formula → Outcome ℕ Theory) → Theory → Outcome ℕ Theory
in_place n k [] = refused 11
in_place n k (e ∷ es) =
    let here = mapped (λ ts. ts ++ es) (k e.formula) in
    let there = mapped (λ ts. e ∷ ts) (in_place n k es) in
    cond (eqb e.name n) here there

-- no rule fits after UNSAT
abbrev pub unless_ended : {A : Type 0} → State → (Formula → Outcome ℕ A) → Formula → Outcome ℕ A
unless_ended (live t used) k f = k f
unless_ended (ended n used) k f = refused 13

-- a rule that takes no path
abbrev pub whole_only : {A : Type 0} → List ℕ → (Formula → Outcome ℕ A) → Formula → Outcome ℕ A
whole_only [] k f = k f
whole_only (i ∷ is) k f = at (i ∷ is) (λ h. refused 13) f >>= λ h. refused 13

-- TRIVIAL: a formula `true` is removed
abbrev pub removed : Formula → Outcome ℕ Theory
removed f = mapped (λ u. []) (provided (is_truth true f) 13)

-- UNSAT: a formula that is `false`
abbrev pub refuted : Formula → Outcome ℕ Theory
refuted f = mapped (λ u. []) (provided (is_truth false f) 13)

-- SPLITC: an `&` of one or more parts, by its parts under the new names, as many as parts
abbrev pub named_parts : List ℕ → Formulas → Outcome ℕ Theory
named_parts [] no_parts = done []
named_parts [] (part f fs) = refused 13
named_parts (n ∷ ns) no_parts = refused 13
named_parts (n ∷ ns) (part f fs) = mapped (λ ts. entry n f ∷ ts) (named_parts ns fs)

abbrev pub split_parts : List ℕ → Side → Formulas → Outcome ℕ Theory
split_parts names all no_parts = refused 13
split_parts names all (part f fs) = named_parts names (part f fs)
split_parts names any fs = refused 13

abbrev pub split : List ℕ → Formula → Outcome ℕ Theory
split names f = on_junction (refused 13) (split_parts names) f

-- each new name is greater than every name used before it
abbrev pub climbing : ℕ → List ℕ → Bool
climbing used [] = true
climbing used (n ∷ ns) = ltb used n && climbing n ns

abbrev pub highest : ℕ → List ℕ → ℕ
highest used [] = used
highest used (n ∷ ns) = highest n ns

-- 15: the live formulas within their sizes
abbrev pub within : ℕ → Theory → Outcome ℕ State
within used t = mapped (λ u. live t used) (provided (sizes_fit (formulas_of t)) 15)

-- a rule line on a state: 11 for the target, then for new names; 12; 13, 14; 15
unfoldable pub stepped : Problem → State → RuleLine → Outcome ℕ State
stepped P s (rewrite r p) =
    in_place p.name (λ f. mapped (λ h. entry p.name h ∷ []) (at p.path (unless_ended s (apply P r)) f)) (live_theory s)
    >>= within (greatest_used s)
stepped P s (trivial p) = in_place p.name (whole_only p.path (unless_ended s removed)) (live_theory s) >>= within (greatest_used s)
stepped P s (splitc p names) =
    in_place p.name (λ f. provided (climbing (greatest_used s) names) 11 >> whole_only p.path (unless_ended s (split names)) f) (live_theory s)
    >>= within (highest (greatest_used s) names)
stepped P s (unsat p) =
    in_place p.name (whole_only p.path (unless_ended s refuted)) (live_theory s) >>= λ t. done (ended p.name (greatest_used s))
