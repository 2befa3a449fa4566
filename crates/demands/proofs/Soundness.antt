-- What every rule keeps of a formula, every line keeps of each live formula; and what it keeps of its meaning, of the theory's.
-- Assumes nothing.
use Prim.Native.Nat.{ℕ}
use mathlib.Core.Path.{◌≡◌, refl, ap, ◌∙◌}
use mathlib.Core.List.{List, [], ◌∷◌}
use mathlib.Core.Bool.{Bool, true, false, ◌&&◌, and-true, and-false}
use Rattle.grammar.specs.Problem.{Problem}
use Rattle.grammar.specs.Derivation.{Rule, RuleLine}
use Rattle.grammar.specs.Each.{Each}
use Rattle.logic.specs.Formula.{Formula, truth, connective, junction, all, Formulas, part}
use Rattle.logic.specs.Meaning.{Structure, nowhere, holds, truths, join_all, satisfies}
use Rattle.logic.specs.Tables.{MakesAt}
use Rattle.demands.specs.Theory.{entry, formulas_of, State, live_theory}
use Rattle.demands.specs.Steps.{Step, rewriting, removing, splitting, ending, Steps, stop, go}
use Rattle.demands.proofs.Theory.{EachPart, each_around, each_at_lem, each_named, satisfies-append, satisfies_around, satisfies-named}

abbrev pub Live : (Formula → Type 0) → State → Type 0
Live Q s = Each Q (formulas_of (live_theory s))

module _ (P : Problem) (Q : Formula → Type 0)
    (rules : (r : Rule) (path : List ℕ) (f h : Formula) → MakesAt P r path f h → Q f → Q h)
    (parts : (fs : Formulas) → Q (connective (junction all) fs) → EachPart Q fs)
    (falsity : Q (truth false)) where
  step-every : (s u : State) (l : RuleLine) → Step P s l u → Live Q s → Live Q u
  step-every s u l (rewriting r n path before after f h top a m e) q = each_around Q before (entry n f ∷ []) (entry n h ∷ []) after (λ p. (rules r path f h m p.0, tt)) q
  step-every s u l (removing n before after top a e) q = each_around Q before (entry n (truth true) ∷ []) [] after (λ p. tt) q
  step-every s u l (splitting n names before ts after f fs top a c w e) q =
      each_around Q before (entry n (connective (junction all) (part f fs)) ∷ []) ts after (λ p. each_named Q names (part f fs) ts w (parts (part f fs) p.0)) q
  step-every s u l (ending n before after top a) q = (falsity, tt)

  pub steps-every : (s u : State) (ls : List RuleLine) → Steps P s ls u → Live Q s → Live Q u
  steps-every s u ls (stop v) q = q
  steps-every s u ls (go t v w l ms a b) q = steps-every v w ms b (step-every t v l a q)

  -- in a structure in which the rules keep a formula's meaning
  module _ (S : Structure)
      (sound : (r : Rule) (path : List ℕ) (f h : Formula) → MakesAt P r path f h → Q f → holds S nowhere f ≡ holds S nowhere h) where
    step_sound : (s u : State) (l : RuleLine) → Step P s l u → Live Q s → satisfies S (formulas_of (live_theory s)) ≡ satisfies S (formulas_of (live_theory u))
    unfolding holds
    step_sound s u l (rewriting r n path before after f h top a m e) q =
        satisfies_around S before (entry n f ∷ []) (entry n h ∷ []) after
        (ap (λ (b : Bool). b && true) (sound r path f h m (each_at_lem Q before after (entry n f) q)))
    step_sound s u l (removing n before after top a e) q = satisfies_around S before (entry n (truth true) ∷ []) [] after refl
    step_sound s u l (splitting n names before ts after f fs top a c w e) q =
        satisfies_around S before (entry n (connective (junction all) (part f fs)) ∷ []) ts after
        (and-true (join_all all (truths S nowhere (part f fs))) ∙ satisfies-named S names (part f fs) ts w)
    step_sound s u l (ending n before after top a) q =
        satisfies-append S before (entry n (truth false) ∷ after) ∙ and-false (satisfies S (formulas_of before))

    pub steps_sound : (s u : State) (ls : List RuleLine) → Steps P s ls u → Live Q s → satisfies S (formulas_of (live_theory s)) ≡ satisfies S (formulas_of (live_theory u))
    steps_sound s u ls (stop v) q = refl
    steps_sound s u ls (go t v w l ms a b) q = step_sound t v l a q ∙ steps_sound v w ms b (step-every t v l a q)
