-- A formula's value rests on the values of the variables bound around it and on the relations of its predicates alone. By induction on the formula.
-- Assumes nothing.
use Prim.Native.Nat.{ℕ}
use mathlib.Core.Path.{◌≡◌, refl, ap, ap₂, ◌∙◌}
use mathlib.Core.List.{List, ◌∷◌}
use mathlib.Core.Bool.{Bool, true, false, cond, ◌||◌}
use lib.Dec.{eqb}
use Rattle.grammar.specs.Bytes.{same}
use Rattle.grammar.specs.Problem.{Name, Row, Problem, is_input}
use Rattle.grammar.proofs.Laws.{and_left, and_right}
use Rattle.logic.specs.Formula.{Term, element, variable, Terms, no_terms, term, Formula, truth, atom, equal, connective, quantifier, Formulas, no_parts, part}
use Rattle.logic.specs.Names.{besides, term_closed, terms_closed, closed, all_closed}
use Rattle.logic.specs.Normal.{mentions_only, all_mention_only, inputs_only}
use Rattle.logic.specs.Meaning.{Structure, Environment, bind, value_of, values_of, connect, holds, truths}
use Rattle.logic.proofs.Meaning.{holds-quantifier}

-- the same values of the variables that are bound
abbrev pub Alike : (Name → Bool) → Environment → Environment → Type 0
Alike bound ρ σ = (x : Name) → bound x ≡ true → ρ x ≡ σ x

pub alike_bind : (bound : Name → Bool) (ρ σ : Environment) (y : Name) (v : ℕ) → Alike bound ρ σ → Alike (besides y bound) (bind ρ y v) (bind σ y v)
alike_bind bound ρ σ y v alike x = pick (same x y)
  where
    pick : (b : Bool) → (b || bound x) ≡ true → cond b v (ρ x) ≡ cond b v (σ x)
    pick true e = refl
    pick false e = alike x e

module _ (bound : Name → Bool) (ρ σ : Environment) (alike : Alike bound ρ σ) where
  value_of_agree : (t : Term) → term_closed bound t ≡ true → value_of ρ t ≡ value_of σ t
  value_of_agree (element v) e = refl
  value_of_agree (variable x) e = alike x e

  values_of_agree : (ts : Terms) → terms_closed bound ts ≡ true → values_of ρ ts ≡ values_of σ ts
  values_of_agree no_terms e = refl
  values_of_agree (term t ts) e = rw (value_of_agree t (and_left _ _ e), values_of_agree ts (and_right (term_closed bound t) _ e))

module _ (P : Problem) (S T : Structure) (domains : S.domain ≡ T.domain)
    (agree : (p : Name) (row : Row) → is_input P p ≡ true → S.relation p row ≡ T.relation p row) where
  mutual
    unfolding holds closed mentions_only

    pub holds_agree : (f : Formula) (bound : Name → Bool) (ρ σ : Environment) → Alike bound ρ σ
        → closed bound f ≡ true → inputs_only P f ≡ true → holds S ρ f ≡ holds T σ f
    holds_agree (truth b) bound ρ σ alike e i = refl
    holds_agree (atom p ts) bound ρ σ alike e i = agree p _ i ∙ ap (T.relation p) (values_of_agree bound ρ σ alike ts e)
    holds_agree (equal s t) bound ρ σ alike e i =
        ap₂ eqb (value_of_agree bound ρ σ alike s (and_left _ _ e)) (value_of_agree bound ρ σ alike t (and_right (term_closed bound s) _ e))
    holds_agree (connective o fs) bound ρ σ alike e i = ap (connect o) (truths_agree fs bound ρ σ alike e i)
    holds_agree (quantifier c x g f) bound ρ σ alike e i =
        holds-quantifier S T domains c x g f g f ρ σ
        (λ v. holds_agree g (besides x bound) (bind ρ x v) (bind σ x v) (alike_bind bound ρ σ x v alike) (and_left _ _ e) (and_left _ _ i))
        (λ v. holds_agree f (besides x bound) (bind ρ x v) (bind σ x v) (alike_bind bound ρ σ x v alike)
        (and_right (closed (besides x bound) g) _ e) (and_right (inputs_only P g) _ i))

    truths_agree : (fs : Formulas) (bound : Name → Bool) (ρ σ : Environment) → Alike bound ρ σ
        → all_closed bound fs ≡ true → all_mention_only (is_input P) fs ≡ true → truths S ρ fs ≡ truths T σ fs
    truths_agree no_parts bound ρ σ alike e i = refl
    truths_agree (part f fs) bound ρ σ alike e i =
        ap₂ (λ (b : Bool) (bs : List Bool). b ∷ bs)
        (holds_agree f bound ρ σ alike (and_left _ _ e) (and_left _ _ i))
        (truths_agree fs bound ρ σ alike (and_right (closed bound f) _ e) (and_right (inputs_only P f) _ i))
