-- The substitution lemma: an element put for a variable means what the variable bound to it means. By induction on the formula; two environments
-- that bind the same are equal, so a quantifier that binds the variable again, and one that binds another, are equations of environments.
-- Assumes nothing.
use Prim.Native.Nat.{ℕ}
use mathlib.Core.Path.{◌≡◌, refl, sym, ap, ap₂, ◌∙◌, fun_ext}
use mathlib.Core.List.{List, ◌∷◌}
use mathlib.Core.Bool.{Bool, true, false, cond, true≢false}
use lib.Dec.{eqb}
use Rattle.grammar.specs.Bytes.{same}
use Rattle.grammar.specs.Problem.{Name, Problem}
use Rattle.grammar.proofs.Laws.{same_true}
use Rattle.logic.specs.Formula.{Term, element, variable, Terms, no_terms, term, Side, replace_term, replace_terms, replace, replaces}
use Rattle.logic.specs.Formula.{Formula, truth, atom, equal, connective, quantifier, Formulas, no_parts, part}
use Rattle.logic.specs.Meaning.{Structure, input_structure, Environment, nowhere, bind, value_of, values_of, connect, holds, truths}
use Rattle.logic.specs.Rules.{admits}
use Rattle.logic.proofs.Meaning.{holds-quantifier}

-- a variable bound twice has the inner value
bind_again : (ρ : Environment) (x y : Name) (v w : ℕ) → same y x ≡ true → bind (bind ρ x v) y w ≡ bind ρ y w
bind_again ρ x y v w e = fun_ext (λ z. pick z (same z y) refl)
  where
    pick : (z : Name) (b : Bool) → same z y ≡ b → cond b w (cond (same z x) v (ρ z)) ≡ cond b w (ρ z)
    pick z true h = refl
    pick z false h = rw (← same_true y x e, h)

-- different variables may be bound in either order
bind_swap : (ρ : Environment) (x y : Name) (v w : ℕ) → same y x ≡ false → bind (bind ρ y w) x v ≡ bind (bind ρ x v) y w
bind_swap ρ x y v w e = fun_ext (λ z. pick z (same z x) (same z y) refl refl)
  where
    pick : (z : Name) (a b : Bool) → same z x ≡ a → same z y ≡ b → cond a v (cond b w (ρ z)) ≡ cond b w (cond a v (ρ z))
    pick z true true h k = absurd (true≢false (sym (rw (← same_true z y k) h) ∙ e))
    pick z true false h k = refl
    pick z false b h k = refl

module _ (S : Structure) (x : Name) (v : ℕ) where
  value_of-replace : (t : Term) (ρ : Environment) → value_of ρ (replace_term x v t) ≡ value_of (bind ρ x v) t
  value_of-replace (element k) ρ = refl
  value_of-replace (variable y) ρ = pick (same y x)
    where
      pick : (b : Bool) → value_of ρ (cond b (element v) (variable y)) ≡ cond b v (ρ y)
      pick true = refl
      pick false = refl

  values_of-replace : (ts : Terms) (ρ : Environment) → values_of ρ (replace_terms x v ts) ≡ values_of (bind ρ x v) ts
  values_of-replace no_terms ρ = refl
  values_of-replace (term t ts) ρ = rw (value_of-replace t ρ, values_of-replace ts ρ)

  -- a quantifier, where the law holds of its guard and of its body
  holds_under : (c : Side) (y : Name) (g f : Formula)
      → ((σ : Environment) → holds S σ (replace x v g) ≡ holds S (bind σ x v) g)
      → ((σ : Environment) → holds S σ (replace x v f) ≡ holds S (bind σ x v) f)
      → (ρ : Environment) → holds S ρ (replace x v (quantifier c y g f)) ≡ holds S (bind ρ x v) (quantifier c y g f)
  unfolding replace
  holds_under c y g f guard body ρ = pick (same y x) refl
    where
      pick : (b : Bool) → same y x ≡ b
          → holds S ρ (cond b (quantifier c y g f) (quantifier c y (replace x v g) (replace x v f))) ≡ holds S (bind ρ x v) (quantifier c y g f)
      pick true e = holds-quantifier S S refl c y _ _ _ _ ρ (bind ρ x v) (λ w. rw (bind_again ρ x y v w e)) (λ w. rw (bind_again ρ x y v w e))
      pick false e =
          holds-quantifier S S refl c y _ _ _ _ ρ (bind ρ x v)
          (λ w. rw (guard (bind ρ y w), bind_swap ρ x y v w e)) (λ w. rw (body (bind ρ y w), bind_swap ρ x y v w e))

  mutual
    unfolding holds replace

    pub holds-replace : (f : Formula) (ρ : Environment) → holds S ρ (replace x v f) ≡ holds S (bind ρ x v) f
    holds-replace (truth b) ρ = refl
    holds-replace (atom p ts) ρ = ap (S.relation p) (values_of-replace ts ρ)
    holds-replace (equal s t) ρ = ap₂ eqb (value_of-replace s ρ) (value_of-replace t ρ)
    holds-replace (connective o fs) ρ = ap (connect o) (truths-replace fs ρ)
    holds-replace (quantifier c y g f) ρ = holds_under c y g f (λ σ. holds-replace g σ) (λ σ. holds-replace f σ) ρ

    truths-replace : (fs : Formulas) (ρ : Environment) → truths S ρ (replaces x v fs) ≡ truths S (bind ρ x v) fs
    truths-replace no_parts ρ = refl
    truths-replace (part f fs) ρ = ap₂ (λ (b : Bool) (bs : List Bool). b ∷ bs) (holds-replace f ρ) (truths-replace fs ρ)

-- the guard that IQ asks is the statement's: the guard with v for x is true in the input structure
pub admits-replace : (P : Problem) (x : Name) (g : Formula) (v : ℕ) → admits P x g v ≡ holds (input_structure P) nowhere (replace x v g)
admits-replace P x g v = sym (holds-replace (input_structure P) x v g nowhere)
