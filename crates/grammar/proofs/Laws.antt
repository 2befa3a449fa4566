-- Laws of truth values, of equal bytes, of membership, of runs of stores and of what holds of each of a list, that the kit lacks.
-- Assumes nothing.
use Prim.Native.Nat.{ℕ, suc, ◌+◌}
use native.Mathlib.Nat.{add-zero}
use native.Mathlib.Omega.{arith}
use mathlib.Core.Path.{◌≡◌, refl, sym, ap, ap₂, ◌∙◌}
use mathlib.Core.List.{List, [], ◌∷◌, ◌++◌}
use mathlib.Core.Bool.{Bool, true, false, not, ◌&&◌, ◌||◌, or_assoc, beq, false≢true}
use lib.Dec.{eqb}
use lib.ListN.{length, set}
use lib.Seq.{sets}
use borrow.Author.Tests.{eqb-true, eq-eqb}
use Rattle.grammar.specs.Bytes.{Bytes, same, member}
use Rattle.grammar.specs.Each.{Each}

pub and_left : (a b : Bool) → (a && b) ≡ true → a ≡ true
and_left true b e = refl
and_left false b e = e

pub and_right : (a b : Bool) → (a && b) ≡ true → b ≡ true
and_right true b e = e
and_right false b e = absurd (false≢true e)

pub or_left : (a b : Bool) → (a || b) ≡ false → a ≡ false
or_left true b e = e
or_left false b e = refl

pub or_right : (a b : Bool) → (a || b) ≡ false → b ≡ false
or_right true b e = absurd (false≢true (sym e))
or_right false b e = e

pub beq_true : (b : Bool) → b ≡ beq true b
beq_true true = refl
beq_true false = refl

pub beq_false : (b : Bool) → not b ≡ beq false b
beq_false true = refl
beq_false false = refl

pub same_refl : (s : Bytes) → same s s ≡ true
same_refl [] = refl
same_refl (b ∷ s) = ap₂ ◌&&◌ (eq-eqb b b refl) (same_refl s)

pub same_true : (s t : Bytes) → same s t ≡ true → s ≡ t
same_true [] [] e = refl
same_true [] (b ∷ t) e = absurd (false≢true e)
same_true (a ∷ s) [] e = absurd (false≢true e)
same_true (a ∷ s) (b ∷ t) e =
    ap₂ (λ (k : ℕ) (ks : Bytes). k ∷ ks) (eqb-true a b (and_left (eqb a b) (same s t) e)) (same_true s t (and_right (eqb a b) (same s t) e))

pub same_comm : (s t : Bytes) → same s t ≡ same t s
same_comm s t = pick (same s t) refl (same t s) refl
  where
    pick : (b : Bool) → same s t ≡ b → (c : Bool) → same t s ≡ c → b ≡ c
    pick true e true f = refl
    pick false e false f = refl
    pick true e false f = sym (same_refl s) ∙ ap (λ u. same u s) (same_true s t e) ∙ f
    pick false e true f = sym e ∙ ap (same s) (same_true t s f) ∙ same_refl s

pub member-append : (w : Bytes) (vs us : List Bytes) → member w (vs ++ us) ≡ (member w vs || member w us)
member-append w [] us = refl
member-append w (v ∷ vs) us = rw (member-append w vs us) (sym (or_assoc (same w v) (member w vs) (member w us)))

pub each_weaken : {A : Type 0} (Q W : A → Type 0) → ((a : A) → Q a → W a) → (items : List A) → Each Q items → Each W items
each_weaken Q W h [] q = tt
each_weaken Q W h (a ∷ rest) q = (h a q.0, each_weaken Q W h rest q.1)

pub each_append : {A : Type 0} (Q : A → Type 0) (before after : List A) → Each Q before → Each Q after → Each Q (before ++ after)
each_append Q [] after p q = q
each_append Q (a ∷ before) after p q = (p.0, each_append Q before after p.1 q)

pub each_left : {A : Type 0} (Q : A → Type 0) (before after : List A) → Each Q (before ++ after) → Each Q before
each_left Q [] after q = tt
each_left Q (a ∷ before) after q = (q.0, each_left Q before after q.1)

pub each_right : {A : Type 0} (Q : A → Type 0) (before after : List A) → Each Q (before ++ after) → Each Q after
each_right Q [] after q = q
each_right Q (a ∷ before) after q = each_right Q before after q.1

-- a run of stores, and another behind it
pub sets_append : {A : Type 0} (l : List A) (i : ℕ) (vs ws : List A) → sets l i (vs ++ ws) ≡ sets (sets l i vs) (i + length vs) ws
sets_append l i [] ws = rw (add-zero i)
sets_append l i (v ∷ vs) ws =
    let e : suc i + length vs ≡ i + suc (length vs) = omega arith in
    sets_append (set l i v) (suc i) vs ws ∙ rw e
