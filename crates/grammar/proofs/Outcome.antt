-- What an outcome has to meet, where a refusal is free: so every refusing case of a proof is `tt`; and outcomes one after another.
-- Assumes nothing.
use Prim.Native.Nat.{ℕ}
use native.Mathlib.Omega.{arith}
use mathlib.Core.Path.{◌≡◌, refl, subst}
use mathlib.Core.Bool.{Bool, true, false, cond}
use Rattle.grammar.specs.Outcome.{Outcome, done, refused, mapped, provided, ◌>>=◌}

abbrev pub Allowed : {E A : Type 0} → (A → Type 0) → Outcome E A → Type 0
Allowed Q (done a) = Q a
Allowed Q (refused e) = Unit {0}

module _ {E A : Type 0} (Q : A → Type 0) where
  pub allowed_mapped : {B : Type 0} (W : B → Type 0) (h : A → B) → ((a : A) → Q a → W (h a)) → (o : Outcome E A) → Allowed Q o → Allowed W (mapped h o)
  allowed_mapped W h k (done a) q = k a q
  allowed_mapped W h k (refused e) q = tt

  pub allowed_bind : {B : Type 0} (W : B → Type 0) (k : A → Outcome E B) → ((a : A) → Q a → Allowed W (k a)) → (o : Outcome E A) → Allowed Q o → Allowed W (o >>= k)
  allowed_bind W k h (done a) q = h a q
  allowed_bind W k h (refused e) q = tt

  pub allowed_weaken : (W : A → Type 0) → ((a : A) → Q a → W a) → (o : Outcome E A) → Allowed Q o → Allowed W o
  allowed_weaken W k (done a) q = k a q
  allowed_weaken W k (refused e) q = tt

  -- what is refused unless a test is passed
  pub allowed_cond : (o : Outcome E A) (e : E) (b : Bool) → (b ≡ true → Allowed Q o) → Allowed Q (cond b o (refused e))
  allowed_cond o e true k = k refl
  allowed_cond o e false k = tt

  -- an outcome that is known
  pub allowed_done : (o : Outcome E A) (a : A) → Allowed Q o → o ≡ done a → Q a
  allowed_done o a h e = subst (Allowed Q) e h

pub allowed_provided : {E : Type 0} (b : Bool) (e : E) → Allowed (λ u. b ≡ true) (provided b e)
allowed_provided true e = refl
allowed_provided false e = tt

-- nothing asked
pub allowed_any : {E A : Type 0} (o : Outcome E A) → Allowed (λ a. Unit {0}) o
allowed_any (done a) = tt
allowed_any (refused e) = tt

-- an outcome is what it is
pub allowed_itself : {E A : Type 0} (o : Outcome E A) → Allowed (λ a. o ≡ done a) o
allowed_itself (done a) = refl
allowed_itself (refused e) = tt

-- what was done before another is known to be done
pub bind_done : {E A B : Type 0} (o : Outcome E A) (k : A → Outcome E B) (b : B) → (o >>= k) ≡ done b → (a : A) × (o ≡ done a) × (k a ≡ done b)
bind_done (done a) k b e = (a, refl, e)
bind_done (refused r) k b e = let z : ◌≡◌ {A = ℕ} 0 1 = cc in absurd (omega arith)

-- one outcome after another, and a third
pub bind-bind : {E A B C : Type 0} (o : Outcome E A) (k : A → Outcome E B) (l : B → Outcome E C) → (o >>= λ a. k a >>= l) ≡ ((o >>= k) >>= l)
bind-bind (done a) k l = refl
bind-bind (refused e) k l = refl

pub mapped-mapped : {E A B C : Type 0} (g : B → C) (f : A → B) (o : Outcome E A) → mapped g (mapped f o) ≡ mapped (λ a. g (f a)) o
mapped-mapped g f (done a) = refl
mapped-mapped g f (refused e) = refl

-- what follows is the same but for a map
pub alike_bind : {E A B C : Type 0} (f : B → C) (k : A → Outcome E B) (l : A → Outcome E C) → ((a : A) → l a ≡ mapped f (k a)) → (o : Outcome E A)
    → (o >>= l) ≡ mapped f (o >>= k)
alike_bind f k l h (done a) = h a
alike_bind f k l h (refused e) = refl
