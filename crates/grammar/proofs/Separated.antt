-- A list with separators, item by item: the bound of `further` does not matter where it is large enough, so that the rest of a list is
-- a list again.
-- Assumes nothing.
use Prim.Native.Nat.{ℕ, suc, zero, ◌≤◌, ◌<◌}
use native.Mathlib.Omega.{arith}
use mathlib.Core.Path.{◌≡◌, refl, sym, ap}
use mathlib.Core.List.{List, [], ◌∷◌, ◌++◌, append_assoc}
use mathlib.Core.Bool.{Bool, true, false, cond}
use lib.Dec.{eqb}
use lib.ListN.{length, drop, length-append}
use borrow.Author.Tests.{ne_eqb, eq-eqb}
use Rattle.grammar.specs.Bytes.{Bytes, next}
use Rattle.grammar.specs.Outcome.{Outcome, done, refused, mapped}
use Rattle.grammar.specs.Outcome as outcome
use Rattle.grammar.specs.Reading.{Reading, give, further, separated}
use Rattle.grammar.proofs.Outcome.{Allowed, allowed_weaken}
use Rattle.grammar.proofs.Reading.{Reads}

-- items read before those of an outcome
abbrev pub prepended : {A : Type 0} → List A → Outcome ℕ (List A × Bytes) → Outcome ℕ (List A × Bytes)
prepended items o = mapped (λ p. (items ++ p.0, p.1)) o

pub prepended_none : {A : Type 0} (o : Outcome ℕ (List A × Bytes)) → o ≡ prepended [] o
prepended_none (done p) = refl
prepended_none (refused number) = refl

pub prepended_more : {A : Type 0} (items more : List A) (o : Outcome ℕ (List A × Bytes))
    → prepended items (prepended more o) ≡ prepended (items ++ more) o
prepended_more items more (done p) = ap (λ l. done (l, p.1)) (sym (append_assoc items more p.0))
prepended_more items more (refused number) = refl

-- what is read is no longer than what it was read from
pub reads_shrinks : {A : Type 0} {Fits : A → Type 0} {text : A → Bytes} {r : Reading A} → Reads [] Fits text r
    → (s : Bytes) → Allowed (λ p. length p.1 ≤ length s) (r s)
reads_shrinks {text = text} {r = r} reads s =
    allowed_weaken _ _ (λ p q. omega (arith, simp length-append at (ap length q.1))) (r s) (reads.sound s)

module _ {A : Type 0} (separator : ℕ) (nonzero : 0 < separator) (item : Reading A) (shrinks : (s : Bytes) → Allowed (λ p. length p.1 ≤ length s) (item s)) where
  -- an item and those behind it
  abbrev pub listed : ℕ → Outcome ℕ (A × Bytes) → Outcome ℕ (List A × Bytes)
  listed most o = outcome.◌>>=◌ o λ p. outcome.◌>>=◌ (further separator item most p.1) λ q. done (p.0 ∷ q.0, q.1)

  abbrev Same : ℕ → ℕ → Type 0
  Same most more = (s : Bytes) → length s ≤ most → length s ≤ more → further separator item most s ≡ further separator item more s

  listed_same : (most more : ℕ) → Same most more → (s : Bytes) → length s ≤ most → length s ≤ more → listed most (item s) ≡ listed more (item s)
  listed_same most more ih s h k = pick (item s) (shrinks s)
    where
      pick : (o : Outcome ℕ (A × Bytes)) → Allowed (λ p. length p.1 ≤ length s) o → listed most o ≡ listed more o
      pick (done p) l = rw (ih p.1 (omega arith) (omega arith))
      pick (refused number) l = refl

  further_same : (most more : ℕ) → Same most more
  unfolding further
  further_same zero zero s h k = refl
  further_same zero (suc more) [] h k = rw (ne_eqb 0 separator (omega arith))
  further_same zero (suc more) (b ∷ s) h k = absurd (omega arith)
  further_same (suc most) zero [] h k = rw (ne_eqb 0 separator (omega arith))
  further_same (suc most) zero (b ∷ s) h k = absurd (omega arith)
  further_same (suc most) (suc more) [] h k = rw (ne_eqb 0 separator (omega arith))
  further_same (suc most) (suc more) (b ∷ s) h k = pick (eqb b separator) (listed_same most more (λ t. further_same most more t) s (omega arith) (omega arith))
    where
      pick : (c : Bool) → listed most (item s) ≡ listed more (item s)
          → cond c (λ t. listed most (item (drop 1 t))) (give []) (b ∷ s) ≡ cond c (λ t. listed more (item (drop 1 t))) (give []) (b ∷ s)
      pick true e = e
      pick false e = refl

  pub listed-separated : (most : ℕ) (s : Bytes) → length s ≤ most → listed most (item s) ≡ separated separator item s
  unfolding separated
  listed-separated most s h = pick (item s) (shrinks s)
    where
      pick : (o : Outcome ℕ (A × Bytes)) → Allowed (λ p. length p.1 ≤ length s) o
          → listed most o ≡ outcome.◌>>=◌ o λ p. outcome.◌>>=◌ (further separator item (length p.1) p.1) λ q. done (p.0 ∷ q.0, q.1)
      pick (done p) l = rw (further_same most (length p.1) p.1 (omega arith) (omega arith))
      pick (refused number) l = refl

  further-none : (most : ℕ) (t : Bytes) → (next t ≡ separator → ⊥) → further separator item most t ≡ done ([], t)
  unfolding further
  further-none zero t h = refl
  further-none (suc most) t h = rw (ne_eqb (next t) separator h)

  further_some : (t : Bytes) → next t ≡ separator → further separator item (length t) t ≡ separated separator item (drop 1 t)
  unfolding further
  further_some [] h = absurd (omega arith)
  further_some (b ∷ t) h = rw (eq-eqb b separator h) (listed-separated (length t) t (omega arith))

  -- by the first item and the byte behind it
  module _ (s : Bytes) where
    pub separated-refused : (number : ℕ) → item s ≡ refused number → separated separator item s ≡ refused number
    unfolding separated
    separated-refused number e = rw e

    module _ (a : A) (t : Bytes) (e : item s ≡ done (a, t)) where
      pub separated-last : (next t ≡ separator → ⊥) → separated separator item s ≡ done (a ∷ [], t)
      unfolding separated
      separated-last h = rw (e, further-none (length t) t h)

      pub separated_more : next t ≡ separator → separated separator item s ≡ prepended (a ∷ []) (separated separator item (drop 1 t))
      unfolding separated
      separated_more h = rw e (rw (further_some t h) (pick (separated separator item (drop 1 t))))
        where
          pick : (o : Outcome ℕ (List A × Bytes)) → (outcome.◌>>=◌ o λ q. done (a ∷ q.0, q.1)) ≡ prepended (a ∷ []) o
          pick (done q) = refl
          pick (refused number) = refl
