-- Laws of `skip`: a turn of the loop that counts the parts still to come, and that it stays within the words; and a turn of the loop over terms.
-- Assumes nothing.
use Prim.Native.Nat.{ℕ, zero, suc, ◌+◌, ◌-◌, ◌%◌, ◌≤◌, ◌<◌, min}
use native.Mathlib.Nat.{zero-add, suc-add, min-eq_left}
use native.Mathlib.Decide.{dec_le}
use native.Mathlib.Numerals.{add-one, sub-one}
use native.Mathlib.Omega.{arith}
use mathlib.Core.Path.{◌≡◌, refl, sym, ap, ◌∙◌}
use mathlib.Core.List.{List, [], ◌∷◌}
use mathlib.Core.Bool.{true, false, ◌&&◌}
use borrow.Author.Tests.{eq-eqb, ne_eqb}
use lib.Dec.{eqb}
use lib.ListN.{length, drop, get_or, drop_of_length-le, length-drop}
use lib.Seq.{drop-drop, drop-cons}
use Rattle.text.proofs.Places.{next-within}
use Rattle.words.specs.memory.Kinds.{kind_of, part_count, skip, elements_at}

pub skip-none : (s : List ℕ) → skip s 0 ≡ 0
unfolding skip
skip-none [] = refl
skip-none (w ∷ s) = refl

pub skip-beyond : (s : List ℕ) (i n : ℕ) → length s ≤ i → skip (drop i s) n ≡ 0
unfolding skip
skip-beyond s i n h = rw (drop_of_length-le s h)

pub skip_turn : (s : List ℕ) (i n : ℕ) → i < length s → 0 < n
    → i + skip (drop i s) n ≡ (i + 1) + skip (drop (i + 1) s) (n - 1 + part_count (kind_of (get_or s i 0)))
unfolding skip
skip_turn s i zero h p = absurd (omega arith)
skip_turn s i (suc n) h p = rw (drop-cons s i 0 h, add-one i, sub-one (suc n)) (omega arith)

skip_atmost : (s : List ℕ) (n : ℕ) → skip s n ≤ length s
unfolding skip
skip_atmost [] n = omega arith
skip_atmost (w ∷ s) zero = omega arith
skip_atmost (w ∷ s) (suc n) = let h = skip_atmost s (n + part_count (kind_of w)) in omega arith

pub skip-within : (s : List ℕ) (i n : ℕ) → i ≤ length s → i + skip (drop i s) n ≤ length s
skip-within s i n h = let k = skip_atmost (drop i s) n in omega (arith, length-drop i s)

-- as many formulas as there are words, or more, are all the words
skip_all : (s : List ℕ) (n : ℕ) → length s ≤ n → skip s n ≡ length s
unfolding skip
skip_all [] n h = refl
skip_all (w ∷ s) zero h = absurd (omega arith)
skip_all (w ∷ s) (suc n) h = ap suc (skip_all s (n + part_count (kind_of w)) (omega arith))

-- so how many there are matters no further than the words
pub skip_capped : (s : List ℕ) (i n most : ℕ) → length s ≤ most → skip (drop i s) (min n most) ≡ skip (drop i s) n
skip_capped s i n most h = pick (dec_le n most)
  where
    pick : Dec (n ≤ most) → skip (drop i s) (min n most) ≡ skip (drop i s) n
    pick (yes k) = rw (min-eq_left k)
    pick (no k) =
        let fewer : min n most ≡ most = omega arith in
        let short = length-drop i s in
        rw fewer (skip_all (drop i s) most (omega arith) ∙ sym (skip_all (drop i s) n (omega arith)))

pub ruleset skips = (skip-none, skip-beyond, skip_turn, skip_capped)

-- some formulas, and then some more
pub skip_add : (s : List ℕ) (m n : ℕ) → skip s (m + n) ≡ skip s m + skip (drop (skip s m) s) n
unfolding skip
skip_add [] m n = refl
skip_add (w ∷ s) zero n = rw (zero-add, zero-add)
skip_add (w ∷ s) (suc m) n =
    let k = part_count (kind_of w) in
    let e : m + n + k ≡ m + k + n = omega arith in
    rw (suc-add, e, skip_add s (m + k) n) (omega arith)

-- Terms one by one.

module _ (work : List ℕ) (i n : ℕ) (more : 0 < n) where
  elements-first : elements_at n (drop i work) ≡ (eqb (get_or work i 0 % 16) 12 && elements_at (n - 1) (drop (i + 1) work))
  unfolding elements_at
  elements-first = pick n more
    where
      pick : (n : ℕ) → 0 < n → elements_at n (drop i work) ≡ (eqb (get_or work i 0 % 16) 12 && elements_at (n - 1) (drop (i + 1) work))
      pick zero h = absurd (omega arith)
      pick (suc n) h = rw (sub-one (suc n), next-within work i, drop-drop 1 i work)

  pub elements-more : get_or work i 0 % 16 ≡ 12 → elements_at n (drop i work) ≡ elements_at (n - 1) (drop (i + 1) work)
  elements-more e = elements-first ∙ rw (eq-eqb (get_or work i 0 % 16) 12 e)

  pub elements-stop : (get_or work i 0 % 16 ≡ 12 → ⊥) → elements_at n (drop i work) ≡ false
  elements-stop e = elements-first ∙ rw (ne_eqb (get_or work i 0 % 16) 12 e)

pub elements-none : (n : ℕ) (s : List ℕ) → n ≡ 0 → elements_at n s ≡ true
unfolding elements_at
elements-none n s e = rw e

pub ruleset elements = (elements-none, elements-more, elements-stop)
