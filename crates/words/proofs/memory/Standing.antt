-- Where the words of a formula stand in memory: its first word, and the range of the others.
-- Assumes nothing.
use Prim.Native.Nat.{ℕ, zero, suc, ◌+◌}
use native.Mathlib.Nat.{zero-add, suc-add}
use native.Mathlib.Omega.{arith}
use mathlib.Core.Path.{◌≡◌, sym, ap, ◌∙◌}
use mathlib.Core.List.{List, [], ◌∷◌, ◌++◌}
use lib.ListN.{length, get_or, take, drop}
use lib.Seq.{slice, take-nil, drop-drop, take-append_seam}
use Rattle.text.proofs.Places.{next-within}

pub drop-take : (i n : ℕ) (l : List ℕ) → drop i (take (i + n) l) ≡ take n (drop i l)
drop-take zero n l = rw zero-add
drop-take (suc i) n [] = rw suc-add (sym (take-nil n))
drop-take (suc i) n (w ∷ l) = rw suc-add (drop-take i n l)

module _ (work : List ℕ) (at first : ℕ) (others rest : List ℕ) (stands : drop at work ≡ first ∷ (others ++ rest)) where
  pub first-stands : get_or work at 0 ≡ first
  first-stands = next-within work at ∙ ap (λ (s : List ℕ). get_or s 0 0) stands

  pub others_stand : (end : ℕ) → end ≡ at + (1 + length others) → slice (at + 1) end work ≡ others
  others_stand end e =
      let f : end ≡ at + 1 + length others = omega arith in
      rw (f, drop-take (at + 1) (length others) work, ← drop-drop 1 at work, stands) (take-append_seam others rest)
