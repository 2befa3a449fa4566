-- One level down in memory.
-- Assumes nothing.
use Prim.Native.Nat.{ℕ, ◌+◌, ◌≤◌, ◌<◌}
use native.Mathlib.Omega.{arith}
use mathlib.Core.Path.{◌≡◌, refl}
use mathlib.Core.List.{List}
use mathlib.Core.Bool.{Bool, true, false}
use borrow.Author.Tests.{lt-ltb, le-ltb, ltb-true, ltb-false}
use lib.Dec.{ltb}
use lib.ListN.{length, get_or, drop, get_or-eq_default}
use Rattle.std.specs.Prelude.{Some, None}
use Rattle.words.specs.memory.Kinds.{kind_of, kind_by, skip}
use Rattle.words.specs.memory.Paths.{subformula_count, place_below}

module _ (work : List ℕ) (at i : ℕ) where
  -- a formula with parts is no word past the end
  pub below_inside : i < subformula_count (kind_of (get_or work at 0)) → at < length work
  unfolding kind_by
  below_inside h = pick (ltb at (length work)) refl
    where
      pick : (b : Bool) → ltb at (length work) ≡ b → at < length work
      pick true e = ltb-true at (length work) e
      pick false e =
          let z : i < subformula_count (kind_of 0) = rw (get_or-eq_default work 0 (ltb-false at (length work) e)) at h in
          absurd (omega arith)

  pub below_at : (j : ℕ) → i < subformula_count (kind_of (get_or work at 0)) → j ≡ at + 1 + skip (drop (at + 1) work) i → Some j ≡ place_below work at i
  unfolding place_below
  below_at j h e = rw (lt-ltb i (subformula_count (kind_of (get_or work at 0))) h, e)

  pub below_nowhere : subformula_count (kind_of (get_or work at 0)) ≤ i → None ≡ place_below work at i
  unfolding place_below
  below_nowhere h = rw (le-ltb i (subformula_count (kind_of (get_or work at 0))) h)
