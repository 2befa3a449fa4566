-- The formula that a rule line names, and the place of its path, in memory.
-- Assumes nothing.
use Prim.Native.Nat.{ℕ, zero, suc}
use native.Mathlib.Omega.{arith}
use mathlib.Core.Path.{◌≡◌, refl}
use mathlib.Core.Bool.{not}
use borrow.Author.Tests.{lt-ltb}
use lib.Dec.{ltb}
use Rattle.grammar.specs.Bytes.{Bytes}
use Rattle.text.specs.memory.Numbers.{numbers_at}
use Rattle.steps.specs.memory.Held.{is_empty}

pub steps_tested : (text : Bytes) (at steps : ℕ) → is_empty (numbers_at text at steps) ≡ not (ltb 0 steps)
unfolding numbers_at
steps_tested text at zero = refl
steps_tested text at (suc steps) = rw (lt-ltb 0 (suc steps) (omega arith))
