-- `simplify::truth_count` counts the parts that are a truth value. The invariant: the count so far with the count of the parts that are still to come.
use Prim.Native.Nat.{◌+◌, ◌-◌, ◌≤◌}
use mathlib.Core.Path.{◌≡◌}
use lib.ListN.{length, drop}
use Rattle.formula.specs.memory.Simplified.{truth_count}
use Rattle.formula.proofs.simplify.truth_count.Given as goal

abbrev pub invariant-loop-part : goal.invariant-loop-part
invariant-loop-part l =
    (l.i ≤ length l.work) × (l.found ≤ l._part) × (truth_count l.value l.count (drop l.at l.work) ≡ l.found + truth_count l.value (l.count - l._part) (drop l.i l.work))
