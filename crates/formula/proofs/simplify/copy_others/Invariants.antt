-- `simplify::copy_others` copies the parts that are no such truth value. The invariant: what the parts that are still to come leave is still to be stored.
use Prim.Native.Nat.{◌-◌, ◌≤◌}
use lib.Seq.{slice}
use Rattle.words.proofs.memory.Storing.{Ahead}
use Rattle.formula.specs.memory.Simplified.{words_without}
use Rattle.formula.proofs.simplify.copy_others.Given as goal

abbrev pub invariant-loop-part : goal.invariant-loop-part
invariant-loop-part l =
    (l.i ≤ l.end) × Ahead l.initial.work l.to (words_without l.value l.count (slice l.at l.end l.initial.work)) l.work l.j (words_without l.value (l.count - l._part) (slice l.i l.end l.initial.work))
