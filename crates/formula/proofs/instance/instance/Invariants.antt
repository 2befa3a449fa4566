-- `instance::instance` copies a range with an element for a variable. The invariant: what is made of the rest of the range is still to be stored.
use Prim.Native.Nat.{◌-◌, ◌*◌, ◌≤◌}
use lib.Seq.{slice}
use Rattle.words.proofs.memory.Storing.{Ahead}
use Rattle.formula.specs.memory.Instances.{words_with}
use Rattle.formula.proofs.instance.instance.Given as goal

abbrev pub invariant-loop-i : goal.invariant-loop-i
invariant-loop-i l =
    (l.held ≤ (l.i - l.at) * 4294967296) × Ahead l.initial.work l.to (words_with l.x l.v (slice l.at l.end l.initial.work) 0) l.work l.j (words_with l.x l.v (slice l.i l.end l.initial.work) l.held)
