-- `instance::instances` makes a copy for each element whose flag is set. The invariant: the copies for the elements from the next one on are still to be stored.
use Prim.Native.Nat.{◌+◌}
use lib.ListN.{drop}
use lib.Seq.{slice}
use Rattle.words.proofs.memory.Storing.{Ahead}
use Rattle.formula.specs.memory.Instances.{copies}
use Rattle.formula.proofs.instance.instances.Given as goal

abbrev pub invariant-loop-i : goal.invariant-loop-i
invariant-loop-i l =
    Ahead l.initial.work l.to (copies l.flags l.x (slice l.at l.end l.initial.work) 1) l.work l.j (copies (drop l.i l.flags) l.x (slice l.at l.end l.initial.work) (l.i + 1))
