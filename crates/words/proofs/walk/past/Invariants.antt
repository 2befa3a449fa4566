-- `walk::past` finds the place after some formulas. The invariant: from here, with the parts that are still pending, the same place is reached.
use Prim.Native.Nat.{◌+◌}
use mathlib.Core.Path.{◌≡◌}
use lib.ListN.{drop}
use Rattle.words.specs.memory.Kinds.{skip}
use Rattle.words.proofs.walk.past.Given as goal

abbrev pub invariant-loop-i : goal.invariant-loop-i
invariant-loop-i l = l.at + skip (drop l.at l.work) l.count ≡ l.i + skip (drop l.i l.work) l.pending
