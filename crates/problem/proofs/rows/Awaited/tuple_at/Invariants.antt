-- `tuple_at` reads one element after another. The invariant: the elements so far, and what is kept of them.
use Prim.Native.Nat.{◌-◌}
use lib.ListN.{length}
use Rattle.problem.proofs.RowPlaces.{TupleGoing}
use Rattle.problem.proofs.rows.Awaited.tuple_at.Given as goal

abbrev pub invariant-loop-read : goal.invariant-loop-read
invariant-loop-read l = TupleGoing l.self.domain l.text l.at l.row l.i

abbrev pub decreases-loop-read : goal.decreases-loop-read
decreases-loop-read l = length l.text - l.i
