-- `tuples_at` reads one tuple after another. The invariant: the tuples so far, and what is kept of them in memory.
use Prim.Native.Nat.{◌-◌}
use mathlib.Core.Path.{◌≡◌}
use lib.ListN.{length}
use Rattle.problem.proofs.RowPlaces.{TuplesGoing}
use Rattle.problem.proofs.rows.Awaited.tuples_at.Given as goal

abbrev pub invariant-loop-value : goal.invariant-loop-value
invariant-loop-value l = TuplesGoing l.self l.initial.rows l.rows l.text l.at l.before l.i × (length l.rows ≡ length l.initial.rows)

abbrev pub decreases-loop-value : goal.decreases-loop-value
decreases-loop-value l = length l.text - l.i
