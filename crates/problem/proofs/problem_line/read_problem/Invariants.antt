-- `problem_line::read_problem` reads line after line. The invariant: what the text is, is what its rest makes of the part that is read so far.
use Prim.Native.Nat.{◌-◌}
use mathlib.Core.Path.{◌≡◌}
use lib.ListN.{length}
use Rattle.problem.proofs.ProblemLoop.{ProblemGoing}
use Rattle.problem.proofs.problem_line.read_problem.Given as goal

abbrev pub invariant-loop-at : goal.invariant-loop-at
invariant-loop-at l = ProblemGoing l.text l.progress l.rows l.at l.line × (length l.rows ≡ length l.initial.rows)

abbrev pub decreases-loop-at : goal.decreases-loop-at
decreases-loop-at l = length l.text - l.at
