-- `Scope::is_closed` and `Scope::are_closed` call each other; levels fall, and a list of parts counts as half a level. The loop's invariant: the answer
-- is that of the parts from here.
use Prim.Native.Nat.{◌+◌, ◌-◌, ◌≤◌}
use mathlib.Core.Path.{◌≡◌}
use lib.ListN.{length, drop}
use Rattle.guards.specs.memory.Flags.{all_closed_at}
use Rattle.guards.proofs.scope.Scope.+closed.Given as goal

abbrev pub decreases-is_closed : goal.decreases-is_closed
decreases-is_closed l = l.levels + l.levels

abbrev pub decreases-are_closed : goal.decreases-are_closed
decreases-are_closed l = l.levels + l.levels + 1

abbrev pub invariant-are_closed-loop : goal.invariant-are_closed-loop
invariant-are_closed-loop l = record {
  within : l.place ≤ length l.self.work.now;
  rest : all_closed_at l.levels l.self.flags l.count (drop l.at l.self.work.now) ≡ all_closed_at l.levels l.self.flags (l.count - l.counter) (drop l.place l.self.work.now);
}
