-- `Scope::are_terms_closed` goes through terms up to the first that is not closed. The invariant: the answer is that of the terms from here.
use Prim.Native.Nat.{◌+◌, ◌-◌}
use mathlib.Core.Path.{◌≡◌}
use lib.ListN.{drop}
use Rattle.guards.specs.memory.Flags.{terms_closed_at}
use Rattle.guards.proofs.scope.Scope.are_terms_closed.Given as goal

abbrev pub invariant-loop-i : goal.invariant-loop-i
invariant-loop-i l =
    terms_closed_at l.self.flags l.count (drop l.at l.self.work.now) ≡ terms_closed_at l.self.flags (l.count - l.i) (drop (l.at + l.i) l.self.work.now)
