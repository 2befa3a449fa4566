-- `admit::admitted` evaluates the guard for each element. The invariant: the flags of the elements from the next one on are still to be stored.
use mathlib.Core.Path.{◌≡◌}
use mathlib.Core.Bool.{false}
use lib.ListN.{drop, replicate}
use lib.Seq.{sets}
use Rattle.guards.specs.memory.Admitted.{guard_admits, admitted_flags}
use Rattle.guards.proofs.memory.Admitted.{flags_from}
use Rattle.guards.proofs.admit.admitted.Given as goal

abbrev pub invariant-loop-i : goal.invariant-loop-i
invariant-loop-i l =
    sets (replicate 64 false) 0 (admitted_flags l.guards.structure.now.table.now l.guards.structure.now.rows.now l.levels (drop l.at l.guards.work.now))
    ≡ sets l.flags l.i (flags_from (guard_admits l.guards.structure.now.table.now l.guards.structure.now.rows.now l.levels (drop l.at l.guards.work.now)) l.guards.structure.now.table.now.domain l.i)
