-- `folders::path` writes word after word within the room.
use Rattle.std.proofs.Common.{length, ◌≤◌}
use Rattle.cases.proofs.folders.path.Given as goal

abbrev pub invariant-loop-word : goal.invariant-loop-word
invariant-loop-word l = l.size ≤ length l.room
