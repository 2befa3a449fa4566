-- `written::put` goes on by a byte or more at each turn.
use Rattle.std.proofs.Common.{length}
use Rattle.casefile.proofs.written.put.Given as goal

abbrev pub decreases-loop-rest : goal.decreases-loop-rest
decreases-loop-rest g l = length l.rest
