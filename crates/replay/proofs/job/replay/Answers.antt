-- `job::replay` is the one job without a claim to compare.
use Rattle.replay.proofs.Concluding.{replay_promised}
use Rattle.replay.proofs.job.replay.Goals as goal

pub returns : goal.returns
returns c = replay_promised _ _ _ _ _ _ _ _ c.answered.ensures
