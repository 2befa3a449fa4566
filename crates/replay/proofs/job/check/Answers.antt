-- `job::check` is the one job with a claim to compare.
use Rattle.replay.proofs.Concluding.{check_promised}
use Rattle.replay.proofs.job.check.Goals as goal

pub returns : goal.returns
returns c = check_promised _ _ _ _ _ _ _ _ _ c.answered.ensures
