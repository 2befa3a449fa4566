-- `job::answered`: 1, or what is judged in the first numbers of working memory, which are cleared after it.
use borrow.Author.Rules.{rules}
use native.Mathlib.Omega.{arith}
use mathlib.Core.Path.{◌≡◌, refl, ap, ◌∙◌}
use mathlib.Core.List.{◌++◌}
use lib.ListN.{length, take, drop, replicate}
use lib.Seq.{length-take-le, drop_at}
use Rattle.std.specs.Prelude.{Err, ◌≤◌}
use Rattle.replay.specs.declared.job.Refusal.TheVariants.{Memory}
use Rattle.replay.proofs.Concluding.{answer_little, answer-enough}
use Rattle.replay.proofs.job.answered.Goals as goal

pub returns-then-work-size : goal.returns-then-work-size
returns-then-work-size c =
    answer_little _ _ _ _ _ _ _ (Err Memory) _ c.answer.ensures (omega (arith, c.if-work-size.true)) refl

pub returns : goal.returns
returns c =
    let size = c.args.size in
    let work = c.args.work.now in
    let room : size ≤ length work = omega (arith, c.if-work-size.false) in
    let kept : length c.judged_short-outcome.new.work ≡ length (take size work) = search rules in
    let long : length c.judged_short-outcome.new.work ≡ size = kept ∙ length-take-le size work room in
    answer-enough _ _ _ _ _ _ _ _ _ c.answer-2.ensures size c.requires room _ _ c.judged_short-outcome.ensures
    (c.clear.ensures ∙ ap (λ s. replicate size 0 ++ s) (drop_at c.judged_short-outcome.new.work (drop size work) size long))
