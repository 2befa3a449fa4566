-- `job::Texts::judged`: the ground theory, and what is concluded from it; or the refusal.
use Rattle.std.specs.Prelude.{is_some}
use Rattle.demands.specs.Answer.{grounded}
use Rattle.demands.specs.memory.Conclusions.{judged_of}
use Rattle.grounding.proofs.GroundReads.{ground-told, handed_on}
use Rattle.replay.specs.memory.Answers.{claimed, Told}
use Rattle.replay.specs.declared.job.Refusal.TheVariants.{Text}
use Rattle.replay.proofs.Concluding.{judged-refused, judged_concluded}
use Rattle.replay.proofs.job.Texts.judged.Goals as goal

pub ground_theory-requires : goal.ground_theory-requires
ground_theory-requires c = (c.layout.ensures _ c.requires.0, c.requires.1, c.requires.2, c.requires.3)

pub returns-in_err-ground : goal.returns-in_err-ground
returns-in_err-ground c =
    let t = c.args.self.now in
    let told = ground-told (grounded t.problem.now t.theory.now t.derivation.now) t.problem.now c.ground_theory.result c.ground_theory.ensures.told in
    handed_on (λ r. Told (judged_of (is_some t.claim) t.problem.now t.theory.now t.derivation.now (claimed t.claim) c.args.output.now) c.args.output.now r c.args.output.now)
    c.from_residual.result (Text c.in_err-ground.field-0.0) c.from_residual.ensures.1
    (judged-refused _ _ _ _ _ _ c.in_err-ground.field-0.0 (rw c.in_err-ground.was at told.refuses))

pub returns : goal.returns
returns c =
    let t = c.args.self.now in
    let told = ground-told (grounded t.problem.now t.theory.now t.derivation.now) t.problem.now c.ground_theory.result c.ground_theory.ensures.told in
    judged_concluded _ _ _ _ _ c.in_ok-ground.ground (rw c.in_ok-ground.was at told.accepted) _ _ _ c.words.ensures c.concluded.ensures
