-- `replaying::step`: what a rule line does to memory, by its kind.
use Rattle.steps.specs.memory.Held.{stepped_in}
use Rattle.grounding.proofs.Turns.{name-rule}
use Rattle.grounding.proofs.replaying.step.Goals as goal

pub returns-in-Rewrite-clause-told : goal.returns-in-Rewrite-clause-told
unfolding stepped_in
returns-in-Rewrite-clause-told c = rw (c.in-Rewrite.is, name-rule) c.rewrite.ensures.told
