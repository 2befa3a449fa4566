-- `grounding::replay_end`: what the derivation comes to, and the judgement of its end.
use mathlib.Core.Path.{refl}
use Rattle.steps.specs.memory.Memory.{rows_of, held_of}
use Rattle.grounding.specs.memory.Grounds.{ended_in, EndTold}
use Rattle.grounding.proofs.GroundReads.{ended-refused, ended_zero, ended-fault, handed_on}
use Rattle.grounding.proofs.grounding.replay_end.Goals as goal

pub returns-in_err-replayed-clause-told : goal.returns-in_err-replayed-clause-told
returns-in_err-replayed-clause-told c =
    let m = c.args.memory.now in
    handed_on (λ r. EndTold (ended_in c.args.table.now (rows_of m) (held_of m) c.args.text.now) r c.replay_text.new.memory)
    c.from_residual.result c.in_err-replayed.field-0.0 c.from_residual.ensures.1 (ended-refused _ _ _ _ _ c.in_err-replayed.ensures.told)

pub returns-in-Ok-clause-told : goal.returns-in-Ok-clause-told
returns-in-Ok-clause-told c =
    record { final = _; is = ended_zero _ _ _ _ _ c.in_ok-replayed.ensures.told.is _ refl c.in-Ok.ensures; few = c.replay_text.new.memory.few }

pub returns-in-Err-clause-told : goal.returns-in-Err-clause-told
returns-in-Err-clause-told c = ended-fault _ _ _ _ _ c.in_ok-replayed.ensures.told.is _ c.in-Err.ensures _ c.in_ok-replayed.ensures.told.footed
