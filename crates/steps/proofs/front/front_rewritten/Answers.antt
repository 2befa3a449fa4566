-- `front::front_rewritten`: the next theory is made behind the theory, and copied to the front if there is room for it.
use native.Mathlib.Omega.{arith}
use Rattle.words.proofs.memory.Storing.{fronted}
use Rattle.steps.proofs.front.front_rewritten.Goals as goal

pub returns-then-total-next : goal.returns-then-total-next
returns-then-total-next c =
    record { sized = c.rewrite-total.ensures.sized; stands = λ s. absurd (omega (arith, c.if-total-next.true, s)) }

pub returns : goal.returns
returns c =
    fronted _ _ _ _ _ _ c.rewrite-total.ensures.holds c.rewrite-total.ensures.sized (omega (arith, c.if-total-next.false)) c.requires.0.room c.copy.ensures.holds
