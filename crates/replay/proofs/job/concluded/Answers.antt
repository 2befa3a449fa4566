-- `job::concluded` runs over the ground text without storing, and again with it if nothing is refused.
use native.Mathlib.Omega.{arith}
use mathlib.Core.Path.{◌∙◌}
use Rattle.replay.proofs.Concluding.{conclude_long, conclude_other, conclude_all, agreed_as}
use Rattle.replay.proofs.job.concluded.Goals as goal

pub returns-then-cursor-output : goal.returns-then-cursor-output
returns-then-cursor-output c =
    let so = rw c.claimed-compared.ensures at c.printed-cursor.ensures in
    conclude_long _ _ so c.if-cursor-output.true

pub returns-then-not-agrees : goal.returns-then-not-agrees
returns-then-not-agrees c =
    let so = rw c.claimed-compared.ensures at c.printed-cursor.ensures in
    conclude_other _ _ so (c.agrees.ensures ∙ agreed_as c.printed-cursor.result c.args.claim) (omega (arith, c.if-cursor-output.false)) c.if-not-agrees.true

pub returns : goal.returns
returns c =
    let so = rw c.claimed-compared.ensures at c.printed-cursor.ensures in
    let stored = rw c.claimed-compared.ensures at c.printed.ensures in
    conclude_all _ _ so (c.agrees.ensures ∙ agreed_as c.printed-cursor.result c.args.claim) (omega (arith, c.if-cursor-output.false)) c.if-not-agrees.false stored
