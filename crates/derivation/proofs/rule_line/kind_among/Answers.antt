-- `rule_line::kind_among` tells the kind by the first word that stands there.
use Rattle.derivation.proofs.LinePlaces.{kind-found, kind_past, kind_none}
use Rattle.derivation.proofs.rule_line.kind_among.Goals as goal

pub returns-in-Some : goal.returns-in-Some
returns-in-Some c = kind-found _ _ _ _ c.loop-word.invariant _ c.loop-word-test.true c.in-Some.ensures.read

pub loop-word-preserved : goal.loop-word-preserved
loop-word-preserved c = kind_past _ _ _ _ c.loop-word.invariant _ c.loop-word-test.true c.in_default.ensures.read

pub returns : goal.returns
returns c = kind_none _ _ _ _ c.loop-word.invariant c.loop-word-test.false
