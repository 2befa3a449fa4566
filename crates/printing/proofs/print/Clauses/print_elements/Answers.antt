-- `Clauses::print_elements` prints the first element, and then each other behind a comma. The invariant: the others from here on remain.
use native.Mathlib.Omega.{arith}
use mathlib.Core.Path.{ap, ◌∙◌}
use Rattle.grammar.specs.Bytes.{joined}
use Rattle.printing.proofs.memory.Cursor.{remains_next, remains_last, writes_as, writes_then, writes_nothing}
use Rattle.printing.proofs.memory.ClauseText.{elements-none, elements-first, elements-more}
use Rattle.printing.proofs.print.Clauses.print_elements.Goals as goal

pub returns-then-count-eq0 : goal.returns-then-count-eq0
returns-then-count-eq0 c = writes_nothing (ap (joined 44) (elements-none _ _ c.if-count-eq0.true))

pub loop-i-preserved : goal.loop-i-preserved
loop-i-preserved c =
    remains_next c.loop-i.invariant (elements-more c.args.self.now.work.now c.loop-i.i c.args.count c.loop-i-test.true c.args.at ∙ rw (← c.element-in-loop-i.ensures)) c.byte.ensures
    c.number-in-loop-i.ensures

pub returns : goal.returns
returns c =
    writes_as (rw (elements-first c.args.self.now.work.now c.args.count c.args.at (omega (arith, c.if-count-eq0.false)), c.element.ensures))
    (writes_then c.number.ensures (remains_last c.loop-i.invariant (elements-none _ _ (omega arith))))
