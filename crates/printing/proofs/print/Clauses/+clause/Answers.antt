-- `Clauses::print_clause` prints what stands before the parts, the parts, and what stands behind them; `print_parts` the first part, and then each other
-- behind a comma. The measure is twice the levels, and one more for parts. The loop's invariant: the parts from here on remain.
use native.Mathlib.Omega.{arith}
use mathlib.Core.Path.{ap, ◌∙◌}
use Rattle.grammar.specs.Bytes.{joined}
use Rattle.printing.proofs.memory.Cursor.{remains_next, remains_last, writes_as, writes_then, writes_nothing}
use Rattle.printing.proofs.memory.ClauseText.{parts_none, parts_first, parts_more, clause_no_level, clause_beyond, clause_kind}
use Rattle.printing.proofs.print.Clauses.+clause.Goals as goal
use Rattle.printing.proofs.print.Clauses.+clause.Goals.{print_clause-then-levels-eq0-via-then-levels-eq0, print_clause-then-levels-eq0-via-else-levels-eq0+then-at-self}

pub print_clause-returns-then-levels-eq0 : goal.print_clause-returns-then-levels-eq0
print_clause-returns-then-levels-eq0 t c =
    elim c.then-levels-eq0.branch [
      | print_clause-then-levels-eq0-via-then-levels-eq0 w ↦ writes_nothing (clause_no_level _ _ c.args.self.now.work.now c.args.at _ w.if-levels-eq0.true)
      | print_clause-then-levels-eq0-via-else-levels-eq0+then-at-self w ↦ writes_nothing (clause_beyond _ _ c.args.self.now.work.now c.args.at _ w.if-at-self.true)
    ]

pub print_clause-returns : goal.print_clause-returns
print_clause-returns t c =
    writes_as (rw (c.closing.ensures, c.subformula_count.ensures, c.from-kind.ensures) (clause_kind _ _ c.args.self.now.work.now c.args.at _ c.if-levels-eq0.false c.if-at-self.false))
    (writes_then c.print_opening.ensures (writes_then c.print_parts.ensures c.bytes.ensures))

pub print_parts-returns-then-count-eq0 : goal.print_parts-returns-then-count-eq0
print_parts-returns-then-count-eq0 t c = writes_nothing (ap (joined 44) (parts_none _ _ _ c.if-count-eq0.true))

pub print_parts-loop-preserved : goal.print_parts-loop-preserved
print_parts-loop-preserved t c = record {
  within = c.past-place-in-loop.ensures.1;
  rest =
      remains_next c.loop.invariant.rest
      (parts_more c.args.self.now.work.now c.loop.counter c.args.count c.loop-test.true _ c.loop.place ∙ rw (← c.past-place-in-loop.ensures.0)) c.byte.ensures
      c.print_clause-in-loop.ensures;
}

pub print_parts-returns : goal.print_parts-returns
print_parts-returns t c =
    writes_as (rw (parts_first c.args.self.now.work.now c.args.count (omega (arith, c.if-count-eq0.false)) _ c.args.at, ← c.past-place.ensures.0))
    (writes_then c.print_clause.ensures (remains_last c.loop.invariant.rest (parts_none _ _ _ (omega arith))))
