-- `Clauses::print_lines` prints one clause after the other, with an LF behind each. The invariant: the lines from here on remain.
use native.Mathlib.Omega.{arith}
use mathlib.Core.Path.{◌∙◌}
use Rattle.printing.proofs.memory.Cursor.{remains_nothing, remains_then, writes_then}
use Rattle.printing.proofs.memory.ClauseText.{lines_none, lines_more}
use Rattle.printing.proofs.print.Clauses.print_lines.Goals as goal

pub loop-preserved : goal.loop-preserved
loop-preserved c = record {
  within = c.past-place.ensures.1;
  rest =
      remains_then c.loop.invariant.rest
      (lines_more c.args.self.now.work.now c.loop.counter c.args.count c.loop-test.true _ _ _ c.loop.place ∙ rw (← c.past-place.ensures.0))
      (writes_then c.print_clause.ensures c.byte.ensures);
}

pub returns : goal.returns
returns c = remains_nothing c.loop.invariant.rest (lines_none _ _ _ _ _ (omega arith))
