-- `rows_line` reads the awaited rows and takes the input with them.
use Rattle.problem.specs.memory.ProblemLines.{ToldProblemLine}
use Rattle.problem.proofs.Refusing.{handed_on}
use Rattle.problem.proofs.RowsLine.{awaited-facts, rows_failed, tuples-few, rows-line}
use Rattle.problem.proofs.progress.Progress.rows_line.Goals as goal

pub awaited-awaited-requires : goal.awaited-awaited-requires
awaited-awaited-requires c = (awaited-facts c.args.text.now c.args.self.now c.args.rows.now c.requires.1 c.requires.2).2

pub returns-in_err-count : goal.returns-in_err-count
returns-in_err-count c =
    handed_on (ToldProblemLine c.args.text.now c.args.at c.args.self.now c.args.rows.now c.rows_at.new.rows) c.from_residual.result
    c.in_err-count.field-0.0 c.from_residual.ensures.1
    (rows_failed c.args.text.now c.args.at c.args.self.now c.args.rows.now c.requires.1 c.requires.2 c.awaited-awaited.result c.awaited-awaited.ensures c.rows_at.new.rows
    c.in_err-count.field-0.0 c.in_err-count.ensures)

pub with_rows-value-requires : goal.with_rows-value-requires
with_rows-value-requires c =
    tuples-few c.args.text.now c.args.at c.args.self.now c.args.rows.now c.requires.1 c.requires.2 c.awaited-awaited.result c.awaited-awaited.ensures c.rows_at.new.rows
    c.in_ok-count.field-0 c.in_ok-count.ensures c.tuples.result c.tuples.ensures.0

pub returns : goal.returns
returns c =
    rows-line c.args.text.now c.args.at c.args.self.now c.args.rows.now c.requires.1 c.requires.2 c.awaited-awaited.result c.awaited-awaited.ensures c.rows_at.new.rows
    c.in_ok-count.field-0 c.in_ok-count.ensures c.tuples.result c.tuples.ensures.0 c.with_rows-value.result c.with_rows-value.ensures c.requires.3
