-- `input_line` takes a predicate that joins, whose rows are awaited.
use mathlib.Core.Path.{refl}
use Rattle.grammar.specs.Problem.{read_input}
use Rattle.table.specs.memory.Table.{problem_in}
use Rattle.problem.specs.memory.ProblemLines.{LineTold}
use Rattle.problem.proofs.Refusing.{handed_on}
use Rattle.problem.proofs.ProblemPlaces.{input_failed, input_line}
use Rattle.problem.proofs.progress.Progress.input_line.Goals as goal

pub returns-in_err-table : goal.returns-in_err-table
returns-in_err-table c =
    handed_on (LineTold (λ rows. read_input (problem_in c.args.text.now c.args.self.now.table rows)) c.args.text.now c.args.at c.args.self.now)
    c.from_residual.result c.in_err-table.field-0.0 c.from_residual.ensures.1
    (input_failed c.args.text.now c.args.at c.args.self.now c.in_err-table.field-0.0 c.in_err-table.ensures)

pub returns : goal.returns
returns c =
    input_line c.args.text.now c.args.at c.args.self.now c.in_ok-table.field-0 c.in_ok-table.ensures _
    (record { stage = refl; table = refl; used = refl; total = refl }) c.requires.2
