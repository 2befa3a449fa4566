-- `output_line` takes a predicate that joins the outputs.
use Prim.Native.Nat.{◌+◌}
use mathlib.Core.Path.{refl, sym, ◌∙◌}
use Rattle.grammar.specs.Bytes.{bytes}
use Rattle.grammar.specs.Problem.{read_output}
use Rattle.text.specs.memory.Found.{WordFound}
use Rattle.text.proofs.Found.{word-found}
use Rattle.table.specs.memory.Table.{problem_in}
use Rattle.problem.specs.memory.ProblemLines.{LineTold}
use Rattle.problem.proofs.Refusing.{handed_on}
use Rattle.problem.proofs.ProblemPlaces.{output_missing, output_failed, output-line}
use Rattle.problem.proofs.progress.Progress.output_line.Goals as goal
use Rattle.problem.proofs.progress.Progress.output_line.Goals.{Else-not-begins_at}

-- the word is there
word : (c : Else-not-begins_at) → WordFound (bytes "output=") c.args.text.now c.args.at (c.args.at + 7)
word c = word-found c.args.text.now c.args.at (bytes "output=") c.requires.0 (sym c.begins_at.ensures ∙ c.if-not-begins_at.false)

pub returns-then-not-begins_at : goal.returns-then-not-begins_at
returns-then-not-begins_at c = output_missing c.args.text.now c.args.at c.args.self.now (sym c.begins_at.ensures ∙ c.if-not-begins_at.true)

pub declared-requires : goal.declared-requires
declared-requires c = ((word (goal.at.declared-requires c).Else-not-begins_at).within, c.requires.1)

pub returns-in_err-table : goal.returns-in_err-table
returns-in_err-table c =
    handed_on (LineTold (λ rows. read_output (problem_in c.args.text.now c.args.self.now.table rows)) c.args.text.now c.args.at c.args.self.now)
    c.from_residual.result c.in_err-table.field-0.0 c.from_residual.ensures.1
    (output_failed c.args.text.now c.args.at c.args.self.now (word (goal.at.returns-in_err-table c).Else-not-begins_at) c.in_err-table.field-0.0 c.in_err-table.ensures)

pub returns : goal.returns
returns c =
    output-line c.args.text.now c.args.at c.args.self.now (word (goal.at.returns c).Else-not-begins_at) c.in_ok-table.field-0 c.in_ok-table.ensures _
    (record { stage = refl; table = refl; used = refl; total = refl })
