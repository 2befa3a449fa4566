-- `declaring_line` tells an input from an output by its word.
use mathlib.Core.Path.{sym, ◌∙◌}
use Rattle.grammar.specs.Bytes.{bytes}
use Rattle.text.proofs.Found.{word-found}
use Rattle.problem.proofs.ProblemPlaces.{declaring_input, declaring-output}
use Rattle.problem.proofs.progress.Progress.declaring_line.Goals as goal

pub input_line-requires : goal.input_line-requires
input_line-requires c =
    let w = word-found c.args.text.now c.args.at (bytes "input=") c.requires.0 (sym c.begins_at.ensures ∙ c.if-begins_at.true) in
    (w.within, c.requires.1, c.requires.2)

pub returns-then-begins_at : goal.returns-then-begins_at
returns-then-begins_at c =
    let w = word-found c.args.text.now c.args.at (bytes "input=") c.requires.0 (sym c.begins_at.ensures ∙ c.if-begins_at.true) in
    declaring_input c.args.text.now c.args.at c.args.self.now c.input_line.result w c.input_line.ensures

pub returns : goal.returns
returns c =
    declaring-output c.args.text.now c.args.at c.args.self.now c.output_line.result
    (sym c.begins_at.ensures ∙ c.if-begins_at.false) c.output_line.ensures
