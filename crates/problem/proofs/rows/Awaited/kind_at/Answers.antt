-- `kind_at` tells the kinds of a relation by their words.
use mathlib.Core.Path.{sym, ◌∙◌}
use Rattle.grammar.specs.Bytes.{bytes}
use Rattle.text.proofs.Found.{word-found}
use Rattle.problem.proofs.RelationPlaces.{kind_true, kind_false, kind_misspelled}
use Rattle.problem.proofs.rows.Awaited.kind_at.Goals as goal

pub returns-then-begins_at : goal.returns-then-begins_at
returns-then-begins_at c =
    kind_true c.args.self.now c.args.rows.now c.args.text.now c.args.at
    (word-found c.args.text.now c.args.at (bytes "true") c.requires (sym c.begins_at.ensures ∙ c.if-begins_at.true))

pub returns-then-begins_at-2 : goal.returns-then-begins_at-2
returns-then-begins_at-2 c =
    kind_false c.args.self.now c.args.rows.now c.args.text.now c.args.at (sym c.begins_at.ensures ∙ c.if-begins_at.false)
    (word-found c.args.text.now c.args.at (bytes "false") c.requires (sym c.begins_at-2.ensures ∙ c.if-begins_at-2.true))

pub returns-in_err-value : goal.returns-in_err-value
returns-in_err-value c =
    rw c.from_residual.ensures
    (kind_misspelled c.args.self.now c.args.rows.now c.args.text.now c.args.at (sym c.begins_at.ensures ∙ c.if-begins_at.false)
    (sym c.begins_at-2.ensures ∙ c.if-begins_at-2.false) c.listed_at.new.rows c.in_err-value.ensures)
