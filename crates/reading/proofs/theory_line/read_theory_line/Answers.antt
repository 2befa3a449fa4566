-- `theory_line::read_theory_line` judges the formula's line in the order of the numbers.
use mathlib.Core.Path.{sym, ◌∙◌}
use borrow.Author.Tests.{not-true, not-false}
use Rattle.std.proofs.lemmas.Result.{err_from_is_err_and}
use Rattle.reading.proofs.memory.TheoryLines.{line_refused, line_open, line_unnamed, line_unnormal, line-found}
use Rattle.reading.proofs.theory_line.read_theory_line.Goals as goal

pub returns-in_err-formula : goal.returns-in_err-formula
returns-in_err-formula c =
    λ rows.
    let p = err_from_is_err_and c.from_residual.result c.from_residual.ensures.1 in
    rw (p.1, p.2) (line_refused _ _ rows c.args.setting.now.text.now c.args.at _ (rw c.new-outer.ensures.text at c.in_err-formula.ensures.is))

pub returns-then-peek-ne10 : goal.returns-then-peek-ne10
returns-then-peek-ne10 c =
    λ rows. line_open _ _ rows _ _ _ _ _ _ (rw c.new-outer.ensures.is at c.in_ok-formula.ensures) (λ e. c.if-peek-ne10.true (c.peek.ensures ∙ e))

pub returns-then-not-facts : goal.returns-then-not-facts
returns-then-not-facts c =
    λ rows. line_unnamed _ _ rows _ _ _ _ _ _ (rw c.new-outer.ensures.is at c.in_ok-formula.ensures) (sym c.peek.ensures ∙ c.if-peek-ne10.false) (not-true _ c.if-not-facts.true)

pub returns-then-not-facts-2 : goal.returns-then-not-facts-2
returns-then-not-facts-2 c =
    λ rows. line_unnormal _ _ rows _ _ _ _ _ _ (rw c.new-outer.ensures.is at c.in_ok-formula.ensures) (sym c.peek.ensures ∙ c.if-peek-ne10.false) (not-false _ c.if-not-facts.false) (not-true _ c.if-not-facts-2.true)

pub returns : goal.returns
returns c =
    λ rows. line-found _ _ rows _ _ _ _ _ _ (rw c.new-outer.ensures.is at c.in_ok-formula.ensures) (sym c.peek.ensures ∙ c.if-peek-ne10.false) (not-false _ c.if-not-facts.false) (not-false _ c.if-not-facts-2.false)
