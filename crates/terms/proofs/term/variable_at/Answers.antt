-- `term::variable_at` sees a small letter, takes the run of small letters and digits, and refuses `true` and `false`.
use mathlib.Core.Path.{sym, ap, ◌∙◌}
use Rattle.grammar.specs.Bytes.{is_small}
use Rattle.terms.proofs.memory.TermReads.{variable-none, variable-truth, variable-found}
use Rattle.terms.proofs.term.variable_at.Goals as goal

pub returns-then-not-is_small : goal.returns-then-not-is_small
returns-then-not-is_small c =
    variable-none c.args.setting.now.text.now c.args.at (ap is_small (sym c.peek.ensures) ∙ sym c.if-not-is_small.ensures)

pub returns-then-is_truth : goal.returns-then-is_truth
returns-then-is_truth c =
    variable-truth c.args.setting.now.text.now c.args.at c.run_end.result (ap is_small (sym c.peek.ensures) ∙ sym c.if-not-is_small.ensures) c.run_end.ensures.0
    (rw (c.of.ensures, c.name_to-name.ensures) at (sym c.if-is_truth.ensures))

pub returns : goal.returns
returns c =
    rw c.name_to-name.ensures
    (variable-found c.args.setting.now.text.now c.args.at c.run_end.result (ap is_small (sym c.peek.ensures) ∙ sym c.if-not-is_small.ensures) c.run_end.ensures.0
    (rw (c.of.ensures, c.name_to-name.ensures) at (sym c.if-is_truth.ensures)) c.run_end.ensures.1)
