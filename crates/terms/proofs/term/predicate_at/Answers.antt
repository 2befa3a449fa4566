-- `term::predicate_at` sees a capital letter, then takes the run of letters and digits.
use mathlib.Core.Path.{sym, ap, ◌∙◌}
use Rattle.grammar.specs.Bytes.{is_capital}
use Rattle.terms.proofs.memory.TermReads.{name-refused, name-found}
use Rattle.terms.proofs.term.predicate_at.Goals as goal

pub returns-then-not-is_capital : goal.returns-then-not-is_capital
returns-then-not-is_capital c =
    name-refused c.args.setting.now.text.now c.args.at (ap is_capital (sym c.peek.ensures) ∙ sym c.if-not-is_capital.ensures)

pub returns : goal.returns
returns c =
    rw c.name_to.ensures
    (name-found c.args.setting.now.text.now c.args.at c.run_end.result (ap is_capital (sym c.peek.ensures) ∙ sym c.if-not-is_capital.ensures) c.run_end.ensures.0 c.run_end.ensures.1)
