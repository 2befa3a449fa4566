-- `term::closed_terms` sees the bracket behind the terms.
use mathlib.Core.Path.{sym, ◌∙◌}
use Rattle.terms.specs.memory.Entries.{setting_of}
use Rattle.terms.proofs.memory.TermReads.{closed-refused, closed_other, closed-found}
use Rattle.terms.proofs.term.closed_terms.Goals as goal

pub returns-in_err-value : goal.returns-in_err-value
returns-in_err-value c =
    rw c.from_residual.ensures (closed-refused (setting_of c.args.setting.now) c.args.most c.args.at c.in_err-value.ensures)

pub returns-then-peek-ne41 : goal.returns-then-peek-ne41
returns-then-peek-ne41 c =
    closed_other _ _ _ _ _ _ _ _ c.in_ok-value.ensures (λ e. c.if-peek-ne41.true (c.peek.ensures ∙ e))

pub returns : goal.returns
returns c =
    closed-found _ _ _ _ _ _ _ _ c.in_ok-value.ensures (sym c.peek.ensures ∙ c.if-peek-ne41.false)
