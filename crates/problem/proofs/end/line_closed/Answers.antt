-- `end::line_closed` tells whether an LF stands at a place.
use mathlib.Core.Path.{sym, ◌∙◌}
use Rattle.problem.proofs.EndPlaces.{line_ended, line_going}
use Rattle.problem.proofs.end.line_closed.Goals as goal

pub returns-then-peek-eq10 : goal.returns-then-peek-eq10
returns-then-peek-eq10 c = line_ended c.args.text.now c.args.at (sym c.peek.ensures ∙ c.if-peek-eq10.true)

pub returns-else-peek-eq10 : goal.returns-else-peek-eq10
returns-else-peek-eq10 c = line_going c.args.text.now c.args.at (λ e. c.if-peek-eq10.false (c.peek.ensures ∙ e))
