-- `tuples_at` reads one tuple after another. The invariant: the tuples so far, and what is kept of them in memory.
use mathlib.Core.Path.{◌∙◌}
use Rattle.problem.proofs.RowPlaces.{tuples-refused, tuples-last}
use Rattle.problem.proofs.rows.Awaited.tuples_at.Goals as goal

pub returns-in_err-value : goal.returns-in_err-value
returns-in_err-value c =
    rw c.from_residual.ensures
    (tuples-refused c.args.self.now c.args.rows.now c.args.text.now c.args.at c.loop-value.rows c.loop-value.before c.loop-value.i c.loop-value.invariant.0
    c.loop-value.rows c.in_err-value.ensures)

pub returns-then-peek-ne44 : goal.returns-then-peek-ne44
returns-then-peek-ne44 c =
    tuples-last c.args.self.now c.args.rows.now c.args.text.now c.args.at c.loop-value.rows c.loop-value.before c.loop-value.i c.loop-value.invariant.0
    c.in_ok-value.field-0 c.in_ok-value.ensures c.kept-after.new.rows c.kept-after.result c.kept-after.ensures (λ e. c.if-peek-ne44.true (c.peek.ensures ∙ e))
