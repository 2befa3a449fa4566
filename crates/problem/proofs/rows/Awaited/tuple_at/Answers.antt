-- `tuple_at` reads one element after another. The invariant: the elements so far, and what is kept of them.
use native.Mathlib.Omega.{arith}
use mathlib.Core.Path.{◌∙◌}
use Rattle.problem.proofs.RowPlaces.{tuple_bounded, tuple_refused, tuple_last}
use Rattle.problem.proofs.rows.Awaited.tuple_at.Goals as goal

pub element_at-requires : goal.element_at-requires
element_at-requires c = (
  omega (arith, c.loop-read.invariant.listing.within),
  tuple_bounded c.args.self.now.domain c.args.text.now c.args.at c.loop-read.row c.loop-read.i c.loop-read.invariant c.args.self.now.small,
)

pub returns-in_err-read : goal.returns-in_err-read
returns-in_err-read c =
    rw c.from_residual.ensures
    (tuple_refused c.args.self.now.domain c.args.text.now c.args.at c.loop-read.row c.loop-read.i c.loop-read.invariant c.in_err-read.ensures)

pub returns-then-peek-ne46 : goal.returns-then-peek-ne46
returns-then-peek-ne46 c =
    tuple_last c.args.self.now.domain c.args.text.now c.args.at c.loop-read.row c.loop-read.i c.loop-read.invariant c.in_ok-read.read c.in_ok-read.ensures
    (λ e. c.if-peek-ne46.true (c.peek.ensures ∙ e))
