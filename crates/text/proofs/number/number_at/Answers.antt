-- `number::number_at` takes the run of digits, sees that it is well spelled, and tells its value by the cap.
use mathlib.Core.Path.{sym, ◌∙◌}
use Rattle.text.proofs.NumberPlaces.{number_misspelled, number_told}
use Rattle.text.proofs.number.number_at.Goals as goal

pub returns-then-not-well_spelled : goal.returns-then-not-well_spelled
returns-then-not-well_spelled c =
    number_misspelled c.args.text.now c.args.at c.digits_at-value.result c.digits_at-value.ensures c.requires (sym c.well_spelled.ensures ∙ c.if-not-well_spelled.true)

pub returns : goal.returns
returns c =
    rw c.then_some.ensures (number_told c.args.text.now c.args.at c.digits_at-value.result c.digits_at-value.ensures c.requires (sym c.well_spelled.ensures ∙ c.if-not-well_spelled.false))
