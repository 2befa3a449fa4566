-- `Table::holds_row` asks the library whether the number is among those at the place that the table has.
use mathlib.Core.Path.{◌∙◌}
use Rattle.table.proofs.Tables.{any-among}
use Rattle.table.proofs.table.Table.holds_row.Goals as goal

pub returns : goal.returns
returns c = c.contains.ensures.value ∙ any-among c.args.key c.part.result.now ∙ rw (c.part.ensures, c.predicate-input.ensures)
