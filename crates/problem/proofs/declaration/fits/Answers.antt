-- `declaration::fits` makes each test of a predicate that may join.
use mathlib.Core.Path.{◌≡◌}
use mathlib.Core.Bool.{not}
use Rattle.std.specs.Option.{is_some}
use Rattle.table.specs.memory.Table.{found, name_at}
use Rattle.problem.proofs.ProblemPlaces.{fits_else}
use Rattle.problem.proofs.declaration.fits.Goals as goal

pub returns : goal.returns
returns c =
    let free : is_some (found c.args.text.now c.args.table.now (name_at c.args.text.now c.args.name)) ≡ not c.is_none.result =
    rw (c.find.ensures, c.of.ensures) at c.is_none.ensures in
    fits_else c.args.text.now c.args.table.now c.args.name c.args.arity c.requires c.if-arity-gt-GREATEST_ARITY.false
    c.if-name-gt-NAME_SIZE.false c.if-table-gt-LAST_PREDICATE.false c.is_none.result free
