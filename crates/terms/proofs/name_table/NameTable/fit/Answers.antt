-- `NameTable::fit` counts the names, and then measures them.
use borrow.Author.Rules.{rules}
use borrow.Author.Tests.{lt-leb}
use Rattle.terms.proofs.memory.NameTable.{fits_few, fits-many}
use Rattle.terms.proofs.name_table.NameTable.fit.Goals as goal

pub returns-then-self-le-MOST_VARIABLES : goal.returns-then-self-le-MOST_VARIABLES
returns-then-self-le-MOST_VARIABLES c =
    rw (fits_few c.args.text.now c.args.self.now (search rules) c.if-self-le-MOST_VARIABLES.true) c.are_short.ensures

pub returns-else-self-le-MOST_VARIABLES : goal.returns-else-self-le-MOST_VARIABLES
returns-else-self-le-MOST_VARIABLES c =
    rw (fits-many c.args.text.now c.args.self.now (search rules) c.if-self-le-MOST_VARIABLES.false, lt-leb c.args.self.now.count 64 c.if-self-le-MOST_VARIABLES.false)
