-- `Clauses::printed` prints the lines from the first byte on.
use borrow.Author.Rules.{rules}
use Rattle.printing.proofs.memory.Cursor.{writes_whole}
use Rattle.printing.proofs.print.Clauses.printed.Goals as goal

pub returns : goal.returns
returns c =
    let same = c.print_lines.ensures.out in
    rw (← c.start.ensures) (writes_whole (search rules) c.print_lines.ensures)
