-- `Printer::number` prints the digits but the last, and then the last.
use Rattle.grammar.proofs.Numbers.{decimal_one, decimal-more}
use Rattle.printing.proofs.memory.Cursor.{writes_as, writes_then}
use Rattle.printing.proofs.cursor.Printer.+number.Goals as goal

pub returns-then-n-lt10 : goal.returns-then-n-lt10
returns-then-n-lt10 t c = writes_as (decimal_one c.args.n c.if-n-lt10.true) c.byte.ensures

pub returns-else-n-lt10 : goal.returns-else-n-lt10
returns-else-n-lt10 t c = writes_as (decimal-more c.args.n c.if-n-lt10.false) (writes_then c.number.ensures c.byte-else-n-lt10.ensures)
