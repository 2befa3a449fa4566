-- `Printer::number` prints the digits but the last, and then the last.
use Rattle.printing.proofs.cursor.Printer.+number.Given as goal

abbrev pub decreases-number : goal.decreases-number
decreases-number l = l.n
