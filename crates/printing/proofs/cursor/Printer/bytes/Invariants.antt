-- `Printer::bytes` prints byte after byte. The invariant: the bytes from here on remain.
use lib.ListN.{drop}
use Rattle.printing.proofs.memory.Cursor.{Remains}
use Rattle.printing.proofs.cursor.Printer.bytes.Given as goal

abbrev pub invariant-loop-b : goal.invariant-loop-b
invariant-loop-b l = Remains l.initial.self l.bytes l.self (drop l.b-index l.bytes)
