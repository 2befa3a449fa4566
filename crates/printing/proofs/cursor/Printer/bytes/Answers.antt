-- `Printer::bytes` prints byte after byte. The invariant: the bytes from here on remain.
use native.Mathlib.Omega.{arith}
use lib.ListN.{drop_of_length-le}
use Rattle.printing.proofs.memory.Cursor.{remains_nothing, remains_then, from_byte}
use Rattle.printing.proofs.cursor.Printer.bytes.Goals as goal

pub loop-b-preserved : goal.loop-b-preserved
loop-b-preserved c = remains_then c.loop-b.invariant (from_byte c.args.bytes.now c.loop-b.b-index (omega arith)) c.byte.ensures

pub returns : goal.returns
returns c = remains_nothing c.loop-b.invariant (drop_of_length-le c.args.bytes.now (omega arith))
