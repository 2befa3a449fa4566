-- `Printer::byte` stores a byte and moves the cursor.
use mathlib.Core.Path.{refl}
use Rattle.printing.proofs.memory.Cursor.{writes_one}
use Rattle.printing.proofs.cursor.Printer.byte.Goals as goal

pub returns : goal.returns
returns c = writes_one refl refl refl c.after-self.ensures c.put_if.ensures
