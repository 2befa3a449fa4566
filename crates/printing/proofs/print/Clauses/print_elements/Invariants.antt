-- `Clauses::print_elements` prints the first element, and then each other behind a comma. The invariant: the others from here on remain.
use Prim.Native.Nat.{◌+◌, ◌-◌}
use lib.ListN.{drop}
use Rattle.grammar.specs.Bytes.{followed}
use Rattle.printing.specs.memory.ClauseText.{element_texts}
use Rattle.printing.proofs.memory.Cursor.{Remains}
use Rattle.printing.proofs.print.Clauses.print_elements.Given as goal

abbrev pub invariant-loop-i : goal.invariant-loop-i
invariant-loop-i l =
    Remains l.initial.printer (followed 44 (element_texts (l.count - 1) (drop (l.at + 1) l.self.work.now)))
    l.printer (followed 44 (element_texts (l.count - l.i) (drop (l.at + l.i) l.self.work.now)))
