-- `names::put_numbers` stores numbers of a text one after the other. The invariant: the rest of them is still to be stored.
use Rattle.text.specs.memory.Numbers.{numbers_at}
use Rattle.text.specs.memory.Listed.{numbers_left}
use Rattle.words.proofs.memory.Storing.{Ahead}
use Rattle.names.proofs.names.put_numbers.Given as goal

abbrev pub invariant-loop-number : goal.invariant-loop-number
invariant-loop-number l =
    Ahead l.initial.list l.to (numbers_at l.text l.fn.numbers.at l.fn.numbers.many) l.list l.next (numbers_left l.number-iterator)
