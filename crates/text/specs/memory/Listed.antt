-- The numbers that an iterator over a text still gives.
use Rattle.std.specs.Prelude.{ℕ, List}
use Rattle.text.specs.memory.Numbers.{numbers_at}
use Rattle.text.specs.declared.listed.Listed.{Listed}

abbrev pub numbers_left : Listed → List ℕ
numbers_left l = numbers_at l.text.now l.left.at l.left.many
