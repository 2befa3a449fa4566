-- `names::climbs` goes over new names. The invariant: whether all climb, and to where, is whether the rest do from the greatest so far.
use mathlib.Core.Path.{◌≡◌}
use Rattle.demands.specs.Theory.{climbing, highest}
use Rattle.text.specs.memory.Numbers.{numbers_at}
use Rattle.text.specs.memory.Listed.{numbers_left}
use Rattle.names.proofs.names.climbs.Given as goal

abbrev pub invariant-loop-name : goal.invariant-loop-name
invariant-loop-name l =
    let all = numbers_at l.text l.fn.names.at l.fn.names.many in
    let rest = numbers_left l.name-iterator in
    (climbing l.top all ≡ climbing l.greatest rest) × (highest l.top all ≡ highest l.greatest rest)
