-- `rule_line::numbers_at` reads numbers one by one. The invariant: the list is what was read and the list from here on.
use Prim.Native.Nat.{◌-◌}
use lib.ListN.{length}
use Rattle.derivation.proofs.LinePlaces.{NumbersPassed}
use Rattle.derivation.proofs.rule_line.numbers_at.Given as goal

abbrev pub invariant-loop-number : goal.invariant-loop-number
invariant-loop-number l = NumbersPassed l.least l.greatest l.text l.at l.i l.many

abbrev pub decreases-loop-number : goal.decreases-loop-number
decreases-loop-number l = length l.text - l.i
