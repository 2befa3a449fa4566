-- `number::digits_at` passes digits one by one. The invariant: what is read from here on behind the value so far is the number.
use Prim.Native.Nat.{◌≤◌}
use Rattle.text.proofs.NumberPlaces.{DigitsPassed}
use Rattle.text.proofs.number.digits_at.Given as goal

abbrev pub invariant-loop-i : goal.invariant-loop-i
invariant-loop-i l = DigitsPassed l.text l.at l.value l.i × (l.at ≤ l.i)
