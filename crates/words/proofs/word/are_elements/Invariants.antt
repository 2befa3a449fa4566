-- `word::are_elements` goes through terms up to the first that is no element. The invariant: the answer is that of the terms from here.
use Prim.Native.Nat.{◌+◌, ◌-◌}
use mathlib.Core.Path.{◌≡◌}
use lib.ListN.{drop}
use Rattle.words.specs.memory.Kinds.{elements_at}
use Rattle.words.proofs.word.are_elements.Given as goal

abbrev pub invariant-loop-i : goal.invariant-loop-i
invariant-loop-i l = elements_at l.count (drop l.at l.work) ≡ elements_at (l.at + l.count - l.i) (drop l.i l.work)
