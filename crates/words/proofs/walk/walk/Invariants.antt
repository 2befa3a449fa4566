-- `walk::walk` goes along a path. The invariant: from here, along the numbers that are left, the same place is reached.
use Prim.Native.Nat.{◌≤◌}
use mathlib.Core.Path.{◌≡◌}
use lib.ListN.{length}
use Rattle.text.specs.memory.Numbers.{numbers_at}
use Rattle.text.specs.memory.Listed.{numbers_left}
use Rattle.words.specs.memory.Paths.{place_of}
use Rattle.words.proofs.walk.walk.Given as goal

abbrev pub invariant-loop-part : goal.invariant-loop-part
invariant-loop-part l =
    (l.place ≤ length l.work) × (place_of l.work (numbers_at l.text l.fn.path.at l.fn.path.many) l.at ≡ place_of l.work (numbers_left l.part-iterator) l.place)
