-- `Memory::remove`: the target, if it is `true`, stands in the theory.
use native.Mathlib.Omega.{arith}
use mathlib.Core.Path.{refl}
use mathlib.Core.Bool.{true}
use lib.ListN.{length-take}
use Rattle.steps.specs.memory.Held.{is_value}
use Rattle.steps.specs.memory.Memory.{held_of, position_of}
use Rattle.steps.proofs.Decisions.{word-here, value-told}
use Rattle.steps.proofs.memory.Memory.remove.Goals as goal

pub open-requires : goal.open-requires
open-requires c =
    let m = c.args.self.now in
    let told = value-told true (held_of m) (position_of c.args.at.now) _ c.in_ok-target.ensures.found in
    let here = word-here (is_value true) refl (held_of m).words _ told in
    let l = length-take m.live.full m.work.now in
    omega (arith, here, c.in_ok-target.ensures.within)
