-- `front::front_without`: the theory without one word is made behind it, which is shorter, and copied to the front.
use native.Mathlib.Omega.{arith}
use Prim.Native.Nat.{◌+◌, ◌<◌}
use mathlib.Core.List.{[]}
use Rattle.words.proofs.memory.Storing.{fronted, length-spliced}
use Rattle.steps.proofs.front.front_without.Goals as goal

pub returns : goal.returns
returns c =
    let l = length-spliced c.args.words.now c.args.at (c.args.at + 1) c.args.full [] (omega (arith, c.requires)) (omega (arith, c.requires)) in
    let shorter : c.without_word-total.result < c.args.full = omega (arith, c.requires, c.without_word-total.ensures.sized, l) in
    (fronted _ _ _ _ _ _ c.without_word-total.ensures.holds c.without_word-total.ensures.sized (omega (arith, c.requires, shorter)) c.requires.room c.copy.ensures.holds, shorter)
