-- `byte::run_end` adds the size of the run at the front of the rest.
use Prim.Native.Nat.{◌+◌}
use mathlib.Core.Path.{ap, ◌∙◌}
use lib.ListN.{length, drop}
use Rattle.std.specs.List.{take_while}
use Rattle.text.specs.memory.Classes.{in_class}
use Rattle.text.proofs.Places.{span-front, rest_all, front-within}
use Rattle.text.proofs.byte.run_end.Goals as goal

pub returns : goal.returns
returns c =
    let text = c.args.text.now in
    let at = c.args.at in
    let class = in_class c.args.class in (
      ap (◌+◌ at) (c.run_size.ensures ∙ ap (λ s. length (take_while class s)) (rest_all text at) ∙ span-front class (drop at text)),
      rw c.run_size.ensures (front-within text at class c.requires),
    )
