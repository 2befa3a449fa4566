-- `line::lines_end` passes the first lines: where none is left to be passed, they end here.
use Prim.Native.Nat.{◌+◌}
use native.Mathlib.Omega.{arith}
use mathlib.Core.Path.{◌≡◌}
use lib.ListN.{drop}
use Rattle.grammar.specs.Lines.{lines_size}
use Rattle.text.proofs.Places.{lines_size-none}
use Rattle.text.proofs.line.lines_end.Goals as goal

pub returns-then-left-eq0 : goal.returns-then-left-eq0
returns-then-left-eq0 c =
    let here : lines_size c.args.text.now c.args.lines ≡ c.loop-i.i + lines_size (drop c.loop-i.i c.args.text.now) 0 = rw (← c.if-left-eq0.true) c.loop-i.invariant.1 in
    (omega (arith, here, lines_size-none (drop c.loop-i.i c.args.text.now)), c.loop-i.invariant.0)
