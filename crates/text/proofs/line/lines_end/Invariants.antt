-- `line::lines_end` passes the first lines. The invariant: what was passed and the lines still to be passed from here are all of them.
use Prim.Native.Nat.{◌+◌, ◌≤◌}
use mathlib.Core.Path.{◌≡◌}
use lib.ListN.{length, drop}
use Rattle.grammar.specs.Lines.{lines_size}
use Rattle.text.proofs.line.lines_end.Given as goal

abbrev pub invariant-loop-i : goal.invariant-loop-i
invariant-loop-i l = (l.i ≤ length l.text) × (lines_size l.text l.lines ≡ l.i + lines_size (drop l.i l.text) l.left)
