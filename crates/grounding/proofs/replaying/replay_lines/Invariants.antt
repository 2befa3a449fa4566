-- `replaying::replay_lines`: the whole derivation comes to what the rest of it comes to from the live formulas so far.
use Prim.Native.Nat.{◌-◌, ◌≤◌}
use mathlib.Core.Path.{◌≡◌}
use lib.ListN.{length}
use Rattle.steps.specs.memory.Memory.{Kept}
use Rattle.grounding.specs.memory.Lines.{Replaying}
use Rattle.grounding.proofs.replaying.replay_lines.Given as goal

abbrev pub invariant-loop-read : goal.invariant-loop-read
invariant-loop-read l =
    (l.reader.text ≡ l.initial.reader.text) × (l.reader.at ≤ length l.reader.text.now) × Kept l.initial.memory l.memory × Replaying l.table l.initial.memory l.initial.reader.text.now l.reader.at l.reader.line l.memory

abbrev pub decreases-loop-read : goal.decreases-loop-read
decreases-loop-read l = length l.reader.text.now - l.reader.at
