-- `texts::from_heading` goes from line to line, each of which takes a byte: what is left is what stands from some place on.
use Rattle.std.proofs.Common.{◌≡◌, ℕ, ◌≤◌, length, drop}
use Rattle.casefile.proofs.texts.from_heading.Given as goal

abbrev pub invariant-loop-rest : goal.invariant-loop-rest
invariant-loop-rest l = (n : ℕ) × (n ≤ length l.fn.lines) × (l.rest ≡ drop n l.fn.lines)

abbrev pub decreases-loop-rest : goal.decreases-loop-rest
decreases-loop-rest l = length l.rest
