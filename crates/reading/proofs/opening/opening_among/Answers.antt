-- `opening::opening_among` answers the first sign that stands there.
use mathlib.Core.Path.{sym, ◌∙◌}
use Rattle.reading.proofs.memory.Openings.{first_among}
use Rattle.reading.proofs.opening.opening_among.Goals as goal

pub returns-then-begins_at : goal.returns-then-begins_at
returns-then-begins_at c = first_among _ _ _ _ c.loop-word.invariant _ c.loop-word-test.true (sym c.begins_at.ensures ∙ c.if-begins_at.true)
