-- `opening::opening_among` goes along the signs. The invariant: none of those before stands there.
use mathlib.Core.Path.{◌≡◌}
use lib.ListN.{drop}
use Rattle.reading.specs.memory.Openings.{opening_among}
use Rattle.reading.proofs.opening.opening_among.Given as goal

abbrev pub invariant-loop-word : goal.invariant-loop-word
invariant-loop-word l = opening_among l.at (drop l.at l.text) l.openings ≡ opening_among l.at (drop l.at l.text) (drop l.word-index l.openings)
