-- `rule_line::kind_among` goes along the words. The invariant: none of those before stands there.
use Rattle.derivation.proofs.LinePlaces.{Passed}
use Rattle.derivation.proofs.rule_line.kind_among.Given as goal

abbrev pub invariant-loop-word : goal.invariant-loop-word
invariant-loop-word l = Passed l.text l.at l.kinds l.word-index
