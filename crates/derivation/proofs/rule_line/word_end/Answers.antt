-- `rule_line::word_end` tells where a word ends that stands at a place.
use mathlib.Core.Path.{sym, ◌∙◌}
use Rattle.text.proofs.Told.{word_told}
use Rattle.derivation.proofs.rule_line.word_end.Goals as goal

pub returns-then-begins_at-clause-read : goal.returns-then-begins_at-clause-read
returns-then-begins_at-clause-read c =
    word_told 10 c.args.word.now c.args.text.now c.args.at c.requires (sym c.begins_at.ensures ∙ c.if-begins_at.true)
