-- `rule_line::grounder_end` reads the heading's second line: a word, a name, and the end of the line.
use Rattle.grammar.specs.Bytes.{bytes}
use Rattle.grammar.specs.Reading.{word}
use Rattle.grammar.specs.Derivation.{read_grounder}
use Rattle.text.proofs.Told.{last_behind, last-given}
use Rattle.derivation.proofs.rule_line.grounder_end.Goals as goal

pub returns-clause-read : goal.returns-clause-read
unfolding read_grounder
returns-clause-read c =
    let text = c.args.text.now in
    let start = c.in_ok-start.ensures.read in
    let end = c.in_ok-end.ensures in
    last_behind 10 text _ c.args.at _ start.found _
    (last_behind 10 text _ _ _ end.found _ (last-given 10 text (word 10 (bytes "\n")) end.thing _ _ c.word_end-2.ensures.read))
