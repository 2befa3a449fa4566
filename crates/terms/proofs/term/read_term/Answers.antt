-- `term::read_term` sees whether a digit stands there.
use mathlib.Core.Path.{sym, ap, ◌∙◌}
use Rattle.grammar.specs.Bytes.{is_digit}
use Rattle.logic.specs.Reading.{read_term}
use Rattle.terms.specs.memory.Entries.{setting_of, memory}
use Rattle.terms.specs.memory.TermReads.{read_element, read_variable_term}
use Rattle.terms.proofs.memory.TermReads.{told-term, term_digit, term_other}
use Rattle.terms.proofs.term.read_term.Goals as goal

pub returns-then-is_digit : goal.returns-then-is_digit
returns-then-is_digit c =
    let s = setting_of c.args.setting.now in
    told-term s c.args.at read_element read_term (memory c.args.names.now c.args.work.now) c.args.to c.read_element.result _
    (term_digit s c.args.at (ap is_digit (sym c.peek.ensures) ∙ sym c.if-is_digit.ensures)) c.read_element.ensures

pub returns : goal.returns
returns c =
    let s = setting_of c.args.setting.now in
    told-term s c.args.at read_variable_term read_term (memory c.args.names.now c.args.work.now) c.args.to c.read_variable.result _
    (term_other s c.args.at (ap is_digit (sym c.peek.ensures) ∙ sym c.if-is_digit.ensures)) c.read_variable.ensures
