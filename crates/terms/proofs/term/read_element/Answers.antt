-- `term::read_element` stores the word of a number, if it is small enough to be told.
use mathlib.Core.Path.{sym, ap, ◌∙◌}
use Rattle.grammar.specs.Problem.{is_element}
use Rattle.terms.specs.memory.Entries.{setting_of}
use Rattle.terms.proofs.memory.Signature.{domain_table}
use Rattle.terms.proofs.memory.TermReads.{element-found, element-large, element-refused}
use Rattle.terms.proofs.term.read_element.Goals as goal

pub returns-in_err-value : goal.returns-in_err-value
returns-in_err-value c =
    rw c.from_residual.ensures (element-refused (setting_of c.args.setting.now) c.args.at c.in_err-value.ensures)

pub returns-in-Some : goal.returns-in-Some
returns-in-Some c =
    rw (c.set.ensures, c.word.ensures)
    (element-found _ _ _ _ _ c.in-Some.value _ _ (rw c.in-Some.is at c.in_ok-value.ensures)
    (c.is_element-named.ensures ∙ ap (λ n. is_element n c.in-Some.value) (sym (domain_table c.args.setting.now.problem.now c.args.setting.now.table.now))))

pub returns-in-None : goal.returns-in-None
returns-in-None c =
    element-large _ _ _ _ _ _ (rw domain_table c.args.setting.now.elements) (rw c.in-None.is at c.in_ok-value.ensures)
