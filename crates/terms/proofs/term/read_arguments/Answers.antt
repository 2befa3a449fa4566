-- `term::read_arguments` sees whether a bracket follows the predicate.
use mathlib.Core.Path.{sym, ◌∙◌}
use Rattle.terms.specs.memory.Entries.{setting_of, memory}
use Rattle.terms.proofs.memory.TermReads.{arguments_none, arguments_some}
use Rattle.terms.proofs.term.read_arguments.Goals as goal

pub returns-then-peek-ne40 : goal.returns-then-peek-ne40
returns-then-peek-ne40 c =
    arguments_none _ _ _ _ c.requires.0 (λ e. c.if-peek-ne40.true (c.peek.ensures ∙ e))

pub returns : goal.returns
returns c =
    arguments_some (setting_of c.args.setting.now) _ (memory c.args.names.now c.args.work.now) c.args.to (sym c.peek.ensures ∙ c.if-peek-ne40.false) c.closed_terms.result _ c.closed_terms.ensures
