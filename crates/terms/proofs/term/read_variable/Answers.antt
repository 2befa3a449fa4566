-- `term::read_variable` lists a variable and stores the word of its index.
use Rattle.terms.specs.memory.Entries.{setting_of}
use Rattle.terms.proofs.memory.TermReads.{variable-entered, variable-refused}
use Rattle.terms.proofs.term.read_variable.Goals as goal

pub returns-in_err-name : goal.returns-in_err-name
returns-in_err-name c =
    rw c.from_residual.ensures (variable-refused (setting_of c.args.setting.now) c.args.at c.in_err-name.ensures)

pub returns : goal.returns
returns c =
    rw (c.set.ensures, c.word.ensures)
    (variable-entered _ _ _ _ _ _ _ _ _ _ c.in_ok-name.ensures c.list-index.ensures (rw c.of.ensures at c.binds.ensures))
