-- `Clauses::print_opening` prints a truth value or an atom, or what stands before a connective's parts; nothing for any other kind.
use Rattle.printing.proofs.memory.Cursor.{writes_nothing}
use Rattle.printing.proofs.memory.ClauseText.{opening_none}
use Rattle.printing.proofs.print.Clauses.print_opening.Goals as goal

pub returns-in_default : goal.returns-in_default
returns-in_default c = writes_nothing (opening_none c.args.self.now.problem.now c.args.self.now.table.now _ _ c.in_default.not-Truth c.in_default.not-Atom c.in_default.not-Connective)
