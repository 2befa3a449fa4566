-- `Clauses::print_atom` prints a predicate's name, and its terms in brackets if there are any.
use lib.ListN.{drop}
use Rattle.printing.proofs.memory.Cursor.{writes_as, writes_then}
use Rattle.printing.proofs.memory.ClauseText.{atom_plain, atom-listed}
use Rattle.printing.proofs.print.Clauses.print_atom.Goals as goal

pub returns-then-count-eq0 : goal.returns-then-count-eq0
returns-then-count-eq0 c = writes_as (rw c.name.ensures (atom_plain c.args.self.now.problem.now c.args.self.now.table.now c.args.predicate c.args.count (drop c.args.at c.args.self.now.work.now) c.if-count-eq0.true)) c.bytes.ensures

pub returns : goal.returns
returns c =
    writes_as (rw c.name.ensures (atom-listed c.args.self.now.problem.now c.args.self.now.table.now c.args.predicate c.args.count (drop c.args.at c.args.self.now.work.now) c.if-count-eq0.false))
    (writes_then c.bytes.ensures (writes_then c.byte.ensures (writes_then c.print_elements.ensures c.byte-2.ensures)))
