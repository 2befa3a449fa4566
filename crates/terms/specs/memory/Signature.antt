-- The problem's predicates and domain, as a table has them.
use Rattle.std.specs.Prelude.{[]}
use Rattle.grammar.specs.Bytes.{Bytes}
use Rattle.grammar.specs.Problem.{Problem}
use Rattle.table.specs.memory.Table.{problem_in}
use Rattle.table.specs.declared.table.Table.{Table}

-- the table's problem, its rows aside: reading a theory asks for none
unfoldable pub signature_of : Bytes → Table → Problem
signature_of problem table = problem_in problem table []
