-- `Clauses::print_lines` prints one clause after the other, with an LF behind each. The invariant: the lines from here on remain.
use Prim.Native.Nat.{◌-◌, ◌≤◌}
use lib.ListN.{length, drop}
use Rattle.printing.specs.memory.ClauseText.{clause_lines}
use Rattle.printing.proofs.memory.Cursor.{Remains}
use Rattle.printing.proofs.print.Clauses.print_lines.Given as goal

abbrev pub invariant-loop : goal.invariant-loop
invariant-loop l = record {
  within : l.place ≤ length l.self.work.now;
  rest :
      Remains l.initial.printer (clause_lines l.self.problem.now l.self.table.now l.levels l.count (drop l.at l.self.work.now))
      l.printer (clause_lines l.self.problem.now l.self.table.now l.levels (l.count - l.counter) (drop l.place l.self.work.now));
}
