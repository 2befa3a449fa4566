-- `Clauses::print_clause` prints what stands before the parts, the parts, and what stands behind them; `print_parts` the first part, and then each other
-- behind a comma. The measure is twice the levels, and one more for parts. The loop's invariant: the parts from here on remain.
use Prim.Native.Nat.{◌+◌, ◌-◌, ◌≤◌}
use lib.ListN.{length, drop}
use Rattle.grammar.specs.Bytes.{followed}
use Rattle.printing.specs.memory.ClauseText.{part_texts, clause_text}
use Rattle.printing.proofs.memory.Cursor.{Remains}
use Rattle.printing.proofs.print.Clauses.+clause.Given as goal

abbrev pub decreases-print_clause : goal.decreases-print_clause
decreases-print_clause l = l.levels + l.levels

abbrev pub decreases-print_parts : goal.decreases-print_parts
decreases-print_parts l = l.levels + l.levels + 1

abbrev pub invariant-print_parts-loop : goal.invariant-print_parts-loop
invariant-print_parts-loop l = record {
  within : l.place ≤ length l.self.work.now;
  rest :
      Remains l.initial.printer (followed 44 (part_texts (clause_text l.self.problem.now l.self.table.now l.levels) (l.count - 1) (drop l.initial.place l.self.work.now)))
      l.printer (followed 44 (part_texts (clause_text l.self.problem.now l.self.table.now l.levels) (l.count - l.counter) (drop l.place l.self.work.now)));
}
