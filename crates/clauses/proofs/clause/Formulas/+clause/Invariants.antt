-- `Formulas::is_clause` goes by the word's kind, `is_connective_clause` by the connective, and `are_clauses` through the formulas up to the first that
-- is no clause. The measure is three times the levels, one more for a list of formulas and two more for a connective.
use Prim.Native.Nat.{◌+◌, ◌-◌, ◌*◌, ◌≤◌}
use mathlib.Core.Path.{◌≡◌}
use lib.ListN.{length, drop}
use Rattle.clauses.specs.memory.Clauses.{all_at, clause_at}
use Rattle.clauses.proofs.clause.Formulas.+clause.Given as goal

abbrev pub decreases-are_clauses : goal.decreases-are_clauses
decreases-are_clauses l = 3 * l.levels + 1

abbrev pub decreases-is_clause : goal.decreases-is_clause
decreases-is_clause l = 3 * l.levels

abbrev pub decreases-is_connective_clause : goal.decreases-is_connective_clause
decreases-is_connective_clause l = 3 * l.levels + 2

abbrev pub invariant-are_clauses-loop : goal.invariant-are_clauses-loop
invariant-are_clauses-loop l = record {
  within : l.place ≤ length l.self.work.now;
  rest :
      all_at (clause_at l.self.table.now l.levels) l.count (drop l.at l.self.work.now) ≡ all_at (clause_at l.self.table.now l.levels) (l.count - l.counter) (drop l.place l.self.work.now);
}
