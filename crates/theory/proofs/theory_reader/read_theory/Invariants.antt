-- `theory_reader::read_theory` reads line after line. The invariant: what the text is, is what its rest makes of the formulas read so far, which are in memory.
use Prim.Native.Nat.{ℕ, ◌-◌, ◌≤◌}
use mathlib.Core.Path.{◌≡◌}
use mathlib.Core.List.{List}
use lib.ListN.{length}
use Rattle.table.specs.memory.Table.{problem_in}
use Rattle.terms.specs.memory.Entries.{predicate_index, memory}
use Rattle.theory.proofs.TheoryReads.{TheoryGoing}
use Rattle.theory.proofs.theory_reader.read_theory.Given as goal

abbrev pub invariant-loop-at : goal.invariant-loop-at
invariant-loop-at l = record {
  within : l.at ≤ length l.text;
  small : l.theory.full ≤ 4096;
  few : l.theory.count ≤ 1024;
  long : length l.work ≡ length l.initial.work;
  going : (rows : List ℕ)
      → TheoryGoing (problem_in l.problem l.table rows) l.text (predicate_index l.problem l.table) (memory l.initial.names l.initial.work) l.at l.theory.count l.theory.full (memory l.names l.work);
}

abbrev pub decreases-loop-at : goal.decreases-loop-at
decreases-loop-at l = length l.text - l.at
