-- The cycle of calls that reads a formula: the levels left fall from one formula to those in it. The invariant of a connective's parts: those that
-- were read, and at most so many more from here on, are the whole.
use Prim.Native.Nat.{◌+◌, ◌-◌, ◌≤◌}
use Rattle.logic.specs.Reading.{read_formula}
use Rattle.terms.specs.memory.Entries.{setting_of, memory}
use Rattle.reading.proofs.memory.PartReads.{PartsPassed}
use Rattle.reading.proofs.read.+formula.Given as goal

abbrev pub decreases-read_connective : goal.decreases-read_connective
decreases-read_connective l = l.levels + l.levels + l.levels + 2

abbrev pub decreases-read_formula : goal.decreases-read_formula
decreases-read_formula l = l.levels + l.levels + l.levels

abbrev pub decreases-read_guarded : goal.decreases-read_guarded
decreases-read_guarded l = l.levels + l.levels + l.levels + 1

abbrev pub decreases-read_parts : goal.decreases-read_parts
decreases-read_parts l = l.levels + l.levels + l.levels + 1

-- The parts of a connective.
abbrev pub invariant-read_parts-loop-one : goal.invariant-read_parts-loop-one
invariant-read_parts-loop-one l = record {
  few : l.parts.count ≤ l.most;
  passed : PartsPassed (read_formula l.levels) (setting_of l.setting) l.most l.at (memory l.initial.names l.initial.work) l.to l.i (l.most - l.parts.count) l.parts (memory l.names l.work);
}

abbrev pub decreases-read_parts-loop-one : goal.decreases-read_parts-loop-one
decreases-read_parts-loop-one l = l.most - l.parts.count

abbrev pub decreases-read_quantifier : goal.decreases-read_quantifier
decreases-read_quantifier l = l.levels + l.levels + l.levels + 2
