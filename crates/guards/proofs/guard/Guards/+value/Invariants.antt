-- The methods of `Guards` that call each other: `evaluate` goes by the kind of the word at a place, the others take parts or elements in turn, with a
-- level fewer. A loop's invariant says that the whole value is that of the parts, or the elements, from here.
use Prim.Native.Nat.{◌+◌, ◌-◌, ◌*◌, ◌≤◌}
use mathlib.Core.Path.{◌≡◌}
use lib.ListN.{length, drop}
use Rattle.guards.specs.memory.Values.{each_at}
use Rattle.guards.proofs.memory.Values.{parts_from}
use Rattle.guards.proofs.guard.Guards.+value.Given as goal

abbrev pub decreases-connective_holds : goal.decreases-connective_holds
decreases-connective_holds l = 4 * l.levels + 3

abbrev pub decreases-each_holds : goal.decreases-each_holds
decreases-each_holds l = 4 * l.levels + 2

abbrev pub decreases-element_holds : goal.decreases-element_holds
decreases-element_holds l = 4 * l.levels + 1

abbrev pub decreases-evaluate : goal.decreases-evaluate
decreases-evaluate l = 4 * l.levels

abbrev pub decreases-pair_holds : goal.decreases-pair_holds
decreases-pair_holds l = 4 * l.levels + 2

abbrev pub decreases-part_holds : goal.decreases-part_holds
decreases-part_holds l = 4 * l.levels + 1

abbrev pub decreases-parts_hold : goal.decreases-parts_hold
decreases-parts_hold l = 4 * l.levels + 1

abbrev pub invariant-each_holds-loop-v : goal.invariant-each_holds-loop-v
invariant-each_holds-loop-v l =
    each_at l.self.structure.now.table.now l.self.structure.now.rows.now l.levels l.values l.every l.variable (drop l.at l.self.work.now) 1 l.self.structure.now.table.now.domain
    ≡ each_at l.self.structure.now.table.now l.self.structure.now.rows.now l.levels l.values l.every l.variable (drop l.at l.self.work.now) l.v (l.self.structure.now.table.now.domain + 1 - l.v)

abbrev pub invariant-parts_hold-loop : goal.invariant-parts_hold-loop
invariant-parts_hold-loop l = record {
  within : l.place ≤ length l.self.work.now;
  rest :
      parts_from l.self.structure.now.table.now l.self.structure.now.rows.now l.levels l.values l.self.work.now l.every l.at l.parts
      ≡ parts_from l.self.structure.now.table.now l.self.structure.now.rows.now l.levels l.values l.self.work.now l.every l.place (l.parts - l.counter);
}
