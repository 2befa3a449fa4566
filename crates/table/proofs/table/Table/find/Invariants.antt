-- `Table::find` looks at one predicate after another. The invariant: the place among all is the place among those that are left, behind those passed.
use Prim.Native.Nat.{◌+◌, ◌-◌, ◌≤◌}
use mathlib.Core.Path.{◌≡◌}
use Rattle.table.specs.memory.Table.{table_name, table_names, position, indexed}
use Rattle.table.proofs.table.Table.find.Given as goal

abbrev pub invariant-loop-i : goal.invariant-loop-i
invariant-loop-i l =
    (l.i ≤ l.self.count) × (position l.name (table_names l.text l.self) ≡ l.i + position l.name (indexed (table_name l.text l.self) l.i (l.self.count - l.i)))
