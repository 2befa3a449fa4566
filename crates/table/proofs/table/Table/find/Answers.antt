-- `Table::find` looks at one predicate after another. The invariant: the place among all is the place among those that are left, behind those passed.
use native.Mathlib.Omega.{arith}
use Prim.Native.Nat.{ℕ, ◌+◌, ◌-◌}
use mathlib.Core.Path.{◌≡◌, sym, ap, ◌∙◌}
use Rattle.table.specs.memory.Table.{table_name, position, indexed}
use Rattle.table.proofs.Tables.{position-none, position_here, position-next, found_here, found-none}
use Rattle.table.proofs.table.Table.find.Goals as goal

pub loop-i-init : goal.loop-i-init
loop-i-init c =
    let e : c.args.self.now.count ≡ c.args.self.now.count - 0 = omega arith in
    (omega arith, ap (λ (m : ℕ). position c.args.name.now (indexed (table_name c.args.text.now c.args.self.now) 0 m)) e ∙ omega arith)

pub returns-then-is_named : goal.returns-then-is_named
returns-then-is_named c =
    let here = position_here c.args.name.now (table_name c.args.text.now c.args.self.now) c.loop-i.i (c.args.self.now.count - c.loop-i.i) (omega (arith, c.loop-i-test.true)) (sym c.is_named.ensures ∙ c.if-is_named.true) in
    found_here c.args.text.now c.args.self.now c.args.name.now c.loop-i.i (omega (arith, c.loop-i.invariant.1, here)) c.loop-i-test.true

pub loop-i-preserved : goal.loop-i-preserved
loop-i-preserved c =
    let e : c.args.self.now.count - c.loop-i.i - 1 ≡ c.args.self.now.count - (c.loop-i.i + 1) = omega arith in
    let next = position-next c.args.name.now (table_name c.args.text.now c.args.self.now) c.loop-i.i (c.args.self.now.count - c.loop-i.i) (omega (arith, c.loop-i-test.true)) (sym c.is_named.ensures ∙ c.if-is_named.false) in
    (omega (arith, c.loop-i-test.true), c.loop-i.invariant.1 ∙ rw next (rw e (omega arith)))

pub returns : goal.returns
returns c =
    let end = position-none c.args.name.now (table_name c.args.text.now c.args.self.now) c.loop-i.i (c.args.self.now.count - c.loop-i.i) (omega (arith, c.loop-i-test.false)) in
    found-none c.args.text.now c.args.self.now c.args.name.now (omega (arith, c.loop-i.invariant, end, c.loop-i-test.false))
