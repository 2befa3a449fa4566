-- `Guards::row_of` puts the values of up to three terms together.
use native.Mathlib.Omega.{arith}
use Prim.Native.Nat.{◌%◌}
use mathlib.Core.Path.{◌≡◌}
use Rattle.guards.proofs.memory.Values.{row_none, row_one, row_two, row_three}
use Rattle.guards.proofs.guard.Guards.row_of.Goals as goal

pub returns-in-0 : goal.returns-in-0
returns-in-0 c = rw c.in-0.is (row_none c.args.self.now.work.now c.args.at c.args.values)

pub returns-in-1 : goal.returns-in-1
returns-in-1 c = rw (c.value_of-first.ensures.value, c.peek.ensures, c.in-1.is) (row_one c.args.self.now.work.now c.args.at c.args.values)

pub returns-in-2 : goal.returns-in-2
returns-in-2 c =
    rw (c.value_of-first.ensures.value, c.peek.ensures, c.value_of-second.ensures.value, c.peek-2.ensures, c.in-2.is)
    (row_two c.args.self.now.work.now c.args.at c.args.values)

pub returns-in_default : goal.returns-in_default
returns-in_default c =
    let three : c.args.terms % 4 ≡ 3 = omega arith in
    rw (c.value_of-first.ensures.value, c.peek.ensures, c.value_of-second.ensures.value, c.peek-2.ensures, c.value_of-third.ensures.value, c.peek-3.ensures, three)
    (row_three c.args.self.now.work.now c.args.at c.args.values)
