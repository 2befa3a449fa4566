-- `number::well_spelled` tells whether a run of digits is a number, by how many there are.
use mathlib.Core.Path.{ap, ◌∙◌}
use mathlib.Core.Bool.{not}
use Prim.Native.Nat.{ℕ, ◌-◌}
use borrow.Author.Tests.{eq-eqb, le-ltb}
use lib.Dec.{eqb}
use Rattle.text.proofs.NumberPlaces.{spelled_none, spelled_one, spelled-more}
use Rattle.text.proofs.number.well_spelled.Goals as goal

pub returns-then-next-at-eq1 : goal.returns-then-next-at-eq1
returns-then-next-at-eq1 c =
    eq-eqb (c.args.next - c.args.at) 1 c.if-next-at-eq1.true ∙ spelled_one c.args.text.now c.args.at c.args.next c.requires c.if-next-at-eq1.true

pub returns-else-next-at-eq1 : goal.returns-else-next-at-eq1
returns-else-next-at-eq1 c =
    ap (λ (b : ℕ). not (eqb b 48)) c.peek.ensures
    ∙ spelled-more c.args.text.now c.args.at c.args.next c.requires c.if-at-next.true c.if-next-at-eq1.false

pub returns-else-at-next : goal.returns-else-at-next
returns-else-at-next c =
    le-ltb c.args.at c.args.next c.if-at-next.false ∙ spelled_none c.args.text.now c.args.at c.args.next c.requires c.if-at-next.false
