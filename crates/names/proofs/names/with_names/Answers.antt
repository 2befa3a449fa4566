-- `names::with_names`: the list made behind is copied to the front.
use borrow.Author.Rules.{rules}
use native.Mathlib.Omega.{arith}
use Prim.Native.Nat.{◌+◌, ◌≤◌}
use mathlib.Core.Path.{◌≡◌}
use lib.ListN.{length}
use Rattle.text.specs.memory.Numbers.{numbers_at}
use Rattle.text.proofs.NumberPlaces.{length-numbers_at}
use Rattle.words.proofs.memory.Storing.{fronted, length-spliced}
use Rattle.names.proofs.names.with_names.Goals as goal
use Rattle.names.proofs.names.with_names.Goals.{After-names_behind-total}

-- the list made behind is no longer than the place for it
short : (c : After-names_behind-total) → c.names_behind-total.result ≤ c.args.spare
short c =
    let l = length-spliced c.args.list.now c.args.index (c.args.index + 1) c.args.count (numbers_at c.args.text.now c.args.names.at c.args.names.many) (omega (arith, c.requires.0)) (omega (arith, c.requires.0)) in
    omega (arith, c.requires.0, c.requires.1, c.names_behind-total.ensures.sized, l, length-numbers_at c.args.text.now c.args.names.at c.args.names.many)

pub overflow_add-spare : goal.overflow_add-spare
overflow_add-spare c =
    omega (arith, c.requires.0, short (goal.at.overflow_add-spare c).After-names_behind-total)

pub copy-requires : goal.copy-requires
copy-requires c =
    let same : length c.names_behind-total.new.list ≡ length c.args.list.now = search rules in
    let little = short (goal.at.copy-requires c).After-names_behind-total in
    record { ordered = omega arith; within = omega (arith, c.requires.0); near = omega (arith, c.requires.0) }

pub returns : goal.returns
returns c =
    (fronted _ _ _ _ _ _ c.names_behind-total.ensures.holds c.names_behind-total.ensures.sized (short (goal.at.returns c).After-names_behind-total) c.requires.0.room c.copy.ensures.holds, short (goal.at.returns c).After-names_behind-total)
