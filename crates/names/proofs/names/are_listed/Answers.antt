-- `names::are_listed` compares how many there are, and then the numbers of a text with those of a list, one by one.
use native.Mathlib.Omega.{arith}
use borrow.Author.Tests.{ne_eqb}
use mathlib.Core.Path.{◌≡◌, sym, ◌∙◌}
use lib.ListN.{length}
use Rattle.std.proofs.lemmas.Iterator.{YieldsList-from_slice}
use Rattle.std.proofs.lemmas.Iterator.Consumers.{YieldsList-from_first, YieldsList-from_copied}
use Rattle.text.specs.memory.Numbers.{numbers_at}
use Rattle.text.specs.memory.Listed.{numbers_left}
use Rattle.text.proofs.NumberPlaces.{length-numbers_at}
use Rattle.names.proofs.Compared.{same_from_eq, same_length}
use Rattle.names.proofs.names.are_listed.Goals as goal

pub returns-then-names-list : goal.returns-then-names-list
returns-then-names-list c =
    same_from_eq (λ x y. y ≡ x) c.copied.result c.eq.result c.eq.ensures.ran (YieldsList-from_first (λ n. n) numbers_left _ c.of.ensures) (λ it e. rw e (YieldsList-from_copied (YieldsList-from_slice c.args.list.now cc)))

pub returns-else-names-list : goal.returns-else-names-list
returns-else-names-list c =
    let many = length-numbers_at c.args.text.now c.args.names.at c.args.names.many in
    ne_eqb c.args.names.many (length c.args.list.now) c.if-names-list.false
    ∙ sym (same_length (numbers_at c.args.text.now c.args.names.at c.args.names.many) c.args.list.now (λ e. c.if-names-list.false (omega arith)))
