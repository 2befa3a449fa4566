-- `names::index_of` finds a name: where it stands in the list is where the first number equal to it stands.
use borrow.Author.Rules.{rules}
use lib.Dec.{eqb}
use Rattle.std.proofs.Common.{tests}
use Rattle.std.proofs.lemmas.Iterator.{YieldsList-from_slice}
use Rattle.std.proofs.lemmas.Iterator.Search.{position_from_yields_List}
use Rattle.names.proofs.NameLists.{index_told}
use Rattle.names.proofs.names.index_of.Goals as goal

pub returns : goal.returns
returns c =
    index_told c.args.name c.args.list.now c.position.result
    (position_from_yields_List (λ n. eqb n c.args.name) _ _ _ c.position.ensures.ran (YieldsList-from_slice c.args.list.now cc) (λ x b q k. search (rules, tests)))
