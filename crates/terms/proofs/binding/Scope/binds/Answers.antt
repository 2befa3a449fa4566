-- `Scope::binds` looks at one name after another, from the last on.
use borrow.Author.Rules.{rules}
use mathlib.Core.Path.{◌∙◌}
use Rattle.std.proofs.Common.{tests}
use Rattle.std.proofs.lemmas.Iterator.Search.{any_from_yields_List}
use Rattle.grammar.specs.Bytes.{same}
use Rattle.terms.specs.memory.Bindings.{scope_name, bound_in}
use Rattle.terms.proofs.memory.Bindings.{yields_last_first, found_below}
use Rattle.terms.proofs.binding.Scope.binds.Goals as goal

pub returns : goal.returns
unfolding bound_in
returns c =
    any_from_yields_List (λ i. same c.args.name.now (scope_name c.args.text.now c.args.self.now i)) _ _ _ c.any.ensures.ran
    (yields_last_first c.args.self.now.count cc) (λ x b q k. search (rules, tests))
    ∙ found_below c.args.name.now (scope_name c.args.text.now c.args.self.now) c.args.self.now.count
