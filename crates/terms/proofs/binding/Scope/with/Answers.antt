-- `Scope::with` stores the name at the next index.
use borrow.Author.Rules.{rules}
use mathlib.Core.Path.{refl}
use Rattle.terms.proofs.memory.Bindings.{binds}
use Rattle.terms.proofs.binding.Scope.with.Goals as goal

pub returns : goal.returns
returns c = binds c.args.self.now _ c.args.name refl refl (search rules)
