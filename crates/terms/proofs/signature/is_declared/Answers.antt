-- `signature::is_declared` asks each index for the name and the arity: those are the problem's predicates.
use borrow.Author.Rules.{rules}
use native.Mathlib.Omega.{arith}
use mathlib.Core.Path.{refl, ◌∙◌}
use mathlib.Core.Bool.{◌&&◌}
use lib.Dec.{eqb}
use Rattle.std.proofs.Common.{ℕ, Bool, max, tests}
use Rattle.std.proofs.lemmas.Iterator.{YieldsList-from_range}
use Rattle.std.proofs.lemmas.Iterator.Search.{any_from_yields_List}
use Rattle.grammar.specs.Bytes.{same}
use Rattle.table.specs.memory.Table.{table_name, table_predicate}
use Rattle.terms.proofs.memory.Signature.{declared_in_table}
use Rattle.terms.proofs.signature.is_declared.Goals as goal

pub returns : goal.returns
returns c =
    let test : ℕ → Bool = λ i. same c.args.name.now (table_name c.args.problem.now c.args.table.now i) && eqb (table_predicate c.args.problem.now c.args.table.now i).arity c.args.arity in
    any_from_yields_List test _ _ _ c.any.ensures.ran
    (YieldsList-from_range 0 c.max.result (max c.args.table.now.inputs c.args.table.now.count) refl (omega arith)) (λ x b q k. search (rules, tests))
    ∙ declared_in_table c.args.problem.now c.args.table.now c.args.name.now c.args.arity
