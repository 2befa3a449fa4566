-- `signature::is_input` asks each input's index for the name: those are the problem's inputs.
use borrow.Author.Rules.{rules}
use native.Mathlib.Omega.{arith}
use mathlib.Core.Path.{refl, ◌∙◌}
use Rattle.std.proofs.Common.{ℕ, Bool, tests}
use Rattle.std.proofs.lemmas.Iterator.{YieldsList-from_range}
use Rattle.std.proofs.lemmas.Iterator.Search.{any_from_yields_List}
use Rattle.grammar.specs.Bytes.{same}
use Rattle.table.specs.memory.Table.{table_name}
use Rattle.terms.proofs.memory.Signature.{input_in_table}
use Rattle.terms.proofs.signature.is_input.Goals as goal

pub returns : goal.returns
returns c =
    let test : ℕ → Bool = λ i. same c.args.name.now (table_name c.args.problem.now c.args.table.now i) in
    any_from_yields_List test _ _ _ c.any.ensures.ran (YieldsList-from_range 0 c.args.table.now.inputs c.args.table.now.inputs refl (omega arith)) (λ x b q k. search (rules, tests))
    ∙ input_in_table c.args.problem.now c.args.table.now c.args.name.now
