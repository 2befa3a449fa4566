-- `declaration::domain_at` reads `domain=` and a number behind it.
use native.Mathlib.Omega.{arith}
use mathlib.Core.Path.{sym, ◌∙◌}
use Rattle.grammar.specs.Bytes.{bytes}
use Rattle.text.proofs.Found.{word-found}
use Rattle.problem.proofs.DeclarationPlaces.{domain_misspelled, domain_behind}
use Rattle.problem.proofs.declaration.domain_at.Goals as goal

pub returns-then-not-begins_at : goal.returns-then-not-begins_at
returns-then-not-begins_at c =
    domain_misspelled c.args.text.now c.args.at (sym c.begins_at.ensures ∙ c.if-not-begins_at.true)

pub last_number-requires : goal.last_number-requires
last_number-requires c =
    let w = word-found c.args.text.now c.args.at (bytes "domain=") c.requires (sym c.begins_at.ensures ∙ c.if-not-begins_at.false) in
    omega (arith, w.within)

pub returns : goal.returns
returns c =
    let w = word-found c.args.text.now c.args.at (bytes "domain=") c.requires (sym c.begins_at.ensures ∙ c.if-not-begins_at.false) in
    domain_behind c.args.text.now c.args.at w c.last_number.result c.last_number.ensures
