-- `declaration::declaration_at` reads a name, `/` and a number that ends the line.
use native.Mathlib.Omega.{arith}
use mathlib.Core.Path.{◌≡◌, sym, ◌∙◌}
use mathlib.Core.Bool.{true}
use lib.ListN.{drop}
use Rattle.grammar.specs.Bytes.{next, is_capital}
use Rattle.text.proofs.FoundBytes.{byte_inside}
use Rattle.problem.proofs.DeclarationPlaces.{predicate_unnamed, predicate_unparted, predicate_told, predicate_misspelled}
use Rattle.problem.proofs.declaration.declaration_at.Goals as goal
use Rattle.problem.proofs.declaration.declaration_at.Goals.{After-run_end-end}

-- the name is read
module _ (named : After-run_end-end) where
  capital : is_capital (next (drop named.args.at named.args.text.now)) ≡ true
  capital = rw named.peek.ensures at (sym named.is_capital.ensures ∙ named.if-not-is_capital.false)

pub returns-then-not-is_capital : goal.returns-then-not-is_capital
returns-then-not-is_capital c =
    predicate_unnamed c.args.text.now c.args.at (rw c.peek.ensures at (sym c.is_capital.ensures ∙ c.if-not-is_capital.true))

pub returns-then-peek-ne47 : goal.returns-then-peek-ne47
returns-then-peek-ne47 c =
    predicate_unparted c.args.text.now c.args.at (capital (goal.at.returns-then-peek-ne47 c).After-run_end-end) c.run_end-end.result c.run_end-end.ensures.0 c.run_end-end.ensures.1 (λ e. c.if-peek-ne47.true (c.peek-2.ensures ∙ e))

pub last_number-requires : goal.last_number-requires
last_number-requires c =
    let h = byte_inside c.args.text.now c.run_end-end.result 47 (omega arith) (sym c.peek-2.ensures ∙ c.if-peek-ne47.false) in
    omega arith

pub returns-in_err-arity : goal.returns-in_err-arity
returns-in_err-arity c =
    rw c.from_residual.ensures
    (predicate_misspelled c.args.text.now c.args.at (capital (goal.at.returns-in_err-arity c).After-run_end-end) c.run_end-end.result c.run_end-end.ensures.0 c.run_end-end.ensures.1
    (sym c.peek-2.ensures ∙ c.if-peek-ne47.false) c.in_err-arity.ensures)

pub returns : goal.returns
returns c =
    predicate_told c.args.text.now c.args.at (capital (goal.at.returns c).After-run_end-end) c.run_end-end.result c.run_end-end.ensures.0 c.run_end-end.ensures.1
    (sym c.peek-2.ensures ∙ c.if-peek-ne47.false) c.in_ok-arity.field-0 c.in_ok-arity.ensures
