-- `rule_line::numbers_at` reads numbers one by one: refused, ended or gone on from what was read so far.
use Rattle.std.proofs.Common.{rules}
use mathlib.Core.Path.{sym, ◌∙◌}
use native.Mathlib.Omega.{arith}
use Rattle.text.proofs.Places.{next-inside}
use Rattle.derivation.proofs.LinePlaces.{numbers_first, numbers_refused, numbers_last, numbers_on}
use Rattle.derivation.proofs.rule_line.numbers_at.Goals as goal

pub loop-number-init : goal.loop-number-init
loop-number-init c = numbers_first c.args.least c.args.greatest c.args.text.now c.args.at c.requires.0

pub returns-in_err-number-clause-read : goal.returns-in_err-number-clause-read
returns-in_err-number-clause-read c =
    let f = numbers_refused _ _ _ _ _ _ c.loop-number.invariant c.in_err-number.ensures.read in search rules

pub returns-then-peek-ne44-clause-read : goal.returns-then-peek-ne44-clause-read
returns-then-peek-ne44-clause-read c =
    let told = c.in_ok-number.ensures in
    numbers_last _ _ _ _ _ _ c.loop-number.invariant _ _ told.read told.stands.0 told.stands.1 told.stands.2 (λ e. c.if-peek-ne44.true (c.peek.ensures ∙ e))

pub loop-number-preserved : goal.loop-number-preserved
loop-number-preserved c =
    let told = c.in_ok-number.ensures in
    let comma = sym c.peek.ensures ∙ c.if-peek-ne44.false in
    numbers_on _ _ _ _ _ _ c.loop-number.invariant _ _ told.read told.stands.0 told.stands.1 told.stands.2 comma (next-inside c.args.text.now _ (omega (arith, comma)))
