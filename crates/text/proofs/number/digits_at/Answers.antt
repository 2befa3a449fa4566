-- `number::digits_at` passes digits one by one. The invariant: what is read from here on behind the value so far is the number.
use native.Mathlib.Omega.{arith}
use mathlib.Core.Path.{◌≡◌, sym, ◌∙◌}
use Rattle.grammar.specs.Bytes.{is_digit}
use Rattle.text.proofs.Places.{span-stop, span-beyond}
use Rattle.text.proofs.NumberPlaces.{digits-first, digits_on, digits-stop}
use Rattle.text.proofs.number.digits_at.Goals as goal

pub loop-i-init : goal.loop-i-init
loop-i-init c = (digits-first c.args.text.now c.args.at, omega arith)

pub returns-then-not-is_digit : goal.returns-then-not-is_digit
returns-then-not-is_digit c =
    digits-stop c.args.text.now c.args.at _ _ c.loop-i.invariant.0
    (span-stop c.args.text.now c.loop-i.i c.loop-i-test.true is_digit (sym c.is_digit.ensures ∙ c.if-not-is_digit.true))

pub with_digit-value-requires : goal.with_digit-value-requires
with_digit-value-requires c =
    (c.loop-i.invariant.0.small, sym c.is_digit.ensures ∙ c.if-not-is_digit.false)

pub loop-i-preserved : goal.loop-i-preserved
loop-i-preserved c = (
  rw c.with_digit-value.ensures
      (digits_on c.args.text.now c.args.at c.loop-i.value c.loop-i.i c.loop-i.invariant.0 c.loop-i-test.true
      (sym c.is_digit.ensures ∙ c.if-not-is_digit.false)),
  omega (arith, c.loop-i.invariant.1),
)

pub returns : goal.returns
returns c =
    let end : c.max.result ≡ c.loop-i.i = omega (arith, c.max.ensures, c.loop-i.invariant.0.within, c.loop-i.invariant.1, c.loop-i-test.false) in
    rw end (digits-stop c.args.text.now c.args.at _ _ c.loop-i.invariant.0 (span-beyond c.args.text.now c.loop-i.i is_digit c.loop-i-test.false))
