-- `simplify::truth_count` counts the parts that are a truth value. The invariant: the count so far with the count of the parts that are still to come.
use native.Mathlib.Omega.{arith}
use Prim.Native.Nat.{◌+◌, ◌-◌}
use mathlib.Core.Path.{◌≡◌, sym, ◌∙◌}
use lib.ListN.{drop}
use Rattle.formula.proofs.memory.Simplified.{truth_count-found, truth_count_other, truth_count-none}
use Rattle.formula.proofs.simplify.truth_count.Goals as goal
use Rattle.formula.proofs.simplify.truth_count.Goals.{then-peek-sought, else-peek-sought}

pub past-i-requires : goal.past-i-requires
past-i-requires c = omega (arith, c.loop-part.invariant)

pub loop-part-preserved : goal.loop-part-preserved
loop-part-preserved c =
    let rest = c.args.count - (c.loop-part._part + 1) in
    let more : c.args.count - c.loop-part._part ≡ rest + 1 = omega arith in
    elim c.if-peek-sought.branch [
      | then-peek-sought w ↦ let z = truth_count-found c.args.value c.args.work.now c.loop-part.i _ rest more (sym c.peek.ensures ∙ w.if-peek-sought.true ∙ c.truth_word-sought.ensures) in
          (c.past-i.ensures.1, omega (arith, w.found-is), rw c.past-i.ensures.0 (omega (arith, c.loop-part.invariant.2, w.found-is)))
      | else-peek-sought w ↦ let z = truth_count_other c.args.value c.args.work.now c.loop-part.i _ rest more (λ e. w.if-peek-sought.false (c.peek.ensures ∙ e ∙ sym c.truth_word-sought.ensures)) in
          (c.past-i.ensures.1, omega (arith, w.found-is), rw c.past-i.ensures.0 (omega (arith, c.loop-part.invariant.2, w.found-is)))
    ]

pub returns : goal.returns
returns c =
    let z = truth_count-none c.args.value (drop c.loop-part.i c.args.work.now) (c.args.count - c.loop-part._part) (omega arith) in
    (omega (arith, c.loop-part.invariant.2), omega arith)
