-- `simplify::copy_others` copies the parts that are no such truth value. The invariant: what the parts that are still to come leave is still to be stored.
use native.Mathlib.Omega.{arith}
use Prim.Native.Nat.{◌+◌, ◌-◌, ◌≤◌}
use mathlib.Core.Path.{◌≡◌, sym, ◌∙◌}
use lib.ListN.{length, take}
use lib.Seq.{slice, length-slice, length-take-le}
use Rattle.words.proofs.memory.Storing.{ahead_turn, ahead_end, ahead_take, ahead_slice}
use Rattle.formula.proofs.memory.Simplified.{words_without_dropped, words_without-kept, words_without-none, length-words_without}
use Rattle.formula.proofs.simplify.copy_others.Goals as goal
use Rattle.formula.proofs.simplify.copy_others.Goals.{In-loop-part, then-peek-unwanted, else-peek-unwanted}

-- the range's end is within memory
long : (c : In-loop-part) → length (take c.args.end c.loop-part.work) ≡ c.args.end
long c = length-take-le c.args.end c.loop-part.work (omega (arith, c.requires.0))

pub copy-j-requires : goal.copy-j-requires
copy-j-requires c =
    let l = long (goal.at.copy-j-requires c).In-loop-part in
    let range = length-slice c.args.at c.args.end c.args.work.now (omega (arith, c.requires.0)) in
    omega (arith, c.requires, c.past-next.ensures, c.loop-part.invariant.1.after, c.loop-part.invariant.1.ends, length-words_without c.args.value c.args.count (slice c.args.at c.args.end c.args.work.now))

pub loop-part-preserved : goal.loop-part-preserved
loop-part-preserved c =
    let l = long (goal.at.loop-part-preserved c).In-loop-part in
    let a = c.loop-part.invariant.1 in
    let rest = c.args.count - (c.loop-part._part + 1) in
    let more : c.args.count - c.loop-part._part ≡ rest + 1 = omega arith in
    let within : c.past-next.result ≤ c.args.end = omega (arith, c.past-next.ensures.1) in
    let first = rw (ahead_slice a c.loop-part.i c.args.end (omega (arith, c.requires.0))) at c.past-next.ensures.0 in
    let word = rw (ahead_take a c.args.end (omega (arith, c.requires.0))) at c.peek.ensures in
    let same = ahead_slice a c.loop-part.i c.past-next.result (omega (arith, c.requires.0, within)) in
    elim c.if-peek-unwanted.branch [
      | then-peek-unwanted w ↦ let kept = words_without-kept c.args.value c.args.work.now c.loop-part.i c.args.end _ rest c.past-next.result more first within (λ e. w.if-peek-unwanted.true (word ∙ e ∙ sym c.truth_word-unwanted.ensures)) in
          (within, rw (w.work-is, w.j-is) (ahead_turn a kept (rw same at w.copy-j.ensures)))
      | else-peek-unwanted w ↦ let dropped = words_without_dropped c.args.value c.args.work.now c.loop-part.i c.args.end _ rest c.past-next.result more first within (sym word ∙ w.if-peek-unwanted.false ∙ c.truth_word-unwanted.ensures) in
          (within, rw (w.work-is, w.j-is) (rw dropped at a))
    ]

pub returns : goal.returns
returns c =
    ahead_end c.loop-part.invariant.1 (words_without-none c.args.value (slice c.loop-part.i c.args.end c.args.work.now) (c.args.count - c.loop-part._part) (omega arith))
