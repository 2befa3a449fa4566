-- `instance::instance` copies a range with an element for a variable. The invariant: what is made of the rest of the range is still to be stored.
use native.Mathlib.Omega.{arith}
use lib.Seq.{slice, length-slice}
use Rattle.words.proofs.memory.Storing.{ahead_turn, ahead_end, ahead_read}
use Rattle.formula.proofs.memory.Instances.{words_with-next, words_with-none, length-words_with}
use Rattle.formula.proofs.instance.instance.Goals as goal

pub put-j-requires : goal.put-j-requires
put-j-requires c =
    let s = slice c.args.at c.args.end c.args.work.now in
    omega (arith, c.requires.0, c.loop-i.invariant.1.ends, length-words_with c.args.x c.args.v s 0, length-slice c.args.at c.args.end c.args.work.now (omega (arith, c.requires.0)))

pub loop-i-preserved : goal.loop-i-preserved
loop-i-preserved c =
    let same = ahead_read c.loop-i.invariant.1 c.loop-i.i (omega (arith, c.requires.0)) in (
      omega (arith, c.held_after-held.ensures.1),
      ahead_turn c.loop-i.invariant.1
          (rw (c.word_with.ensures, c.held_after-held.ensures.0, same) (words_with-next c.args.x c.args.v c.args.work.now c.args.end c.loop-i.held c.loop-i.i (omega arith) (omega (arith, c.requires.0))))
          c.put-j.ensures,
    )

pub returns : goal.returns
returns c =
    ahead_end c.loop-i.invariant.1 (words_with-none c.args.x c.args.v c.args.work.now c.args.end c.loop-i.held c.loop-i.i (omega (arith, c.requires.0)))
