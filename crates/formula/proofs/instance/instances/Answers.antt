-- `instance::instances` makes a copy for each element whose flag is set. The invariant: the copies for the elements from the next one on are still to be stored.
use Prim.Native.Nat.{◌+◌}
use native.Mathlib.Omega.{arith}
use lib.Seq.{slice}
use Rattle.words.proofs.memory.Storing.{ahead_turn, ahead_end, ahead_length, ahead_slice}
use Rattle.formula.proofs.memory.Instances.{copies-next, copies-none, copies-near}
use Rattle.formula.proofs.instance.instances.Goals as goal
use Rattle.formula.proofs.instance.instances.Goals.{then-chosen, else-chosen}

pub instance-j-requires : goal.instance-j-requires
instance-j-requires c =
    let l = ahead_length c.loop-i.invariant in
    let room = copies-near c.args.flags.now c.args.x c.args.work.now c.args.at c.args.end 1 (omega (arith, c.requires.0)) in (
      record {
        ordered = c.requires.0.ordered;
        within = omega (arith, c.requires.0);
        apart = omega (arith, c.requires.0, c.loop-i.invariant.after);
        long = omega (arith, c.requires.0);
        near = omega (arith, c.requires, c.loop-i.invariant.ends);
      },
      c.requires.2,
      omega (arith, c.requires),
    )

pub loop-i-preserved : goal.loop-i-preserved
loop-i-preserved c =
    let range = slice c.args.at c.args.end c.args.work.now in
    let next = copies-next c.args.flags.now c.loop-i.i c.args.x range (omega arith) in
    elim c.if-chosen.branch [
      | then-chosen w ↦ let same = ahead_slice c.loop-i.invariant c.args.at c.args.end (omega (arith, c.requires.0)) in
          rw (w.work-is, w.j-is) (ahead_turn c.loop-i.invariant (rw w.if-chosen.true at next) (rw same at w.instance-j.ensures))
      | else-chosen w ↦ let skipped = rw w.if-chosen.false at next in
          rw (w.work-is, w.j-is) (rw skipped at c.loop-i.invariant)
    ]

pub returns : goal.returns
returns c =
    ahead_end c.loop-i.invariant (copies-none c.args.flags.now c.loop-i.i c.args.x (slice c.args.at c.args.end c.args.work.now) (c.loop-i.i + 1) (omega arith))
