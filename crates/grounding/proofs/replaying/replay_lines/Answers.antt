-- `replaying::replay_lines`: by what the reader read, one law for each way that the line goes.
use Prim.Native.Nat.{◌<◌}
use native.Mathlib.Omega.{arith}
use mathlib.Core.Path.{◌≡◌, ◌∙◌}
use lib.ListN.{length}
use Rattle.grounding.proofs.Turns.{Kept_on, line_malformed, step-refused, step_on, footer-refused, footer_end}
use Rattle.grounding.proofs.replaying.replay_lines.Goals as goal

pub returns-in_default-clause-told : goal.returns-in_default-clause-told
returns-in_default-clause-told c =
    let f = rw c.loop-read.invariant.0 at c.in_default.ensures.read in
    rw (c.malformed.ensures.0, c.malformed.ensures.1)
    (line_malformed c.args.table.now c.args.memory.now c.args.reader.now.text.now _ _ _ c.loop-read.invariant.3 f)

pub returns-in-Err-clause-told : goal.returns-in-Err-clause-told
returns-in-Err-clause-told c =
    let f = rw (c.loop-read.invariant.0, c.in-Step.is) at c.in-Some.ensures.read in
    let e = rw (c.next_line.ensures.text, c.loop-read.invariant.0) at c.in-Err.ensures.told in
    step-refused c.args.table.now c.args.memory.now c.args.reader.now.text.now _ _ _ c.loop-read.invariant.3 _ c.in-Some.ensures.on.0 _ f _ e

pub loop-read-preserved : goal.loop-read-preserved
loop-read-preserved c =
    let f = rw (c.loop-read.invariant.0, c.in-Step.is) at c.in-Some.ensures.read in
    let s = rw (c.next_line.ensures.text, c.loop-read.invariant.0) at c.in_default-step.ensures.told in (
      c.next_line.ensures.text ∙ c.loop-read.invariant.0,
      c.next_line.ensures.within,
      Kept_on c.loop-read.invariant.2 c.step.ensures.kept,
      rw c.in-Some.ensures.on.1
          (step_on c.args.table.now c.args.memory.now c.args.reader.now.text.now _ _ _ c.loop-read.invariant.3 _ c.in-Some.ensures.on.0 _ f _ s),
    )

pub returns-then-not-is_done-clause-told : goal.returns-then-not-is_done-clause-told
returns-then-not-is_done-clause-told c =
    let f = rw (c.loop-read.invariant.0, c.in-Footer.is) at c.in-Some.ensures.read in
    let same = c.next_line.ensures.text ∙ c.loop-read.invariant.0 in
    let more : c.next_line.new.self.at < length c.args.reader.now.text.now = rw (← same) (grind arith) in
    rw (c.malformed-then-not-is_done.ensures.0, c.malformed-then-not-is_done.ensures.1)
    (footer-refused c.args.table.now c.args.memory.now c.args.reader.now.text.now _ _ _ c.loop-read.invariant.3 _ c.in-Some.ensures.on.0 _ f more)

pub returns-in-Footer-clause-told : goal.returns-in-Footer-clause-told
returns-in-Footer-clause-told c =
    let f = rw (c.loop-read.invariant.0, c.in-Footer.is) at c.in-Some.ensures.read in
    let near = rw c.in-Footer.is at c.in-Some.ensures.before in
    let same = c.next_line.ensures.text ∙ c.loop-read.invariant.0 in
    let end : c.next_line.new.self.at ≡ length c.args.reader.now.text.now = rw (← same) (grind arith) in
    let replaying = c.loop-read.invariant.3 in
    record {
      is = footer_end c.args.table.now c.args.memory.now c.args.reader.now.text.now _ _ _ replaying _ c.in-Some.ensures.on.0 _ f end;
      rows = replaying.rows;
      layout = replaying.layout;
      near = omega arith;
      counted = omega (arith, replaying.counted);
      footed = omega (arith, replaying.late);
    }
