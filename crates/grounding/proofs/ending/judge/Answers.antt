-- `ending::judge`: the live names stand behind one another in memory, as many as there are.
use Prim.Native.Nat.{ℕ, ◌+◌, ◌-◌}
use native.Mathlib.Omega.{arith}
use mathlib.Core.Path.{◌≡◌, subst}
use lib.ListN.{take, drop}
use Rattle.text.specs.memory.Numbers.{numbers_at}
use Rattle.steps.specs.memory.Held.{held, end_in}
use Rattle.grounding.specs.memory.Grounds.{EndJudged}
use Rattle.grounding.proofs.ending.judge.Goals as goal

pub returns : goal.returns
returns c =
    let m = c.args.memory.now in
    let n : (m.layout.names + m.live.count) - m.layout.names ≡ m.live.count = omega arith in
    subst (λ (k : ℕ). EndJudged (end_in c.args.table.now (held (take m.live.full m.work.now) (take k (drop m.layout.names m.work.now)) m.live.top m.live.ended)
    (numbers_at c.args.text.now c.args.names.at c.args.names.many)) c.judge_end.result) n (c.judge_end.ensures m.live.top)
