-- `store::copy` copies a range within memory, as far as there is room.
use native.Mathlib.Omega.{arith}
use mathlib.Core.Path.{◌≡◌, sym, ap, ◌∙◌}
use Prim.Native.Nat.{ℕ, ◌+◌, ◌-◌}
use Rattle.words.proofs.memory.Storing.{copied_size, copied_none, copied_some}
use Rattle.words.proofs.store.copy.Goals as goal
use Rattle.words.proofs.store.copy.Goals.{then-to-work, else-to-work}

pub returns : goal.returns
returns c =
    let ends = ap (λ (n : ℕ). c.args.to + n) (sym (copied_size c.requires)) in
    elim c.if-to-work.branch [
      | then-to-work w ↦
          let same : c.args.at + w.min-room.result - c.args.at ≡ w.min-room.result = omega arith in
          record { holds = w.work-is ∙ w.copy_within.ensures.after ∙ rw same (sym (copied_some c.requires _ w.if-to-work.true w.min-room.ensures)); ends = ends }
      | else-to-work w ↦ record { holds = w.work-is ∙ sym (copied_none c.requires w.if-to-work.false); ends = ends }
    ]
