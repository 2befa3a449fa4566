-- `rewrite::rewrite` stores what stands before the formula, what was decided of it, and what stands after it.
use native.Mathlib.Omega.{arith}
use Prim.Native.Nat.{ℕ, ◌+◌, ◌<◌}
use mathlib.Core.Path.{refl}
use mathlib.Core.List.{List}
use lib.ListN.{get_or}
use lib.Seq.{slice, length-take-le}
use Rattle.words.specs.memory.Storing.{Placed}
use Rattle.words.proofs.memory.Storing.{ahead_turn, ahead_length, theory_starts, theory_ends, place_near}
use Rattle.formula.specs.memory.Rewriting.{fit_words}
use Rattle.formula.proofs.memory.Rewriting.{end_after, decided_near, decided_kept, stored_as}
use Rattle.formula.proofs.rewrite.rewrite.Goals as goal
use Rattle.formula.proofs.rewrite.rewrite.Goals.{After-past-end}

-- where the formula ends
module _ (c : After-past-end) where
  after : c.args.at < c.past-end.result
  after = end_after c.args.work.now c.args.at c.args.full c.args.to c.requires.0 _ c.past-end.ensures.0

  placed : Placed c.args.work.now c.args.at c.past-end.result c.args.full c.args.to
  placed =
      let l = length-take-le c.args.full c.args.work.now (omega (arith, c.requires.0)) in
      omega (arith, c.requires.0, c.past-end.ensures.1, after)

  -- what was decided of it
  abbrev decided : List ℕ
  decided = fit_words c.args.fit (get_or c.args.work.now c.args.at 0) (slice (c.args.at + 1) c.past-end.result c.args.work.now) c.args.flags.now

pub store_decided-next-requires : goal.store_decided-next-requires
store_decided-next-requires c =
    let p = placed (goal.at.store_decided-next-requires c).After-past-end in
    omega (arith, place_near p c.copy-place.ensures, c.copy-place.auto.work, p, after (goal.at.store_decided-next-requires c).After-past-end, c.requires)

pub copy-requires : goal.copy-requires
copy-requires c =
    let p = placed (goal.at.copy-requires c).After-past-end in
    let near = decided_near c.args.fit (get_or c.args.work.now c.args.at 0) c.args.work.now (c.args.at + 1) c.past-end.result c.args.flags.now (omega (arith, p)) in
    let start = theory_starts p (decided (goal.at.copy-requires c).After-past-end) c.copy-place.ensures in
    let middle = decided_kept start c.args.fit c.args.at c.past-end.result c.args.flags.now (omega (arith, p, after (goal.at.copy-requires c).After-past-end)) (omega (arith, p)) c.store_decided-next.ensures in
    omega (arith, p, place_near p c.copy-place.ensures, near, middle.ends, c.requires.1, ahead_length (ahead_turn start refl middle))

pub overflow_sub-result : goal.overflow_sub-result
overflow_sub-result c =
    omega (arith, c.copy.ensures.ends, place_near (placed (goal.at.overflow_sub-result c).After-past-end) c.copy-place.ensures, c.store_decided-next.ensures.ends)

pub returns : goal.returns
returns c =
    let p = placed (goal.at.returns c).After-past-end in
    let start = theory_starts p (decided (goal.at.returns c).After-past-end) c.copy-place.ensures in
    let middle = decided_kept start c.args.fit c.args.at c.past-end.result c.args.flags.now (omega (arith, p, after (goal.at.returns c).After-past-end)) (omega (arith, p)) c.store_decided-next.ensures in
    stored_as c.args.work.now c.args.at c.args.full c.args.to c.requires.0 _ c.past-end.ensures.0 c.args.flags.now c.args.fit
    (theory_ends p (ahead_turn start refl middle) c.copy.ensures)
