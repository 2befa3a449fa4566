-- `simplify::store_simplified` stores the truth value, or the connective's word and the parts that stay.
use native.Mathlib.Omega.{arith}
use Prim.Native.Nat.{◌+◌, ◌/◌}
use lib.ListN.{get_or}
use Rattle.formula.proofs.memory.Simplified.{value_stores, parts_stores}
use Rattle.formula.proofs.simplify.store_simplified.Goals as goal

pub returns-in-Value : goal.returns-in-Value
returns-in-Value c =
    value_stores c.args.every (get_or c.args.work.now c.args.at 0 / 16) c.args.work.now (c.args.at + 1) c.args.end (omega (arith, c.requires.0)) c.simplification_at.ensures.0 _ c.in-Value.is
    c.truth_word.ensures c.put.ensures

pub returns-in-Parts : goal.returns-in-Parts
returns-in-Parts c =
    parts_stores c.args.every (get_or c.args.work.now c.args.at 0 / 16) c.args.work.now (c.args.at + 1) c.args.end (omega (arith, c.requires.0)) c.simplification_at.ensures.0 _ c.in-Parts.is
    c.junction_word.ensures c.put-next.ensures c.copy_others.ensures
