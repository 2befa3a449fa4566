-- The value of an atom or equality at a place of memory, by the test of the code.
-- Assumes nothing.
use Prim.Native.Nat.{ℕ, ◌+◌}
use mathlib.Core.Path.{◌≡◌}
use mathlib.Core.List.{List}
use mathlib.Core.Bool.{cond}
use lib.ListN.{drop, replicate}
use lib.Seq.{drop-drop}
use Rattle.std.specs.Prelude.{Some, None}
use Rattle.table.specs.declared.table.Table.{Table}
use Rattle.words.specs.memory.Kinds.{elements_at}
use Rattle.guards.specs.memory.Values.{true_at}
use Rattle.formula.specs.memory.Deciding.{value_fit}
use Rattle.formula.specs.declared.decide.Fit.TheVariants.{Value}

pub value_tested : (table : Table) (rows work : List ℕ) (at n : ℕ)
    → value_fit table rows n (drop at work) ≡ cond (elements_at n (drop (at + 1) work)) (Some (Value (true_at table rows 1 (replicate 64 0) (drop at work)))) None
unfolding value_fit
value_tested table rows work at n = rw (drop-drop 1 at work)
