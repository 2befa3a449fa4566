-- The methods of `Guards` that call each other: `evaluate` goes by the kind of the word at a place, the others take parts or elements in turn, with a
-- level fewer. A loop's invariant says that the whole value is that of the parts, or the elements, from here. The check finds all but three arms.
use Prim.Native.Nat.{ℕ, ◌+◌, ◌-◌}
use mathlib.Core.Path.{◌≡◌}
use lib.ListN.{drop}
use Rattle.logic.specs.Meaning.{holds}
use Rattle.words.specs.memory.Stored.{formula_by}
use Rattle.guards.specs.memory.Values.{true_at}
use Rattle.guards.proofs.memory.Values.{value_by, value_kind, value_equality}
use Rattle.guards.proofs.guard.Guards.+value.Goals as goal
use Rattle.guards.proofs.guard.Guards.+value.Goals.{evaluate-After-from}

-- the kind of the word
by_kind : (t : ℕ) (c : evaluate-After-from t)
    → true_at c.args.self.now.structure.now.table.now c.args.self.now.structure.now.rows.now c.args.levels c.args.values (drop c.args.at c.args.self.now.work.now)
    ≡ value_by c.args.self.now.structure.now.table.now c.args.self.now.structure.now.rows.now c.args.values (c.args.levels - 1) c.from.result (drop (c.args.at + 1) c.args.self.now.work.now)
by_kind t c = rw c.from.ensures (value_kind _ _ c.args.self.now.work.now c.args.at _ _ c.if-levels-eq0.false)

pub evaluate-returns-in-Truth : goal.evaluate-returns-in-Truth
unfolding formula_by holds
evaluate-returns-in-Truth t c = rw (by_kind t (goal.at.evaluate-returns-in-Truth t c).After-from, c.in-Truth.is)

pub evaluate-returns-in-Equality : goal.evaluate-returns-in-Equality
evaluate-returns-in-Equality t c =
    rw (by_kind t (goal.at.evaluate-returns-in-Equality t c).After-from, c.in-Equality.is, value_equality _ _ c.args.self.now.work.now (c.args.at + 1) (c.args.levels - 1) c.args.values)
    c.equal_holds.ensures

pub evaluate-returns-in-Term : goal.evaluate-returns-in-Term
unfolding formula_by holds
evaluate-returns-in-Term t c = rw (by_kind t (goal.at.evaluate-returns-in-Term t c).After-from, c.in-Term.is)
