-- `Scope::is_closed` and `Scope::are_closed` call each other; levels fall, and a list of parts counts as half a level. The loop's invariant: the answer
-- is that of the parts from here. The check finds all but the arm of the kinds in which no variable is.
use mathlib.Core.Path.{sym, ◌∙◌}
use Rattle.guards.proofs.memory.Flags.{closed_kind, closed_other}
use Rattle.guards.proofs.scope.Scope.+closed.Goals as goal

pub is_closed-returns-in_default : goal.is_closed-returns-in_default
is_closed-returns-in_default t c =
    sym (closed_kind c.args.self.now.work.now c.args.at _ _ c.if-levels-eq0.false
    ∙ rw (← c.from.ensures) (closed_other _ _ _ _ c.in_default.not-Atom c.in_default.not-Equality c.in_default.not-Connective c.in_default.not-Quantifier))
