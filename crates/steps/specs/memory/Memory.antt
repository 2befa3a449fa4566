-- What working memory holds, and what the code tells of a rule line.
use Rattle.std.specs.Prelude.{ℕ, ◌≡◌, List, length, Result, Ok, Err, ⊤}
use Rattle.grammar.specs.Outcome.{Outcome, done, refused}
use Rattle.grammar.specs.Derivation.{Position}
use Rattle.derivation.specs.memory.RuleLines.{position_in}
use Rattle.steps.specs.memory.Fault.{number}
use Rattle.steps.specs.memory.Held.{Held}
use Rattle.steps.specs.memory.Steps.{rows_in, held_in}
use Rattle.steps.specs.declared.fault.Fault.{Fault}
use Rattle.steps.specs.declared.memory.Memory.{Memory}
use Rattle.steps.specs.declared.position.TextPosition.{TextPosition}
use Rattle.steps.specs.declared.target.Target.{Target}

abbrev pub rows_of : Memory → List ℕ
rows_of m = rows_in m.layout m.work.now

abbrev pub held_of : Memory → Held
held_of m = held_in m.layout m.live m.work.now

-- the position that a rule line names
abbrev pub position_of : TextPosition → Position
position_of p = position_in p.text.now p.position

-- a target, or the number that it is refused with
abbrev pub ToldTarget : Outcome ℕ (ℕ × ℕ) → Result Target Fault → Type 0
ToldTarget outcome (Ok target) = outcome ≡ done (target.index, target.at)
ToldTarget outcome (Err fault) = outcome ≡ refused (number fault)

-- the same numbers are lent, as many as before, and their parts begin where they began
pub record Kept (old new : Memory) : Type 0 where
  pub layout : new.layout ≡ old.layout
  pub long : length new.work.now ≡ length old.work.now
  pub lent : new.work.ghost_name ≡ old.work.ghost_name

-- the live formulas after a line are in memory, and the rows are as they were
pub record Stepped (outcome : Outcome ℕ Held) (old new : Memory) : Type 0 where
  pub is : outcome ≡ done (held_of new)
  pub rows : rows_of new ≡ rows_of old
  pub layout : new.layout ≡ old.layout

abbrev pub ToldStep : Outcome ℕ Held → Memory → Result ⊤ Fault → Memory → Type 0
ToldStep outcome old (Ok _) new = Stepped outcome old new
ToldStep outcome old (Err fault) new = outcome ≡ refused (number fault)
