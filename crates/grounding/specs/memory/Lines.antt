-- What the code tells of a derivation's lines.
use Rattle.std.specs.Prelude.{ℕ, ◌+◌, ◌-◌, ◌≤◌, ◌≡◌, List, Result, Ok, Err, length}
use Rattle.grammar.specs.Bytes.{Bytes}
use Rattle.grammar.specs.Outcome.{done, refused}
use Rattle.grammar.specs.Reading.{Reading}
use Rattle.grammar.specs.Lines.{Judged, refusal}
use Rattle.demands.specs.Replay.{Place, among, Replayed, whole_derivation, derivation_line, derivation_from}
use Rattle.text.specs.memory.Going.{Going}
use Rattle.table.specs.declared.table.Table.{Table}
use Rattle.derivation.specs.memory.RuleLines.{numbers_in, NumbersBefore}
use Rattle.steps.specs.memory.Fault.{number}
use Rattle.steps.specs.memory.Held.{Held, stepped_in}
use Rattle.steps.specs.memory.Memory.{rows_of, held_of}
use Rattle.steps.specs.declared.memory.Memory.{Memory}
use Rattle.grounding.specs.declared.replaying.Replayed.{Replayed as ReplayedRead}
use Rattle.grounding.specs.declared.replaying.Refusal.{Refusal}

-- A derivation's lines, on what memory holds.

abbrev pub JudgedIn : Type 0
JudgedIn = Judged (Replayed Held)

module _ (table : Table) (rows : List ℕ) (first : Held) where
  abbrev pub line_in : Place Held → Reading (Place Held)
  line_in = derivation_line (stepped_in table rows) first

  abbrev pub GoingIn : JudgedIn → Bytes → ℕ → ℕ → Place Held → Type 0
  GoingIn whole text at number place = Going 3 line_in whole_derivation whole text at number place

-- what a derivation comes to, from what memory holds
abbrev pub derived_in : Table → Memory → Bytes → JudgedIn
derived_in table first text = derivation_from (stepped_in table (rows_of first)) (held_of first) text

-- the whole derivation comes to what its rest comes to, from a place and what memory holds now: the rule lines begin with the third line
pub record Replaying (table : Table) (first : Memory) (text : Bytes) (at line : ℕ) (now : Memory) : Type 0 where
  pub going : GoingIn table (rows_of first) (held_of first) (derived_in table first text) text at line (among (held_of now) (line - 3))
  pub rows : rows_of now ≡ rows_of first
  pub layout : now.layout ≡ first.layout
  pub late : 3 ≤ line
  pub counted : line ≤ at + 1

-- what a derivation comes to is in memory
pub record Finished (outcome : JudgedIn) (text : Bytes) (old : Memory) (r : ReplayedRead) (new : Memory) : Type 0 where
  pub is : outcome ≡ done (record { last = held_of new; rules = r.rules; final = numbers_in text r.names })
  pub rows : rows_of new ≡ rows_of old
  pub layout : new.layout ≡ old.layout
  pub near : NumbersBefore r.names (length text)
  pub counted : r.rules ≤ length text
  pub footed : r.line ≡ r.rules + 3

abbrev pub ToldReplayed : JudgedIn → Bytes → Memory → Result ReplayedRead Refusal → Memory → Type 0
ToldReplayed outcome text old (Ok r) new = Finished outcome text old r new
ToldReplayed outcome text old (Err r) new = outcome ≡ refused (refusal (number r.fault) 3 r.line)
