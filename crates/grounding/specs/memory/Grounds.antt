-- What the code tells at the end: the ground theory.
use Rattle.std.specs.Prelude.{ℕ, zero, suc, ◌+◌, ◌≡◌, List, Result, Ok, Err, ⊤, false, length, take}
use Rattle.std.specs.Borrow.{MutBor}
use Rattle.grammar.specs.Bytes.{Bytes}
use Rattle.grammar.specs.Outcome.{done, refused, ◌>>=◌}
use Rattle.grammar.specs.Lines.{Refusal as Refused, Judged, refusal}
use Rattle.logic.specs.Meaning.{count_from}
use Rattle.demands.specs.Replay.{Replayed, derivation_from}
use Rattle.demands.specs.Ground.{Ground, ground_text}
use Rattle.table.specs.declared.table.Table.{Table}
use Rattle.printing.specs.memory.ClauseText.{clause_lines}
use Rattle.theory.specs.declared.theory_reader.Theory.{Theory}
use Rattle.steps.specs.memory.Fault.{number}
use Rattle.steps.specs.memory.Held.{Held, held, stepped_in, end_in}
use Rattle.steps.specs.memory.Steps.{rows_in, held_in, Few}
use Rattle.steps.specs.memory.Memory.{rows_of, held_of}
use Rattle.steps.specs.declared.fault.Fault.{Fault}
use Rattle.steps.specs.declared.live.Live.{Live}
use Rattle.steps.specs.declared.live.Layout.{Layout}
use Rattle.steps.specs.declared.memory.Memory.{Memory}
use Rattle.grounding.specs.memory.Faults.{refusal_of}
use Rattle.grounding.specs.memory.Lines.{JudgedIn}
use Rattle.grounding.specs.declared.fault.Refusal.{Refusal}
use Rattle.grounding.specs.declared.grounding.GroundMemory.{GroundMemory}
use Rattle.grounding.specs.declared.replaying.Refusal.{Refusal as LineRefusal}

-- the ground theory is in memory, after so many rule lines
pub record GroundFound (judged : Judged Ground) (problem : Bytes) (table : Table) (lines : ℕ) (live : Live) (work : List ℕ) : Type 0 where
  pub ground : Ground
  pub is : judged ≡ done ground
  pub rules : lines ≡ ground.rules
  pub formulas : live.count ≡ length ground.formulas
  pub text : ground_text ground ≡ clause_lines problem table 32 live.count (take live.full work)
  pub few : Few live

-- by the path that was taken: the ground theory, or a refusal
abbrev pub GroundEither : Judged Ground → Bytes → Table → Result ℕ Refused → Live → List ℕ → Type 0
GroundEither judged problem table (Ok lines) live work = GroundFound judged problem table lines live work
GroundEither judged problem table (Err r) live work = judged ≡ refused r

-- the ground theory, or the refusal
abbrev pub GroundTold : Judged Ground → Bytes → Result GroundMemory Refusal → Type 0
GroundTold judged problem (Ok g) = GroundFound judged problem g.grounded.table g.grounded.rules g.memory.live g.memory.work.now
GroundTold judged problem (Err r) = judged ≡ refused (refusal_of r)

-- A derivation with its end, on what memory holds: 10 to 17.

abbrev pub judged_end : ℕ → Replayed Held → JudgedIn
judged_end zero R = done R
judged_end (suc n) R = refused (refusal (suc n) 3 (R.rules + 3))

unfoldable pub ended_in : Table → List ℕ → Held → Bytes → JudgedIn
ended_in table rows m s = derivation_from (stepped_in table rows) m s >>= λ R. judged_end (end_in table R.last R.final) R

-- the end is judged: nothing is wrong with it, or it is refused with a number
abbrev pub EndJudged : ℕ → Result ⊤ Fault → Type 0
EndJudged n (Ok _) = n ≡ 0
EndJudged n (Err fault) = n ≡ number fault

-- a derivation comes to the live formulas in memory
pub record Ended (outcome : JudgedIn) (rules : ℕ) (layout : Layout) (live : Live) (work : List ℕ) : Type 0 where
  pub final : List ℕ
  pub is : outcome ≡ done (record { last = held_in layout live work; rules = rules; final = final })
  pub few : Few live

-- or it is refused
abbrev pub EndEither : JudgedIn → Layout → Result ℕ Refused → Live → List ℕ → Type 0
EndEither outcome layout (Ok rules) live work = Ended outcome rules layout live work
EndEither outcome layout (Err r) live work = outcome ≡ refused r

abbrev pub EndTold : JudgedIn → Result ℕ LineRefusal → Memory → Type 0
EndTold outcome (Ok rules) memory = Ended outcome rules memory.layout memory.live memory.work.now
EndTold outcome (Err r) memory = outcome ≡ refused (refusal (number r.fault) 3 r.line)

-- the live formulas of a theory that was read: its words at the front, and the names 1, 2, 3 and so on
pub record FirstNamed (layout : Layout) (theory : Theory) (old : List ℕ) (memory : Memory) : Type 0 where
  pub holds : held_of memory ≡ held (take theory.full old) (count_from 1 theory.count) theory.count false
  pub rows : rows_of memory ≡ rows_in layout old

-- the numbers that were lent are those that memory holds, as many, and in the same parts
pub record HeldIn (layout : Layout) (work : MutBor (List ℕ)) (memory : Memory) : Type 0 where
  pub arranged : memory.layout ≡ layout
  pub long : length memory.work.now ≡ length work.now
  pub lent : memory.work.ghost_name ≡ work.ghost_name
