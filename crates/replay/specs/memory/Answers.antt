-- What the code tells of the jobs: what is answered, and what is written.
use Rattle.std.specs.Prelude.{ℕ, ◌≤◌, ◌≡◌, List, [], Option, Some, None, Result, Ok, Err, Bool, true, ◌&&◌, eqb, length}
use Rattle.std.specs.Borrow.{Bor}
use Rattle.grammar.specs.Sizes.{text_size}
use Rattle.grammar.specs.Bytes.{Bytes}
use Rattle.grammar.specs.Outcome.{refused}
use Rattle.grammar.specs.Lines.{Refusal as Refused, refusal, Judged}
use Rattle.demands.specs.Ground.{Ground, ground_text}
use Rattle.demands.specs.Answer.{answer_of, output_after}
use Rattle.demands.specs.memory.Conclusions.{concluded_of}
use Rattle.demands.specs.declared.answer.Answer.{Answer}
use Rattle.printing.specs.declared.cursor.Cursor.{Cursor}
use Rattle.grounding.specs.memory.Faults.{refusal_of}
use Rattle.replay.specs.declared.job.Counts.{Counts}
use Rattle.replay.specs.declared.job.Refusal.{Refusal}
use Rattle.replay.specs.declared.job.Refusal.TheVariants.{Memory, Length, Text, Room, Claim}

-- the claim's bytes; none where there is no claim
abbrev pub claimed : Option (Bor Bytes) → Bytes
claimed None = []
claimed (Some claim) = claim.now

-- the text so far is the whole claim, if there is one
abbrev pub agreed_by : Cursor → Option (Bor Bytes) → Bool
agreed_by cursor None = true
agreed_by cursor (Some claim) = cursor.same && eqb cursor.length (length claim.now)

-- a refusal as the statement has it
abbrev pub refused_as : Refusal → Refused
refused_as Memory = refusal 1 0 0
refused_as Length = refusal 2 0 0
refused_as (Text r) = refusal_of r
refused_as Room = refusal 18 0 0
refused_as (Claim line) = refusal 19 4 line

-- the answer that is given for an outcome
abbrev pub answer_by : Result Counts Refusal → Answer
answer_by (Ok counts) = record { number = 0; file = 0; line = 0; rules = counts.rules; formulas = counts.formulas }
answer_by (Err r) = answer_of (refused (refused_as r))

-- the answer, and the output after
pub record Told (judged : Judged Ground) (output : List ℕ) (r : Result Counts Refusal) (new : List ℕ) : Type 0 where
  pub is : answer_by r ≡ answer_of judged
  pub written : new ≡ output_after judged output

-- from a ground theory of which the text and the counts are known
pub record Concluded (compare : Bool) (claim text : Bytes) (counts : Counts) (output : List ℕ) (r : Result Counts Refusal) (new : List ℕ) : Type 0 where
  pub told : (G : Ground) → ground_text G ≡ text → G.rules ≡ counts.rules → length G.formulas ≡ counts.formulas → length (ground_text G) ≤ text_size
      → Told (concluded_of compare claim output G) output r new
