-- The jobs' answers, and what they leave in lent memory. The statement's table of numbers, in the order in which they are decided.
use Rattle.std.specs.Prelude.{ℕ, ◌+◌, List, [], ◌∷◌, ◌++◌, cond, eqb, leb, length, drop, replicate}
use Rattle.grammar.specs.Sizes.{text_size, work_size}
use Rattle.grammar.specs.Bytes.{Bytes, same}
use Rattle.grammar.specs.Outcome.{done, refused, provided, ◌>>=◌, ◌>>◌}
use Rattle.grammar.specs.Lines.{refusal, Judged, is_lf}
use Rattle.grammar.specs.Problem.{problem_of}
use Rattle.demands.specs.TheoryText.{theory_of}
use Rattle.demands.specs.Ground.{Ground, ground_text, ground_of}
use Rattle.demands.specs.Replay.{derivation_of}
use Rattle.demands.specs.declared.answer.Answer.{Answer}

-- 1, 2 and 18 name no file and no line
abbrev pub enough : List ℕ → Judged (Unit {0})
enough work = provided (leb work_size (length work)) (refusal 1 0 0)

abbrev pub short : Bytes → Judged (Unit {0})
short text = provided (leb (length text) text_size) (refusal 2 0 0)

abbrev pub room : List ℕ → Ground → Judged (Unit {0})
room output G = provided (leb (length (ground_text G)) (length output)) (refusal 18 0 0)

-- one more than the LFs before the first difference, or before the earlier end
abbrev pub difference_line : Bytes → Bytes → ℕ
difference_line [] t = 1
difference_line (a ∷ s) [] = 1
difference_line (a ∷ s) (b ∷ t) = let more = cond (is_lf a) 1 0 + difference_line s t in cond (eqb a b) more 1

abbrev pub claimed : Bytes → Ground → Judged (Unit {0})
claimed claim G = provided (same claim (ground_text G)) (refusal 19 4 (difference_line claim (ground_text G)))

abbrev pub grounded : Bytes → Bytes → Bytes → Judged Ground
grounded problem theory derivation = do
  P ← problem_of problem  -- 3, 4
  T ← theory_of P theory  -- 5, 6, 7, 8, 9
  D ← derivation_of P T derivation  -- 10, 11, 12, 13, 14, 15
  ground_of P D  -- 16, 17

unfoldable pub replayed : Bytes → Bytes → Bytes → List ℕ → List ℕ → Judged Ground
replayed problem theory derivation output work = do
  enough work  -- 1
  short problem  -- 2
  short theory
  short derivation
  G ← grounded problem theory derivation
  room output G  -- 18
  done G

unfoldable pub checked : Bytes → Bytes → Bytes → Bytes → List ℕ → List ℕ → Judged Ground
checked problem theory derivation claim output work = do
  enough work  -- 1
  short problem  -- 2
  short theory
  short derivation
  short claim
  G ← grounded problem theory derivation
  room output G  -- 18
  claimed claim G  -- 19
  done G

-- what the desk sees: 0 with the counts of rule lines and final formulas, or a refusal with both counts zero
abbrev pub answer_of : Judged Ground → Answer
answer_of (done G) = record { number = 0; file = 0; line = 0; rules = G.rules; formulas = length G.formulas }
answer_of (refused r) = record { number = r.number; file = r.file; line = r.line; rules = 0; formulas = 0 }

-- on acceptance the output begins with the ground text and the rest keeps its bytes; on refusal all of it does
abbrev pub output_after : Judged Ground → List ℕ → List ℕ
output_after (done G) output = ground_text G ++ drop (length (ground_text G)) output
output_after (refused r) output = output

-- the first 16,384 working numbers are zero and the rest as before; all as before where there are fewer
unfoldable pub work_after : List ℕ → List ℕ
work_after work = cond (leb work_size (length work)) (replicate work_size 0 ++ drop work_size work) work

-- what a job answers and leaves
pub record Result : Type 0 where
  pub answer : Answer
  pub output : List ℕ
  pub work : List ℕ

abbrev pub result_of : Judged Ground → List ℕ → List ℕ → Result
result_of J output work = record { answer = answer_of J; output = output_after J output; work = work_after work }

-- the job replay: problem, theory, derivation
abbrev pub replay_result : Bytes → Bytes → Bytes → List ℕ → List ℕ → Result
replay_result problem theory derivation output work = result_of (replayed problem theory derivation output work) output work

-- the job check: the same, then compared with a claim
abbrev pub check_result : Bytes → Bytes → Bytes → Bytes → List ℕ → List ℕ → Result
check_result problem theory derivation claim output work = result_of (checked problem theory derivation claim output work) output work
