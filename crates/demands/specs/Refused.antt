-- What a refusal gives: a number of the statement's table, with its file and a line, no counts, and the output as it was.
use Rattle.std.specs.Prelude.{ℕ, ◌≤◌, ◌≡◌, ◌↔◌, List, cond, ◌||◌, eqb, leb}
use Rattle.grammar.specs.Lines.{Refusal, refusal}
use Rattle.demands.specs.declared.answer.Answer.{Answer}

-- the file that a number speaks of
abbrev pub file_of : ℕ → ℕ
file_of n = cond (leb n 2 || eqb n 18) 0 (cond (leb n 4) 1 (cond (leb n 9) 2 (cond (leb n 17) 3 4)))

-- a refusal as the table has it, from 1 to the last number; line 0 is no line, and file 0 no file
pub record Listed (last : ℕ) (r : Refusal) : Type 0 where
  pub least : 1 ≤ r.number
  pub greatest : r.number ≤ last
  pub filed : r.file ≡ file_of r.number
  pub lined : (r.line ≡ 0) ↔ (r.file ≡ 0)

pub record Refused (last : ℕ) (output : List ℕ) (r : Answer) (new : List ℕ) : Type 0 where
  pub listed : Listed last (refusal r.number r.file r.line)
  pub rules : r.rules ≡ 0
  pub formulas : r.formulas ≡ 0
  pub kept : new ≡ output
