-- A text that is read line by line, from a place on.
use Rattle.std.specs.Prelude.{ℕ, ◌+◌, ◌≤◌, ◌≡◌, length, drop}
use Rattle.grammar.specs.Bytes.{Bytes}
use Rattle.grammar.specs.Outcome.{Outcome}
use Rattle.grammar.specs.Reading.{Reading}
use Rattle.grammar.specs.Lines.{Judged, read_lines}

-- what a whole text comes to is what its rest comes to, from a place, a line and a state on
pub record Going {S A : Type 0} (file : ℕ) (line : S → Reading S) (finish : S → Outcome ℕ A) (whole : Judged A) (text : Bytes) (at number : ℕ) (state : S) : Type 0 where
  pub most : ℕ
  pub is : whole ≡ read_lines file line finish most number state (drop at text)
  pub enough : length text ≤ most + at
  pub within : at ≤ length text
