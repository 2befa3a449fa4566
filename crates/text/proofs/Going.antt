-- A text read line by line, from a place on: what the whole text comes to, after one line more, at a refusal, and at its end.
-- Assumes nothing.
use Prim.Native.Nat.{ℕ, ◌+◌, ◌-◌, ◌≤◌, ◌<◌}
use native.Mathlib.Omega.{arith}
use mathlib.Core.Path.{◌≡◌, refl, ◌∙◌}
use mathlib.Core.Bool.{Bool, true, false}
use borrow.Author.Tests.{ltb-true, ltb-false}
use lib.Dec.{ltb}
use lib.ListN.{length, drop, length-drop, drop_of_length-le}
use Rattle.grammar.specs.Bytes.{Bytes}
use Rattle.grammar.specs.Outcome.{Outcome, done, refused, ◌>>=◌}
use Rattle.grammar.specs.Reading.{Reading}
use Rattle.grammar.specs.Lines.{Judged, refusal, on_line, read_lines, read_text}
use Rattle.grammar.proofs.Lines.{read_lines-step, read_lines-end}
use Rattle.text.specs.memory.Going.{Going}

module _ {S A : Type 0} (file : ℕ) (line : S → Reading S) (finish : S → Outcome ℕ A) (text : Bytes) where
  pub going_first : (state : S) → Going file line finish (read_text file line finish state text) text 0 1 state
  going_first state = record { most = length text; is = refl; enough = omega arith; within = omega arith }

  module _ (whole : Judged A) (at number : ℕ) (state : S) (going : Going file line finish whole text at number state) where
    module _ (more : at < length text) where
      step : whole ≡ (on_line file number (line state (drop at text)) >>= λ r. read_lines file line finish (going.most - 1) (number + 1) r.0 r.1)
      step =
          going.is
          ∙ read_lines-step file line finish going.most number state (drop at text) (omega (arith, going.enough)) (omega (arith, length-drop at text))

      pub going_refused : (n : ℕ) → line state (drop at text) ≡ refused n → whole ≡ refused (refusal n file number)
      going_refused n e = step ∙ rw e

      pub going_on : (next : ℕ) (later : S) → line state (drop at text) ≡ done (later, drop next text) → at < next → next ≤ length text
          → Going file line finish whole text next (number + 1) later
      going_on next later e h l = record { most = going.most - 1; is = step ∙ rw e; enough = omega (arith, going.enough); within = l }

    pub going_end : length text ≤ at → whole ≡ on_line file number (finish state)
    going_end h = going.is ∙ rw (drop_of_length-le text h, read_lines-end file line finish going.most number state)

    -- a line that is refused with what the end of the text would be
    pub going_stuck : (n : ℕ) → line state (drop at text) ≡ refused n → finish state ≡ refused n → whole ≡ refused (refusal n file number)
    going_stuck n e f = pick (ltb at (length text)) refl
      where
        pick : (b : Bool) → ltb at (length text) ≡ b → whole ≡ refused (refusal n file number)
        pick true h = going_refused (ltb-true at (length text) h) n e
        pick false h = going_end (ltb-false at (length text) h) ∙ rw f
