-- Lines: a text read line by line, a line's place, the refused line.
use Rattle.std.specs.Prelude.{ℕ, suc, zero, [], ◌∷◌, Bool, cond, eqb, length, take, drop}
use Rattle.grammar.specs.Bytes.{Bytes}
use Rattle.grammar.specs.Outcome.{Outcome, done, refused, ◌>>=◌}
use Rattle.grammar.specs.Reading.{Reading}

-- the number that the desk sees, the file (1 problem, 2 theory, 3 derivation, 4 claim, 0 none) and the line
pub record Refusal : Type 0 where
  pub number : ℕ
  pub file : ℕ
  pub line : ℕ

abbrev pub refusal : ℕ → ℕ → ℕ → Refusal
refusal number file line = record { number = number; file = file; line = line }

abbrev pub Judged : Type 0 → Type 0
Judged A = Outcome Refusal A

-- a number refused with at a line of a file
abbrev pub on_line : {A : Type 0} → ℕ → ℕ → Outcome ℕ A → Judged A
on_line file line (done a) = done a
on_line file line (refused number) = refused (refusal number file line)

-- line after line, each read and judged before the next is looked at; a missing line is the one after the last
module _ {S A : Type 0} (file : ℕ) (line : S → Reading S) (finish : S → Outcome ℕ A) where
  unfoldable pub read_lines : ℕ → ℕ → S → Bytes → Judged A
  read_lines zero k state s = on_line file k (finish state)
  read_lines (suc most) k state [] = on_line file k (finish state)
  read_lines (suc most) k state (b ∷ s) = on_line file k (line state (b ∷ s)) >>= λ p. read_lines most (suc k) p.0 p.1

  -- a whole text; every line takes a byte, so the text's length is bound enough
  abbrev pub read_text : S → Bytes → Judged A
  read_text state s = read_lines (length s) 1 state s

abbrev pub is_lf : ℕ → Bool
is_lf b = eqb b 10

-- the bytes before the next LF, or to the end
abbrev pub line_size : Bytes → ℕ
line_size [] = 0
line_size (b ∷ s) = cond (is_lf b) 0 (suc (line_size s))

-- the bytes that some lines take with their LFs; to the end, where there are no more
abbrev pub lines_size : Bytes → ℕ → ℕ
lines_size [] lines = 0
lines_size (b ∷ s) zero = 0
lines_size (b ∷ s) (suc lines) = suc (lines_size s (cond (is_lf b) lines (suc lines)))

-- where a line begins, counted from 1; where there is no such line, the end
abbrev pub line_start : Bytes → ℕ → ℕ
line_start s zero = length s
line_start s (suc before) = lines_size s before

-- a refused line, without its LF
abbrev pub refused_line : Bytes → ℕ → Bytes
refused_line s line = take (line_size (drop (line_start s line) s)) (drop (line_start s line) s)
