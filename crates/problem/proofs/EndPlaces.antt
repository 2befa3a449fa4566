-- The end of a line at a place of a text.
-- Assumes nothing.
use Prim.Native.Nat.{ℕ, ◌+◌}
use native.Mathlib.Omega.{arith}
use mathlib.Core.Path.{◌≡◌}
use lib.ListN.{drop}
use Rattle.grammar.specs.Bytes.{Bytes, bytes, next}
use Rattle.grammar.specs.Reading.{word}
use Rattle.text.specs.memory.Found.{Refused}
use Rattle.text.specs.memory.Told.{Ends}
use Rattle.text.proofs.Found.{found_word, refused-word}
use Rattle.text.proofs.FoundBytes.{byte_found, byte_missing}

module _ (text : Bytes) (at : ℕ) where
  pub line_ended : next (drop at text) ≡ 10 → Ends (word 3 (bytes "\n")) text at (at + 1)
  line_ended e = record { thing = tt; found = found_word text at 3 (bytes "\n") (byte_found text at 10 (omega arith) e) }

  pub line_going : (next (drop at text) ≡ 10 → ⊥) → Refused 3 (word 3 (bytes "\n")) text at
  line_going h = refused-word text at 3 (bytes "\n") (byte_missing text at 10 h)
