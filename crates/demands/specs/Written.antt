-- A derivation as it is written: its text read as the replay reads it, with no rule applied.
use Rattle.std.specs.Prelude.{ℕ, List, [], ◌∷◌, ◌++◌}
use Rattle.grammar.specs.Bytes.{Bytes}
use Rattle.grammar.specs.Outcome.{Outcome, done, mapped, ◌>>=◌}
use Rattle.grammar.specs.Reading as reading
use Rattle.grammar.specs.Lines.{Judged, on_line}
use Rattle.grammar.specs.Derivation.{RuleLine, Derivation, read_version, read_grounder}
use Rattle.demands.specs.Replay.{derivation_from}

-- a rule line more, and nothing done
abbrev pub noted : List RuleLine → RuleLine → Outcome ℕ (List RuleLine)
noted ls l = done (ls ++ (l ∷ []))

-- the grounder's name, on the second line, which the replay reads and forgets
abbrev pub grounder_of : Bytes → Judged Bytes
grounder_of s = on_line 3 2 (mapped (λ p. p.0) (reading.◌>>◌ read_version read_grounder s))

-- the derivation that a text is
unfoldable pub written_of : Bytes → Judged Derivation
written_of s = do
  R ← derivation_from noted [] s
  grounder ← grounder_of s
  done (record { grounder = grounder; lines = R.last; final = R.final })
