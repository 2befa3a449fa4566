-- The jobs as one, with a claim to compare or without: what a promise of both is proved by.
use Rattle.std.specs.Prelude.{ℕ, List, Bool, true, cond}
use Rattle.grammar.specs.Bytes.{Bytes, same}
use Rattle.grammar.specs.Outcome.{done, provided, ◌>>=◌, ◌>>◌}
use Rattle.grammar.specs.Lines.{Judged, refusal}
use Rattle.demands.specs.Ground.{Ground, ground_text}
use Rattle.demands.specs.Answer.{enough, short, room, difference_line, grounded}

-- a ground text against the claim, if there is one to compare with
abbrev pub agreed : Bool → Bytes → Bytes → Bool
agreed compare claim text = cond compare (same claim text) true

-- 18, and 19 if there is a claim to compare with
abbrev pub concluded_of : Bool → Bytes → List ℕ → Ground → Judged Ground
concluded_of compare claim output G =
    room output G
    >> (provided (agreed compare claim (ground_text G)) (refusal 19 4 (difference_line claim (ground_text G)))
    >> done G)

-- from the problem on
abbrev pub judged_of : Bool → Bytes → Bytes → Bytes → Bytes → List ℕ → Judged Ground
judged_of compare problem theory derivation claim output = grounded problem theory derivation >>= concluded_of compare claim output

-- from the texts' lengths on
abbrev pub short_of : Bool → Bytes → Bytes → Bytes → Bytes → List ℕ → Judged Ground
short_of compare problem theory derivation claim output =
    short problem >> (short theory >> (short derivation >> (short claim >> judged_of compare problem theory derivation claim output)))

abbrev pub answered_of : Bool → Bytes → Bytes → Bytes → Bytes → List ℕ → List ℕ → Judged Ground
answered_of compare problem theory derivation claim output work = enough work >> short_of compare problem theory derivation claim output
