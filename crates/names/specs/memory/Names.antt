-- What the code tells of lists of names.
use Rattle.std.specs.Prelude.{ℕ, suc, ◌≡◌, ◌<◌, List, [], ◌∷◌, true, false, cond, eqb, length, Option, Some, None}
use Rattle.demands.specs.Theory.{climbing, highest}

-- where a name stands first in a list; the list's length, where it does not
unfoldable pub index_in : ℕ → List ℕ → ℕ
index_in name [] = 0
index_in name (n ∷ ns) = cond (eqb n name) 0 (suc (index_in name ns))

-- where a name stands, if it does
abbrev pub ToldIndex : ℕ → List ℕ → Option ℕ → Type 0
ToldIndex name names (Some index) = (index < length names) × (index_in name names ≡ index)
ToldIndex name names None = index_in name names ≡ length names

-- the greatest name, if each is greater than those before it
abbrev pub ToldClimb : ℕ → List ℕ → Option ℕ → Type 0
ToldClimb top names (Some greatest) = (climbing top names ≡ true) × (highest top names ≡ greatest)
ToldClimb top names None = climbing top names ≡ false
