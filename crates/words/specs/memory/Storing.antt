-- Words stored from a place on: nothing is stored past the end of memory, and the count goes on.
use Rattle.std.specs.Prelude.{ℕ, ◌+◌, ◌-◌, ◌^◌, ◌≤◌, ◌<◌, ◌≡◌, List, ◌++◌, length, take}
use Rattle.std.proofs.Math.Seq.{slice}
use Rattle.std.proofs.lemmas.List.Edits.{sets}

-- words are stored from a place on, and the place after them is told
pub record Stores (old : List ℕ) (to : ℕ) (new : List ℕ) (next : ℕ) (work : List ℕ) : Type 0 where
  pub holds : work ≡ sets old to new
  pub ends : next ≡ to + length new

-- a range of memory, and a place to copy it to, in which there need be no room
pub record Copyable (work : List ℕ) (at end to : ℕ) : Type 0 where
  pub ordered : at ≤ end
  pub within : end ≤ length work
  pub near : to + (end - at) < 2 ^ 64

-- what is made of a range is stored behind it
pub record Behind (work : List ℕ) (at end to : ℕ) : Type 0 where
  pub ordered : at ≤ end
  pub within : end ≤ length work
  pub apart : end ≤ to
  pub long : length work ≤ 16384
  pub near : to < 4294967296

-- the theory up to `full`, with other words for those from `at` to `end`
abbrev pub spliced : List ℕ → ℕ → ℕ → ℕ → List ℕ → List ℕ
spliced work at end full new = slice 0 at work ++ (new ++ slice end full work)

-- a formula of the theory stands from `at` to `end`; the next theory is made behind the theory
pub record Placed (work : List ℕ) (at end full to : ℕ) : Type 0 where
  pub ordered : at ≤ end
  pub ends : end ≤ full
  pub apart : full ≤ to
  pub within : to ≤ length work
  pub long : length work ≤ 16384

-- the next theory is stored, and its length is told
pub record Rewritten (old : List ℕ) (at end full to : ℕ) (new : List ℕ) (total : ℕ) (work : List ℕ) : Type 0 where
  pub holds : work ≡ sets old to (spliced old at end full new)
  pub sized : total ≡ length (spliced old at end full new)

-- a place of a theory, behind which there is room for the next theory
pub record Roomy (work : List ℕ) (at full next : ℕ) : Type 0 where
  pub here : at < full
  pub apart : full ≤ next
  pub room : next + next ≤ length work
  pub long : length work ≤ 16384

-- a list stands at the front, if there is room for it
pub record Fronted (made : List ℕ) (most total : ℕ) (work : List ℕ) : Type 0 where
  pub sized : total ≡ length made
  pub stands : total ≤ most → take total work ≡ made
