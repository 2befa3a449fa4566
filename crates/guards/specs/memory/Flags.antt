-- Closed formulas in memory: a flag for each variable that is bound.
use Rattle.std.specs.Prelude.{ℕ, List, [], ◌∷◌, Bool, false, get_or}
use Rattle.grammar.specs.Problem.{Name}
use Rattle.logic.specs.Names.{terms_closed, closed, all_closed}
use Rattle.words.specs.memory.Stored.{index_name, stored, terms_at, parts_by}

-- the test of variables that flags stand for
abbrev pub flagged : List Bool → Name → Bool
flagged flags [] = false
flagged flags (i ∷ []) = get_or flags i false
flagged flags (i ∷ j ∷ is) = false

unfoldable pub closed_at : ℕ → List Bool → List ℕ → Bool
closed_at levels flags s = closed (flagged flags) (stored levels s)

unfoldable pub all_closed_at : ℕ → List Bool → ℕ → List ℕ → Bool
all_closed_at levels flags n s = all_closed (flagged flags) (parts_by (stored levels) n s)

unfoldable pub terms_closed_at : List Bool → ℕ → List ℕ → Bool
terms_closed_at flags n s = terms_closed (flagged flags) (terms_at index_name n s)
