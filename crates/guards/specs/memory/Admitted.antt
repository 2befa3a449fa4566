-- The guard of the quantifier at the head of a list of words: whether no other variable is free in it, and which elements it admits.
use Rattle.std.specs.Prelude.{ℕ, ◌/◌, ◌%◌, List, map, Bool, true, false, get_or, drop, set, replicate}
use Rattle.logic.specs.Meaning.{elements_to}
use Rattle.table.specs.declared.table.Table.{Table}
use Rattle.guards.specs.memory.Flags.{closed_at}
use Rattle.guards.specs.memory.Values.{true_at}

-- number 14's test
unfoldable pub guard_closed : ℕ → List ℕ → Bool
guard_closed levels s = closed_at levels (set (replicate 64 false) (get_or s 0 0 / 16 % 64) true) (drop 1 s)

module _ (table : Table) (rows : List ℕ) where
  unfoldable pub guard_admits : ℕ → List ℕ → ℕ → Bool
  guard_admits levels s v = true_at table rows levels (set (replicate 64 0) (get_or s 0 0 / 16 % 64) v) (drop 1 s)

  -- a flag for each element
  abbrev pub admitted_flags : ℕ → List ℕ → List Bool
  admitted_flags levels s = map (guard_admits levels s) (elements_to table.domain)
