-- The value of a formula in memory, in the structure that a table and its rows are, where each variable has a value by its index.
use Rattle.std.specs.Prelude.{ℕ, ◌%◌, List, [], ◌∷◌, map, Bool, true, false, not, get_or, set}
use Rattle.logic.specs.Meaning.{Structure, Environment, values_of, join_all, guarded, count_from, holds, truths}
use Rattle.table.specs.memory.Table.{packed, among, table_numbers}
use Rattle.table.specs.declared.table.Table.{Table}
use Rattle.words.specs.memory.Stored.{index_name, stored, after_first, side_of, terms_at, parts_by}
use Rattle.words.specs.declared.word.Sign.{Sign}
use Rattle.words.specs.declared.word.Sign.TheVariants.{Negation, Implies, ImpliedBy, Equivalent, Junction}

-- the environment that a list of values is
abbrev pub valued : List ℕ → Environment
valued values [] = 0
valued values (i ∷ []) = get_or values i 0
valued values (i ∷ j ∷ is) = 0

-- the first part's value settles a connective of one part or two
abbrev pub settled_first : Sign → Bool → Bool
settled_first Negation first = true
settled_first Implies first = not first
settled_first ImpliedBy first = first
settled_first Equivalent first = false
settled_first (Junction every) first = false

module _ (table : Table) (rows : List ℕ) where
  -- by the index that a predicate's name is
  abbrev pub table_structure : Structure
  table_structure = record { domain = table.domain; relation = λ p row. among (packed row) (table_numbers table rows (get_or p 0 0)) }

  unfoldable pub atom_at : List ℕ → ℕ → ℕ → List ℕ → Bool
  atom_at values predicate terms s = table_structure.relation (index_name (predicate % 32)) (values_of (valued values) (terms_at index_name (terms % 4) s))

  unfoldable pub true_at : ℕ → List ℕ → List ℕ → Bool
  true_at levels values s = holds table_structure (valued values) (stored levels s)

  unfoldable pub truths_at : ℕ → List ℕ → ℕ → List ℕ → List Bool
  truths_at levels values n s = truths table_structure (valued values) (parts_by (stored levels) n s)

  -- guard and body at one element
  unfoldable pub element_at : ℕ → List ℕ → Bool → List ℕ → Bool
  element_at levels values every s = guarded (side_of every) (true_at levels values s) (true_at levels values (after_first s))

  -- at each of so many elements, from one on
  unfoldable pub each_at : ℕ → List ℕ → Bool → ℕ → List ℕ → ℕ → ℕ → Bool
  each_at levels values every x s v n = join_all (side_of every) (map (λ u. element_at levels (set values (x % 64) u) every s) (count_from v n))
