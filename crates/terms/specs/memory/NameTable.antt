-- The variables' table: the names of a theory's variables in the order in which they first come, and the memory that holds them.
use Rattle.std.specs.Prelude.{ℕ, ◌+◌, ◌≤◌, ◌<◌, ◌≡◌, List, [], ◌∷◌, ◌++◌, map, Bool, cond, ◌&&◌, ◌||◌, leb, min, length, take, set}
use Rattle.grammar.specs.Sizes.{variable_count}
use Rattle.grammar.specs.Bytes.{Bytes, member}
use Rattle.grammar.specs.Problem.{Name}
use Rattle.logic.specs.Limits.{names_short}
use Rattle.table.specs.memory.Table.{position, name_at}
use Rattle.text.specs.declared.name.Name.{Name as Place}
use Rattle.terms.specs.declared.name_table.NameTable.{NameTable}

-- a name that is in the table, or finds it full: its index does not change any more
abbrev pub settled : List Name → Name → Bool
settled names x = member x names || leb 65 (length names)

-- with a name more, unless it is there or there is no room
unfoldable pub extended : List Name → Name → List Name
extended names x = cond (settled names x) names (names ++ (x ∷ []))

-- with names one after the other
unfoldable pub extended_by : List Name → List Name → List Name
extended_by names [] = names
extended_by names (x ∷ xs) = extended_by (extended names x) xs

-- the index of a name; that of the next, where it is not in the table
abbrev pub index_in : List Name → Name → ℕ
index_in names x = position x names

-- the names at places of a text
abbrev pub names_of : Bytes → List Place → List Name
names_of text places = map (name_at text) places

-- the names that the code's table has
unfoldable pub names_in : Bytes → NameTable → List Name
names_in text table = names_of text (take table.count table.names)

-- a name's place is behind the others, if there is room, and its index is told
pub record HasAdded (place : Place) (old new : NameTable) (index : ℕ) : Type 0 where
  pub is : index ≡ min old.count 65
  pub room : old.count < 65 → (new.names ≡ set old.names old.count place) × (new.count ≡ old.count + 1)
  pub full : 65 ≤ old.count → (new.names ≡ old.names) × (new.count ≡ old.count)

-- a name is in the table, if there is room, and its index is told
pub record NameListed (text : Bytes) (x : Name) (old new : NameTable) (index : ℕ) : Type 0 where
  pub names : names_in text new ≡ extended (names_in text old) x
  pub is : index ≡ index_in (names_in text new) x
  pub small : index ≤ 65

-- as many and as short as a theory's variables may be
abbrev pub list_fits : List Name → Bool
list_fits names = leb (length names) variable_count && names_short names
