-- The problem that a table of places in a text, and numbers in lent memory, stand for.
use Rattle.std.specs.Prelude.{ℕ, suc, zero, ◌+◌, ◌-◌, ◌*◌, ◌/◌, ◌%◌, ◌≡◌, List, [], ◌∷◌, map, Bool, false, Option, cond, ◌||◌, eqb, ltb, length, get_or, take, drop, set}
use Rattle.std.specs.Bool.{then_some}
use Rattle.grammar.specs.Bytes.{Bytes, same}
use Rattle.grammar.specs.Problem.{Name, Row, Predicate, Input, Problem}
use Rattle.text.specs.declared.name.Name.{Name as Place}
use Rattle.table.specs.declared.table.Predicate.{Predicate as Entry}
use Rattle.table.specs.declared.table.Table.{Table}

-- one number for a row, in base 256
unfoldable pub packed : Row → ℕ
packed [] = 0
packed (v ∷ vs) = v + 256 * packed vs

-- what an element adds to a row's number, at its place
unfoldable pub placed : ℕ → ℕ → ℕ
placed zero v = v
placed (suc place) v = 256 * placed place v

-- the row of some length that a number stands for; what a number has beyond that length is one element more
unfoldable pub unpacked : ℕ → ℕ → Row
unpacked zero zero = []
unpacked zero (suc n) = suc n ∷ []
unpacked (suc arity) n = n % 256 ∷ unpacked arity (n / 256)

-- a row's elements read as digits, the first the highest, after those that made a rank
unfoldable pub rank_after : ℕ → Row → ℕ
rank_after rank [] = rank
rank_after rank (v ∷ vs) = rank_after (rank * 256 + v) vs

abbrev pub ranked : Row → ℕ
ranked row = rank_after 0 row

-- a number is one of a list
unfoldable pub among : ℕ → List ℕ → Bool
among key [] = false
among key (n ∷ ns) = eqb n key || among key ns

-- where a name stands first in a list; the list's length, where it does not
unfoldable pub position : Name → List Name → ℕ
position p [] = 0
position p (q ∷ qs) = cond (same p q) 0 (suc (position p qs))

-- what belongs to so many indices, from one on
unfoldable pub indexed : {A : Type 0} → (ℕ → A) → ℕ → ℕ → List A
indexed f i zero = []
indexed f i (suc count) = f i ∷ indexed f (suc i) count

-- what stands where there is no predicate
abbrev pub nothing : Entry
nothing = record { name = record { start = 0; size = 0 }; arity = 0; first = 0; rows = 0 }

-- what a table has at an index
abbrev pub entry : Table → ℕ → Entry
entry table i = get_or table.predicates i nothing

module _ (text : Bytes) where
  -- a name by its place in a text
  abbrev pub name_at : Place → Name
  name_at place = take place.size (drop place.start text)

  module _ (table : Table) where
    abbrev pub table_name : ℕ → Name
    table_name i = name_at (entry table i).name

    abbrev pub table_names : List Name
    table_names = indexed table_name 0 table.count

    -- the index of the predicate that has a name, if there is one
    abbrev pub found : Name → Option ℕ
    found p = then_some (ltb (position p table_names) table.count) (position p table_names)

    abbrev pub table_predicate : ℕ → Predicate
    table_predicate i = record { name = table_name i; arity = (entry table i).arity }

-- the numbers of an input's rows
abbrev pub table_numbers : Table → List ℕ → ℕ → List ℕ
table_numbers table rows i = take (entry table i).rows (drop (entry table i).first rows)

module _ (text : Bytes) (table : Table) (rows : List ℕ) where
  abbrev pub table_input : ℕ → Input
  table_input i = record { predicate = table_predicate text table i; rows = map (unpacked (entry table i).arity) (table_numbers table rows i) }

  unfoldable pub problem_in : Problem
  problem_in =
      record {
        domain = table.domain;
        inputs = indexed table_input 0 table.inputs;
        outputs = indexed (table_predicate text table) table.inputs (table.count - table.inputs);
      }

-- there is room for every predicate
abbrev pub Sized : Table → Type 0
Sized table = length table.predicates ≡ 32

-- a domain of so many elements
abbrev pub with_domain : Table → ℕ → Table
with_domain table n = record { domain = n; inputs = table.inputs; count = table.count; predicates = table.predicates }

-- what is entered behind the predicates
abbrev pub with_entry : Table → Entry → Table
with_entry table e = record { domain = table.domain; inputs = table.inputs; count = table.count; predicates = set table.predicates table.count e }

-- a name and an arity entered there
abbrev pub with_name : Table → Place → ℕ → Table
with_name table name arity =
    with_entry table (record { name = name; arity = arity; first = (entry table table.count).first; rows = (entry table table.count).rows })

-- and the place and the count of its rows
abbrev pub with_rows : Table → ℕ → ℕ → Table
with_rows table first rows =
    with_entry table (record { name = (entry table table.count).name; arity = (entry table table.count).arity; first = first; rows = rows })

-- so many inputs, and so many predicates in all
abbrev pub counted : Table → ℕ → ℕ → Table
counted table inputs count = record { domain = table.domain; inputs = inputs; count = count; predicates = table.predicates }
