-- The variables' table: a name's index does not change any more once the name was put into the table, or found it full; what the table's
-- memory holds with a name more.
-- Assumes nothing.
use Prim.Native.Nat.{ℕ, suc, ◌+◌, ◌≤◌, ◌<◌, min}
use native.Mathlib.Omega.{arith}
use mathlib.Core.Path.{◌≡◌, refl, sym, ap, ◌∙◌}
use mathlib.Core.List.{List, [], ◌∷◌, ◌++◌}
use mathlib.Core.Bool.{Bool, true, false, not, cond, ◌||◌, or-true, false≢true}
use lib.Dec.{leb, ltb, leb-suc-suc}
use lib.ListN.{length, take}
use borrow.Author.Tests.{le-leb, lt-leb, lt-ltb, le-ltb, leb-true, leb-false, ltb-true, ltb-false}
use Rattle.std.specs.Prelude.{Option, Some, None, MatchOption}
use Rattle.std.specs.List.{list_all, position_or_len, position as first_place}
use Rattle.std.proofs.lemmas.List.{length-map, length-take, map-append, take_more_set}
use Rattle.std.proofs.lemmas.List.Sums.{prefix_len-le-length}
use Rattle.std.proofs.lemmas.List.Recursion.{is_position_or_len}
use Rattle.grammar.specs.Sizes.{name_size, variable_count}
use Rattle.grammar.specs.Bytes.{Bytes, same, member}
use Rattle.grammar.specs.Problem.{Name}
use Rattle.grammar.specs.Each.{Each}
use Rattle.grammar.proofs.Laws.{or_left, or_right, same_refl, member-append}
use Rattle.logic.specs.Limits.{names_short}
use Rattle.text.specs.declared.name.Name.{Name as Place}
use Rattle.terms.specs.declared.name_table.NameTable.{NameTable}
use Rattle.table.specs.memory.Table.{position, name_at}
use Rattle.terms.specs.memory.NameTable.{settled, extended, extended_by, index_in, names_of, names_in, HasAdded, NameListed, list_fits}

-- Places and members of a list.

module _ (x : Name) where
  pub position-within : (names : List Name) → position x names ≤ length names
  unfolding position
  position-within [] = omega arith
  position-within (y ∷ names) = pick (same x y) (position-within names)
    where
      pick : (b : Bool) → position x names ≤ length names → cond b 0 (suc (position x names)) ≤ suc (length names)
      pick true h = omega arith
      pick false h = omega arith

  pub member-position : (names : List Name) → member x names ≡ ltb (position x names) (length names)
  unfolding position
  member-position [] = refl
  member-position (y ∷ names) = pick (same x y) (member-position names)
    where
      pick : (b : Bool) → member x names ≡ ltb (position x names) (length names) → (b || member x names) ≡ ltb (cond b 0 (suc (position x names))) (suc (length names))
      pick true e = sym (lt-ltb 0 (suc (length names)) (omega arith))
      pick false e = e ∙ sym (leb-suc-suc (suc (position x names)) (length names))

  position-append : (names more : List Name) → position x (names ++ more) ≡ cond (member x names) (position x names) (length names + position x more)
  unfolding position
  position-append [] more = omega arith
  position-append (y ∷ names) more = pick (same x y) (member x names) (position-append names more)
    where
      pick : (b c : Bool) → position x (names ++ more) ≡ cond c (position x names) (length names + position x more)
          → cond b 0 (suc (position x (names ++ more))) ≡ cond (b || c) (cond b 0 (suc (position x names))) (suc (length names) + position x more)
      pick true c e = refl
      pick false true e = ap suc e
      pick false false e = omega arith

-- A name more.

module _ (names : List Name) (y : Name) where
  extended_there : settled names y ≡ true → extended names y ≡ names
  unfolding extended
  extended_there e = rw e

  extended_new : settled names y ≡ false → extended names y ≡ names ++ (y ∷ [])
  unfolding extended
  extended_new e = rw e

  pub extended_settles : settled (extended names y) y ≡ true
  extended_settles = pick (settled names y) refl
    where
      pick : (b : Bool) → settled names y ≡ b → settled (extended names y) y ≡ true
      pick true e = rw (extended_there e) e
      pick false e = rw (extended_new e, member-append y names (y ∷ []), same_refl y, or-true (member y names))

  -- a name that is settled stays so, and keeps its index
  module _ (x : Name) (h : settled names x ≡ true) where
    -- where another is not settled the table is not full, so the name is in it
    in_table : settled names y ≡ false → member x names ≡ true
    in_table e = pick (member x names) h
      where
        pick : (b : Bool) → (b || leb 65 (length names)) ≡ true → b ≡ true
        pick true k = refl
        pick false k = absurd (false≢true (sym (or_right (member y names) _ e) ∙ k))

    pub settled-extended : settled (extended names y) x ≡ true
    settled-extended = pick (settled names y) refl
      where
        pick : (b : Bool) → settled names y ≡ b → settled (extended names y) x ≡ true
        pick true e = rw (extended_there e) h
        pick false e = rw (extended_new e, member-append x names (y ∷ []), in_table e)

    pub index-extended : index_in (extended names y) x ≡ index_in names x
    index-extended = pick (settled names y) refl
      where
        pick : (b : Bool) → settled names y ≡ b → index_in (extended names y) x ≡ index_in names x
        pick true e = rw (extended_there e)
        pick false e = rw (extended_new e) (position-append x names (y ∷ []) ∙ rw (in_table e))

-- Names one after the other.

pub extended_by-append : (xs ys : List Name) (names : List Name) → extended_by names (xs ++ ys) ≡ extended_by (extended_by names xs) ys
unfolding extended_by
extended_by-append [] ys names = refl
extended_by-append (x ∷ xs) ys names = extended_by-append xs ys (extended names x)

module _ (x : Name) where
  pub settled-extended_by : (ys names : List Name) → settled names x ≡ true → settled (extended_by names ys) x ≡ true
  unfolding extended_by
  settled-extended_by [] names h = h
  settled-extended_by (y ∷ ys) names h = settled-extended_by ys (extended names y) (settled-extended names y x h)

  pub index-extended_by : (ys names : List Name) → settled names x ≡ true → index_in (extended_by names ys) x ≡ index_in names x
  unfolding extended_by
  index-extended_by [] names h = refl
  index-extended_by (y ∷ ys) names h = index-extended_by ys (extended names y) (settled-extended names y x h) ∙ index-extended names y x h

pub extended_by_settles : (xs names : List Name) → Each (λ x. settled (extended_by names xs) x ≡ true) xs
unfolding extended_by
extended_by_settles [] names = tt
extended_by_settles (x ∷ xs) names =
    (settled-extended_by x xs (extended names x) (extended_settles names x), extended_by_settles xs (extended names x))

-- The table in memory.

-- a name's place in a table, as the code looks for it
module _ (text : Bytes) (x : Name) where
  abbrev pub is_name : Place → Bool
  is_name place = same x (name_at text place)

  position_places : (places : List Place) → position x (names_of text places) ≡ position_or_len is_name places
  unfolding position
  position_places =
      is_position_or_len (λ places. position x (names_of text places)) is_name refl λ place places. pick (is_name place) (position x (names_of text places))
    where
      pick : (b : Bool) (n : ℕ) → cond b 0 (suc n) ≡ cond b 0 (1 + n)
      pick true n = refl
      pick false n = omega arith

  found : (places : List Place) (r : Option ℕ) → r ≡ first_place is_name places
      → MatchOption r (position x (names_of text places) ≡ length places) (λ i. (i ≡ position x (names_of text places)) × (i < length places))
  found places = rw (position_places places) (pick (position_or_len is_name places) (prefix_len-le-length (λ place. not (is_name place)) places))
    where
      pick : (n : ℕ) → n ≤ length places → (r : Option ℕ) → r ≡ cond (ltb n (length places)) (Some n) None
          → MatchOption r (n ≡ length places) (λ i. (i ≡ n) × (i < length places))
      pick n h (Some i) e = pick_some (ltb n (length places)) refl
        where
          pick_some : (b : Bool) → ltb n (length places) ≡ b → (i ≡ n) × (i < length places)
          pick_some true t = let k : Some i ≡ Some n = e ∙ rw t in let m : i ≡ n = cc in (m, omega (arith, ltb-true n (length places) t))
          pick_some false t = let k : Some i ≡ None = e ∙ rw t in cc
      pick n h None e = pick_none (ltb n (length places)) refl
        where
          pick_none : (b : Bool) → ltb n (length places) ≡ b → n ≡ length places
          pick_none true t = let k : None ≡ Some n = e ∙ rw t in cc
          pick_none false t = omega (arith, ltb-false n (length places) t)

module _ (text : Bytes) (table : NameTable) (whole : length table.names ≡ 65) where
  counted : length (take table.count table.names) ≡ min table.count 65
  counted = rw (length-take table.count table.names, whole)

  pub length-names_in : length (names_in text table) ≡ min table.count 65
  unfolding names_in
  length-names_in = rw (length-map (take table.count table.names) (name_at text)) counted

  pub found_in : (x : Name) (r : Option ℕ) → r ≡ first_place (is_name text x) (take table.count table.names)
      → MatchOption r (position x (names_in text table) ≡ min table.count 65) (λ i. (i ≡ position x (names_in text table)) × (i < min table.count 65))
  unfolding names_in
  found_in x r e = rw counted at (found text x (take table.count table.names) r e)

module _ (text : Bytes) (place : Place) (old : NameTable) (whole : length old.names ≡ 65) where
  abbrev x : Name
  x = name_at text place

  listed_same : (i : ℕ) → i ≤ 65 → i ≡ position x (names_in text old) → settled (names_in text old) x ≡ true → NameListed text x old old i
  listed_same i small e settles = record { names = sym (extended_there (names_in text old) x settles); is = e; small = small }

  pub listed_there : (i : ℕ) → i ≡ position x (names_in text old) → i < min old.count 65 → NameListed text x old old i
  listed_there i e h =
      listed_same i (omega arith) e
      (rw (
        member-position x (names_in text old),
        lt-ltb (position x (names_in text old)) (length (names_in text old)) (omega (arith, length-names_in text old whole)),
      ))

  -- it is stored behind the others, if there is room
  module _ (absent : position x (names_in text old) ≡ min old.count 65) (new : NameTable) (index : ℕ) (added : HasAdded place old new index) where
    names_new : old.count < 65 → names_in text new ≡ names_in text old ++ (x ∷ [])
    unfolding names_in
    names_new room =
        rw ((added.room room).0, (added.room room).1, take_more_set old.names old.count place (omega arith))
        (map-append (name_at text) (take old.count old.names) (place ∷ []))

    names_full : 65 ≤ old.count → names_in text new ≡ names_in text old
    unfolding names_in
    names_full full = rw ((added.full full).0, (added.full full).1)

    unsettled : old.count < 65 → settled (names_in text old) x ≡ false
    unsettled room =
        let long = length-names_in text old whole in
        rw (
          member-position x (names_in text old),
          le-ltb (position x (names_in text old)) (length (names_in text old)) (omega arith),
          lt-leb 65 (length (names_in text old)) (omega arith),
        )

    own : position x (x ∷ []) ≡ 0
    unfolding position
    own = rw (same_refl x)

    pub listed_new : NameListed text x old new index
    listed_new = pick (leb 65 old.count) refl
      where
        long : length (names_in text old) ≡ min old.count 65
        long = length-names_in text old whole

        pick : (b : Bool) → leb 65 old.count ≡ b → NameListed text x old new index
        pick true e =
            let full = leb-true 65 old.count e in
            record {
              names = names_full full ∙ sym (extended_there (names_in text old) x (rw (le-leb 65 (length (names_in text old)) (omega (arith, long))) (or-true (member x (names_in text old)))));
              is = rw (names_full full) (added.is ∙ sym absent);
              small = omega (arith, added.is);
            }
        pick false e =
            let room = leb-false 65 old.count e in
            record {
              names = names_new room ∙ sym (extended_new (names_in text old) x (unsettled room));
              is = rw (names_new room, position-append x (names_in text old) (x ∷ []), or_left (member x (names_in text old)) _ (unsettled room))
                  (omega (arith, long, added.is, own));
              small = omega (arith, added.is);
            }

-- The names' sizes.

short_places : (text : Bytes) (places : List Place) → names_short (names_of text places) ≡ list_all (λ place. leb (length (name_at text place)) name_size) places
short_places text [] = refl
short_places text (place ∷ places) = rw (short_places text places)

module _ (text : Bytes) (table : NameTable) (whole : length table.names ≡ 65) where
  pub fits_few : table.count ≤ 64 → list_fits (names_in text table) ≡ list_all (λ place. leb (length (name_at text place)) name_size) (take table.count table.names)
  unfolding variable_count names_in
  fits_few h =
      rw (le-leb (length (names_in text table)) 64 (omega (arith, length-names_in text table whole))) (short_places text (take table.count table.names))

  pub fits-many : 64 < table.count → list_fits (names_in text table) ≡ false
  unfolding variable_count
  fits-many h = rw (lt-leb (length (names_in text table)) 64 (omega (arith, length-names_in text table whole)))
