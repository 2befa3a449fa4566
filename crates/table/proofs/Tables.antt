-- What a table stands for: a name's place among the predicates, and a number among those of an input's rows.
-- Assumes nothing.
use Prim.Native.Nat.{ℕ, suc, zero, ◌+◌, ◌-◌, ◌≤◌, ◌<◌}
use native.Mathlib.Numerals.{add-one, sub-one}
use native.Mathlib.Omega.{arith}
use native.Mathlib.Decide.{dec_lt}
use Rattle.std.specs.Prelude.{Some, None}
use Rattle.std.specs.List.{list_any}
use Rattle.std.specs.Option.{unwrap_or}
use native.Mathlib.Nat.{zero-add, add-zero, add-suc, suc-add}
use mathlib.Core.Path.{◌≡◌, refl, sym, ap, ap₂, ◌∙◌}
use mathlib.Core.List.{List, [], ◌∷◌, ◌++◌, map}
use mathlib.Core.Bool.{Bool, true, false, cond, ◌&&◌, ◌||◌, or-false, or_assoc}
use lib.Dec.{eqb, leb, ltb, leb-suc-suc}
use lib.ListN.{length}
use borrow.Author.Tests.{lt-ltb, le-ltb, lt-leb, le-leb, ltb-true, ltb-false}
use Rattle.grammar.specs.Bytes.{Bytes, same, member}
use Rattle.grammar.specs.Problem.{Name, Row, Predicate, Problem, input_predicates, predicates, named, declared, is_input, is_output, rows_of, given}
use Rattle.grammar.specs.Valid.{Valid, occurrences}
use Rattle.grammar.proofs.Problem.{is_input-not-is_output}
use Rattle.table.specs.declared.table.Table.{Table}
use Rattle.table.specs.memory.Table.{among, position, indexed, entry, found, table_name, table_names, table_predicate, table_numbers, table_input, problem_in, packed}
use Rattle.table.proofs.Packing.{Digits, among-member}

-- A number among others, by the library's word for it.
pub any-among : (key : ℕ) (ns : List ℕ) → list_any (λ n. eqb n key) ns ≡ among key ns
unfolding among
any-among key [] = refl
any-among key (n ∷ ns) = ap (◌||◌ (eqb n key)) (any-among key ns)

-- The index of the predicate that has a name, by the place of the name among theirs.
module _ (text : Bytes) (table : Table) (p : Name) where
  pub found_here : (i : ℕ) → position p (table_names text table) ≡ i → i < table.count → Some i ≡ found text table p
  found_here i e h = rw (e, lt-ltb i table.count h)

  pub found-none : position p (table_names text table) ≡ table.count → None ≡ found text table p
  found-none e = rw (e, le-ltb table.count table.count (omega arith))

  -- or their count
  pub found_or_count : position p (table_names text table) ≤ table.count → unwrap_or (found text table p) table.count ≡ position p (table_names text table)
  found_or_count h = pick (dec_lt (position p (table_names text table)) table.count)
    where
      pick : Dec (position p (table_names text table) < table.count) → unwrap_or (found text table p) table.count ≡ position p (table_names text table)
      pick (yes k) = rw (lt-ltb (position p (table_names text table)) table.count k)
      pick (no k) = rw (le-ltb (position p (table_names text table)) table.count (omega arith)) (omega (arith, h))

-- A name's place among those that belong to the indices from one on.

module _ (p : Name) (f : ℕ → Name) (i : ℕ) where
  pub position-none : (n : ℕ) → n ≡ 0 → position p (indexed f i n) ≡ 0
  unfolding position indexed
  position-none n e = rw e

  pub position_here : (n : ℕ) → 0 < n → same p (f i) ≡ true → position p (indexed f i n) ≡ 0
  unfolding position indexed
  position_here zero h e = absurd (omega arith)
  position_here (suc n) h e = rw e

  pub position-next : (n : ℕ) → 0 < n → same p (f i) ≡ false → position p (indexed f i n) ≡ 1 + position p (indexed f (i + 1) (n - 1))
  unfolding position indexed
  position-next zero h e = absurd (omega arith)
  position-next (suc n) h e = rw (e, add-one i, sub-one (suc n)) (omega arith)

-- What belongs to indices.

module _ {A : Type 0} (f : ℕ → A) where
  pub length-indexed : (n i : ℕ) → length (indexed f i n) ≡ n
  unfolding indexed
  length-indexed zero i = refl
  length-indexed (suc n) i = ap suc (length-indexed n (suc i))

  pub indexed-append : (n m i : ℕ) → indexed f i n ++ indexed f (i + n) m ≡ indexed f i (n + m)
  unfolding indexed
  indexed-append zero m i = rw (add-zero i, zero-add m)
  indexed-append (suc n) m i = rw (add-suc i n, ← suc-add i n, suc-add n m, indexed-append n m (suc i))

  pub map-indexed : {B : Type 0} (g : A → B) (n i : ℕ) → map g (indexed f i n) ≡ indexed (λ k. g (f k)) i n
  unfolding indexed
  map-indexed g zero i = refl
  map-indexed g (suc n) i = ap (λ t. g (f i) ∷ t) (map-indexed g n (suc i))

  -- the same at each index
  pub indexed_agree : (g : ℕ → A) (n i : ℕ) → ((k : ℕ) → i ≤ k → k < i + n → f k ≡ g k) → indexed f i n ≡ indexed g i n
  unfolding indexed
  indexed_agree g zero i h = refl
  indexed_agree g (suc n) i h =
      ap₂ (λ a t. a ∷ t) (h i (omega arith) (omega arith)) (indexed_agree g n (suc i) (λ k l m. h k (omega arith) (omega arith)))

-- A name among those that belong to indices.

module _ (p : Name) (f : ℕ → Name) where
  pub position-most : (n i : ℕ) → position p (indexed f i n) ≤ n
  unfolding position indexed
  position-most zero i = omega arith
  position-most (suc n) i = pick (same p (f i)) (position-most n (suc i))
    where
      pick : (b : Bool) → position p (indexed f (suc i) n) ≤ n → cond b 0 (suc (position p (indexed f (suc i) n))) ≤ suc n
      pick true h = omega arith
      pick false h = omega arith

  -- those behind make no difference to whether it is one of the first
  position_first : (n m i : ℕ) → ltb (position p (indexed f i (n + m))) n ≡ ltb (position p (indexed f i n)) n
  unfolding position indexed
  position_first zero m i = le-ltb (position p (indexed f i (0 + m))) 0 (omega arith)
  position_first (suc n) m i = rw (suc-add n m) (pick (same p (f i)) (position_first n m (suc i)))
    where
      pick : (b : Bool) → ltb (position p (indexed f (suc i) (n + m))) n ≡ ltb (position p (indexed f (suc i) n)) n
          → ltb (cond b 0 (suc (position p (indexed f (suc i) (n + m))))) (suc n) ≡ ltb (cond b 0 (suc (position p (indexed f (suc i) n)))) (suc n)
      pick true ih = refl
      pick false ih = leb-suc-suc _ n ∙ ih ∙ sym (leb-suc-suc _ n)

  -- nor to where, if it is
  position_prefix : (n m i : ℕ) → position p (indexed f i (n + m)) < n → position p (indexed f i n) ≡ position p (indexed f i (n + m))
  unfolding position indexed
  position_prefix zero m i h = absurd (omega arith)
  position_prefix (suc n) m i h = rw (suc-add n m) (pick (same p (f i)) (rw (suc-add n m) at h) (position_prefix n m (suc i)))
    where
      pick : (b : Bool) → cond b 0 (suc (position p (indexed f (suc i) (n + m)))) < suc n
          → (position p (indexed f (suc i) (n + m)) < n → position p (indexed f (suc i) n) ≡ position p (indexed f (suc i) (n + m)))
          → cond b 0 (suc (position p (indexed f (suc i) n))) ≡ cond b 0 (suc (position p (indexed f (suc i) (n + m))))
      pick true k ih = refl
      pick false k ih = ap suc (ih (omega arith))

named-append : (qs others : List Predicate) (p : Name) → named (qs ++ others) p ≡ (named qs p || named others p)
named-append [] others p = refl
named-append (q ∷ qs) others p = rw (named-append qs others p) (sym (or_assoc (same p q.name) (named qs p) (named others p)))

-- a name that is not there has no arity
declared-absent : (qs : List Predicate) (p : Name) (arity : ℕ) → occurrences qs p ≡ 0 → declared qs p arity ≡ false
declared-absent [] p arity h = refl
declared-absent (q ∷ qs) p arity h = pick (same p q.name) h (declared-absent qs p arity)
  where
    pick : (b : Bool) → cond b 1 0 + occurrences qs p ≡ 0 → (occurrences qs p ≡ 0 → declared qs p arity ≡ false)
        → ((b && eqb q.arity arity) || declared qs p arity) ≡ false
    pick true k ih = absurd (omega arith)
    pick false k ih = ih (omega arith)

module _ (text : Bytes) (table : Table) (p : Name) where
  -- where the name stands among those from an index on
  abbrev place : ℕ → ℕ → ℕ
  place i n = position p (indexed (table_name text table) i n)

  pub named-indexed : (n i : ℕ) → named (indexed (table_predicate text table) i n) p ≡ ltb (place i n) n
  unfolding position indexed
  named-indexed zero i = refl
  named-indexed (suc n) i = pick (same p (table_name text table i)) (named-indexed n (suc i))
    where
      pick : (b : Bool) → named (indexed (table_predicate text table) (suc i) n) p ≡ ltb (place (suc i) n) n
          → (b || named (indexed (table_predicate text table) (suc i) n) p) ≡ ltb (cond b 0 (suc (place (suc i) n))) (suc n)
      pick true ih = sym (lt-ltb 0 (suc n) (omega arith))
      pick false ih = ih ∙ sym (leb-suc-suc _ n)

  -- a name that is there once has the arity of the first predicate that has it
  declared-indexed : (arity n i : ℕ) → occurrences (indexed (table_predicate text table) i n) p ≤ 1
      → declared (indexed (table_predicate text table) i n) p arity ≡ (ltb (place i n) n && eqb (entry table (i + place i n)).arity arity)
  unfolding position indexed
  declared-indexed arity zero i once = refl
  declared-indexed arity (suc n) i once = pick (same p (table_name text table i)) once (declared-indexed arity n (suc i))
    where
      others : List Predicate
      others = indexed (table_predicate text table) (suc i) n

      has : ℕ → Bool
      has k = eqb (entry table k).arity arity

      pick : (b : Bool) → cond b 1 0 + occurrences others p ≤ 1
          → (occurrences others p ≤ 1 → declared others p arity ≡ (ltb (place (suc i) n) n && has (suc i + place (suc i) n)))
          → ((b && has i) || declared others p arity) ≡ (ltb (cond b 0 (suc (place (suc i) n))) (suc n) && has (i + cond b 0 (suc (place (suc i) n))))
      pick true h ih = rw (declared-absent others p arity (omega arith), add-zero i, lt-ltb 0 (suc n) (omega arith)) (or-false (has i))
      pick false h ih = ih (omega arith) ∙ ap₂ ◌&&◌ (sym (leb-suc-suc _ n)) (ap has (omega arith))

  rows_of-indexed : (rows : List ℕ) (n i : ℕ) → place i n < n → rows_of (indexed (table_input text table rows) i n) p ≡ (table_input text table rows (i + place i n)).rows
  unfolding position indexed
  rows_of-indexed rows zero i h = absurd (omega arith)
  rows_of-indexed rows (suc n) i h = pick (same p (table_name text table i)) h (rows_of-indexed rows n (suc i))
    where
      held : ℕ → List Row
      held k = (table_input text table rows k).rows

      pick : (b : Bool) → cond b 0 (suc (place (suc i) n)) < suc n
          → (place (suc i) n < n → rows_of (indexed (table_input text table rows) (suc i) n) p ≡ held (suc i + place (suc i) n))
          → cond b (held i) (rows_of (indexed (table_input text table rows) (suc i) n) p) ≡ held (i + cond b 0 (suc (place (suc i) n)))
      pick true k ih = rw (add-zero i)
      pick false k ih = ih (omega arith) ∙ ap held (omega arith)

-- The problem of a table: its predicates are those of the indices, so a name's place tells what the name is.

module _ (text : Bytes) (table : Table) (rows : List ℕ) (inside : table.inputs ≤ table.count) where
  abbrev P : Problem
  P = problem_in text table rows

  split : table.inputs + (table.count - table.inputs) ≡ table.count
  split = omega arith

  input_predicates_in : input_predicates P ≡ indexed (table_predicate text table) 0 table.inputs
  unfolding problem_in
  input_predicates_in = map-indexed (table_input text table rows) (λ i. i.predicate) table.inputs 0

  pub predicates_in : predicates P ≡ indexed (table_predicate text table) 0 table.count
  unfolding problem_in
  predicates_in = rw input_predicates_in (rw (zero-add, split) at (indexed-append (table_predicate text table) table.inputs (table.count - table.inputs) 0))

  pub domain_in : P.domain ≡ table.domain
  unfolding problem_in
  domain_in = refl

  module _ (p : Name) where
    abbrev index : ℕ
    index = position p (table_names text table)

    pub named_in : named (predicates P) p ≡ ltb index table.count
    named_in = rw predicates_in (named-indexed text table p table.count 0)

    pub is_input_in : is_input P p ≡ ltb index table.inputs
    is_input_in =
        rw input_predicates_in (named-indexed text table p table.inputs 0
        ∙ sym (rw split at (position_first p (table_name text table) table.inputs (table.count - table.inputs) 0)))

    -- a row's number is among those of an input's rows as the row is one of the input's
    pub given_in : (row : Row) → index < table.inputs → length row ≡ (entry table index).arity → Digits row
        → given P p row ≡ among (packed row) (table_numbers table rows index)
    unfolding problem_in
    given_in row h e small =
        let f = rw split at (position_prefix p (table_name text table) table.inputs (table.count - table.inputs) 0) in
        let g : place text table p 0 table.inputs ≡ index = f h in
        let z = rows_of-indexed text table p rows table.inputs 0 (rw g h) in
        ap (member row) (rw (zero-add, g, ← e) at z) ∙ sym (among-member row (table_numbers table rows index) small)

    module _ (valid : Valid P) where
      pub is_output_in : is_output P p ≡ (leb table.inputs index && ltb index table.count)
      is_output_in = pick (is_input P p) refl
        where
          pick : (b : Bool) → is_input P p ≡ b → is_output P p ≡ (leb table.inputs index && ltb index table.count)
          pick true e =
              is_input-not-is_output P valid p e
              ∙ sym (ap (λ b. b && ltb index table.count) (lt-leb table.inputs index (ltb-true index table.inputs (sym is_input_in ∙ e))))
          pick false e =
              sym (named-append (input_predicates P) P.outputs p ∙ ap (λ b. b || is_output P p) e) ∙ named_in
              ∙ sym (ap (λ b. b && ltb index table.count) (le-leb table.inputs index (ltb-false index table.inputs (sym is_input_in ∙ e))))

      pub declared_in : (arity : ℕ) → declared (predicates P) p arity ≡ (ltb index table.count && eqb (entry table index).arity arity)
      declared_in arity =
          rw predicates_in (rw zero-add at (declared-indexed text table p arity table.count 0 (rw predicates_in at (valid.declares.once p))))
