-- A table with a predicate more: what stood in it stands as before, and the new predicate, with its rows, stands behind.
-- Assumes nothing.
use Prim.Native.Nat.{ℕ, suc, ◌+◌, ◌-◌, ◌≤◌, ◌<◌}
use native.Mathlib.Decide.{dec_lt}
use native.Mathlib.Omega.{arith}
use mathlib.Core.Path.{◌≡◌, refl, sym, ap, ap₂, ◌∙◌}
use mathlib.Core.List.{List, [], ◌∷◌, ◌++◌, append_assoc, map}
use mathlib.Core.Bool.{true}
use lib.ListN.{length, take, drop, set, length-map}
use lib.Seq.{sets, sets-eq, get_or-set_same, get_or-set_other, take-set-le, drop-set-add, length-take-le, drop_at, take-append_seam}
use Rattle.grammar.specs.Bytes.{Bytes}
use Rattle.grammar.specs.Problem.{Row, Predicate, Input, Problem, row_fits, rows_fit, with_input, with_output}
use Rattle.grammar.proofs.Laws.{and_left, and_right}
use Rattle.text.specs.declared.name.Name.{Name as Place}
use Rattle.table.specs.memory.Table.{packed, unpacked, indexed, nothing, entry, name_at, table_predicate, table_input, problem_in, Sized, with_domain, with_entry, with_name, with_rows, counted}
use Rattle.table.specs.declared.table.Predicate.{Predicate as Entry}
use Rattle.table.specs.declared.table.Table.{Table}
use Rattle.table.proofs.Packing.{unpacked-packed}
use Rattle.table.proofs.Tables.{indexed-append, indexed_agree}
use Rattle.problem.proofs.RowsKept.{every-digits, row_fits-is}

-- Numbers stored from a place on.

-- what stands before them
stored-before : (vs l : List ℕ) (to from n : ℕ) → from + n ≤ to → take n (drop from (sets l to vs)) ≡ take n (drop from l)
stored-before [] l to from n h = refl
stored-before (v ∷ vs) l to from n h =
    stored-before vs (set l to v) (suc to) from n (omega arith)
    ∙ (let e : to ≡ from + (to - from) = omega arith in
    rw (e, drop-set-add from l (to - from) v, take-set-le n (drop from l) (to - from) v (omega arith)))

-- they themselves
stored_there : (vs l : List ℕ) (to : ℕ) → to + length vs ≤ length l → take (length vs) (drop to (sets l to vs)) ≡ vs
stored_there vs l to h =
    rw (sets-eq vs l to h, append_assoc, drop_at (take to l) (vs ++ drop (to + length vs) l) to (length-take-le to l (omega arith)))
    (take-append_seam vs (drop (to + length vs) l))

-- rows that fit are read back
rows_back : (n arity : ℕ) → n ≤ 64 → (ts : List Row) → rows_fit n arity ts ≡ true → map (unpacked arity) (map packed ts) ≡ ts
rows_back n arity small [] e = refl
rows_back n arity small (t ∷ ts) e =
    let h = row_fits-is n t arity (and_left (row_fits n arity t) (rows_fit n arity ts) e) in
    ap₂ (λ (u : Row) (us : List Row). u ∷ us)
    (rw (← h.0) (unpacked-packed t (every-digits n small t h.1)))
    (rows_back n arity small ts (and_right (row_fits n arity t) (rows_fit n arity ts) e))

-- No predicate.

module _ (text : Bytes) (table : Table) (n : ℕ) (rows : List ℕ) where
  pub problem_empty : table.inputs ≡ 0 → table.count ≡ 0 → problem_in text (with_domain table n) rows ≡ record { domain = n; inputs = []; outputs = [] }
  unfolding problem_in indexed
  problem_empty e f = rw (e, f)

  pub inputs-domain : (problem_in text (with_domain table n) rows).inputs ≡ (problem_in text table rows).inputs
  unfolding problem_in
  inputs-domain = refl

-- An entry, and what stands at the other indices.

-- a predicate and an input by their entry
abbrev predicate_of : Bytes → Entry → Predicate
predicate_of text e = record { name = name_at text e.name; arity = e.arity }

abbrev input_of : Bytes → List ℕ → Entry → Input
input_of text rows e = record { predicate = predicate_of text e; rows = map (unpacked e.arity) (take e.rows (drop e.first rows)) }

module _ (table : Table) (e : Entry) where
  entry_other : (i : ℕ) → i < table.count → entry (with_entry table e) i ≡ entry table i
  entry_other i h = get_or-set_other table.predicates table.count i e nothing (λ same. absurd (omega arith))

  pub entry_there : Sized table → table.count < 32 → entry (with_entry table e) table.count ≡ e
  entry_there sized room = get_or-set_same table.predicates table.count e nothing (omega arith)

-- A name entered.

-- a problem by its parts
problem_from : ℕ → List Input → List Predicate → Problem
problem_from n is os = record { domain = n; inputs = is; outputs = os }

module _ (text : Bytes) (table : Table) (name : Place) (arity : ℕ) (rows : List ℕ) (inside : table.inputs ≤ table.count) where
  abbrev named : Table
  named = with_name table name arity

  abbrev joined : Entry
  joined = record { name = name; arity = arity; first = (entry table table.count).first; rows = (entry table table.count).rows }

  inputs-kept : indexed (table_input text named rows) 0 table.inputs ≡ indexed (table_input text table rows) 0 table.inputs
  inputs-kept =
      indexed_agree (table_input text named rows) (table_input text table rows) table.inputs 0
      λ k low high. ap (input_of text rows) (entry_other table joined k (omega arith))

  outputs-kept : indexed (table_predicate text named) table.inputs (table.count - table.inputs)
      ≡ indexed (table_predicate text table) table.inputs (table.count - table.inputs)
  outputs-kept =
      indexed_agree (table_predicate text named) (table_predicate text table) (table.count - table.inputs) table.inputs
      λ k low high. ap (predicate_of text) (entry_other table joined k (omega arith))

  pub problem-named : problem_in text named rows ≡ problem_in text table rows
  unfolding problem_in problem_from
  problem-named = ap₂ (problem_from table.domain) inputs-kept outputs-kept

  pub problem-output : problem_in text (counted named table.inputs (table.count + 1)) rows
      ≡ with_output (problem_in text table rows) (table_predicate text named table.count)
  unfolding problem_in problem_from indexed
  problem-output =
      ap₂ (problem_from table.domain) inputs-kept
      (let n = table.count - table.inputs in
      let e : n + 1 ≡ table.count + 1 - table.inputs = omega arith in
      let f : table.inputs + n ≡ table.count = omega arith in
      sym (ap (λ ps. ps ++ (table_predicate text named table.count ∷ [])) (sym outputs-kept)
      ∙ rw (e, f) at (indexed-append (table_predicate text named) n 1 table.inputs)))

-- and so do the places of the rows
pub stored_named : (table : Table) (name : Place) (arity used : ℕ) → table.inputs ≤ table.count
    → ((i : ℕ) → i < table.inputs → (entry table i).first + (entry table i).rows ≤ used)
    → (i : ℕ) → i < table.inputs → (entry (with_name table name arity) i).first + (entry (with_name table name arity) i).rows ≤ used
stored_named table name arity used inside stored i h =
    let e = entry_other table (record { name = name; arity = arity; first = (entry table table.count).first; rows = (entry table table.count).rows }) i (omega arith) in
    rw e (stored i h)

-- Rows stored.

module _ (text : Bytes) (table : Table) (sized : Sized table) (room : table.count < 32) (alone : table.count ≡ table.inputs)
    (rows : List ℕ) (used : ℕ) (apart : (i : ℕ) → i < table.inputs → (entry table i).first + (entry table i).rows ≤ used)
    (n : ℕ) (small : n ≤ 64) (ts : List Row) (fit : rows_fit n (entry table table.count).arity ts ≡ true)
    (fits : used + length ts ≤ length rows) where
  abbrev grown : Table
  grown = counted (with_rows table used (length ts)) (table.inputs + 1) (table.count + 1)

  abbrev filled : Entry
  filled = record { name = (entry table table.count).name; arity = (entry table table.count).arity; first = used; rows = length ts }

  abbrev after : List ℕ
  after = sets rows used (map packed ts)

  old_input : (i : ℕ) → i < table.inputs → table_input text grown after i ≡ table_input text table rows i
  old_input i h =
      ap (input_of text after) (entry_other table filled i (omega arith))
      ∙ rw (stored-before (map packed ts) rows used (entry table i).first (entry table i).rows (apart i h))

  new_input : table_input text grown after table.count ≡ record { predicate = table_predicate text table table.count; rows = ts }
  new_input =
      let e = length-map ts packed in
      ap (input_of text after) (entry_there table filled sized room)
      ∙ rw (← e, stored_there (map packed ts) rows used (omega arith), rows_back n (entry table table.count).arity small ts fit)

  pub problem_input : problem_in text grown after ≡ with_input (problem_in text table rows) (table_predicate text table table.count) ts
  unfolding problem_in problem_from indexed
  problem_input =
      ap₂ (problem_from table.domain)
      (sym (ap₂ (λ (is : List Input) (i : Input). is ++ (i ∷ []))
      (sym (indexed_agree (table_input text grown after) (table_input text table rows) table.inputs 0 (λ k low high. old_input k (omega arith))))
      (sym new_input)
      ∙ (let place : 0 + table.inputs ≡ table.count = omega arith in
      rw place at (indexed-append (table_input text grown after) table.inputs 1 0))))
      (let e : table.count + 1 - (table.inputs + 1) ≡ 0 = omega arith in
      let f : table.count - table.inputs ≡ 0 = omega arith in
      rw (e, f))

  -- every input's numbers stand before the next place
  pub stored_input : (i : ℕ) → i < table.inputs + 1 → (entry grown i).first + (entry grown i).rows ≤ used + length ts
  stored_input i h = pick (dec_lt i table.inputs)
    where
      pick : Dec (i < table.inputs) → (entry grown i).first + (entry grown i).rows ≤ used + length ts
      pick (yes k) = rw (entry_other table filled i (omega arith)) (omega (arith, apart i k))
      pick (no k) =
          let e : i ≡ table.count = omega arith in
          rw (e, entry_there table filled sized room) (omega arith)
