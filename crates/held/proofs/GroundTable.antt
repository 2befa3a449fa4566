-- Ground clauses in memory by a table of predicates: they are judged as those of the table's problem, and their predicates have the names that the table says.
-- Assumes nothing.
use Prim.Native.Nat.{ℕ, zero, suc, ◌+◌, ◌≤◌, ◌<◌}
use native.Mathlib.Nat.{zero-add, add-zero}
use native.Mathlib.Omega.{arith}
use mathlib.Core.Path.{◌≡◌, sym, ap, ◌∙◌}
use mathlib.Core.List.{List, [], ◌++◌}
use mathlib.Core.Bool.{true}
use borrow.Author.Tests.{ltb-true}
use lib.Dec.{leb}
use lib.ListN.{length, get_or}
use Rattle.grammar.specs.Bytes.{Bytes}
use Rattle.grammar.specs.Problem.{Name, is_output}
use Rattle.grammar.specs.Valid.{Valid}
use Rattle.grammar.proofs.Laws.{and_right}
use Rattle.logic.specs.Formula.{Formula, depth}
use Rattle.logic.specs.Normal.{is_clause}
use Rattle.table.specs.memory.Table.{position, indexed, table_name, table_names, problem_in}
use Rattle.table.specs.declared.table.Table.{Table}
use Rattle.table.proofs.Tables.{length-indexed, is_output_in}
use Rattle.words.proofs.memory.Naming.{Naming, words_in, Storable}
use Rattle.terms.proofs.memory.Listing.{position-listed}
use Rattle.clauses.specs.memory.Clauses.{is_output_index, clause_at}
use Rattle.clauses.proofs.memory.Clauses.{clause_at-words}

get_or-indexed : {A : Type 0} (f : ℕ → A) (d : A) (n i k : ℕ) → k < n → get_or (indexed f i n) k d ≡ f (i + k)
unfolding indexed
get_or-indexed f d zero i k h = absurd (omega arith)
get_or-indexed f d (suc n) i zero h = ap f (sym (add-zero i))
get_or-indexed f d (suc n) i (suc k) h = get_or-indexed f d n (suc i) k (omega arith) ∙ ap f (omega arith)

module _
    (text : Bytes)
    (table : Table)
    (rows : List ℕ)
    (inside : table.inputs ≤ table.count)
    (valid : Valid (problem_in text table rows))
    (N : Naming)
    (index : (p : Name) → N.predicate_index p ≡ position p (table_names text table))
  where
    -- the output predicates are those behind the inputs
    pub table_outputs : (p : Name) → is_output (problem_in text table rows) p ≡ is_output_index table (N.predicate_index p)
    table_outputs p = rw (index p) (is_output_in text table rows inside p valid)

    -- and their names stand where the table says
    pub table_named : (p : Name) → is_output (problem_in text table rows) p ≡ true → table_name text table (N.predicate_index p) ≡ p
    table_named p o =
        let i = position p (table_names text table) in
        let e = sym (is_output_in text table rows inside p valid) ∙ o in
        let within : i < table.count = ltb-true i table.count (and_right (leb table.inputs i) _ e) in
        let size : length (table_names text table) ≡ table.count = length-indexed (table_name text table) table.count 0 in
        let there = (position-listed p (table_names text table) table.count (omega arith) (omega arith)).named in
        rw (index p) (ap (table_name text table) (sym (zero-add i)) ∙ sym (get_or-indexed (table_name text table) [] table.count 0 i within) ∙ there)

    pub clause_at_table : (f : Formula) (levels : ℕ) (s : List ℕ) → Storable N f → depth f ≤ levels
        → clause_at table levels (words_in N f ++ s) ≡ is_clause (problem_in text table rows) f
    clause_at_table = clause_at-words table N (problem_in text table rows) table_outputs
