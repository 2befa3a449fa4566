-- The line `rows=`: the input that awaited its rows joins the table, with them.
-- Assumes nothing.
use Prim.Native.Nat.{ℕ, ◌+◌, ◌≤◌, ◌<◌}
use native.Mathlib.Omega.{arith}
use mathlib.Core.Path.{◌≡◌, ap, ◌∙◌}
use mathlib.Core.List.{List, [], ◌∷◌, map}
use mathlib.Core.Bool.{true}
use lib.ListN.{length, drop}
use lib.Seq.{sets}
use Rattle.std.specs.Prelude.{cond, eqb, Ok, Err}
use Rattle.grammar.specs.Bytes.{Bytes}
use Rattle.grammar.specs.Reading.{Reading, give, judge, ◌>>=◌}
use Rattle.grammar.specs.Problem.{Predicate, Problem, rows_fit, tuple_total, read_relation, rows_for, Part, declaring, awaiting, with_input, problem_line}
use Rattle.grammar.proofs.Outcome.{bind-bind}
use Rattle.grammar.proofs.Problem.{tuple_total-append}
use Rattle.text.specs.memory.Found.{Taken, Refused}
use Rattle.text.specs.declared.read.Read.{Read}
use Rattle.text.proofs.Found.{found-give, found_then, found-taken, taken-found, refused-first, found-later, refused-later}
use Rattle.table.specs.memory.Table.{packed, entry, table_predicate, problem_in, with_rows, counted}
use Rattle.problem.specs.memory.Faults.{fault_number}
use Rattle.problem.specs.memory.Rows.{read_rows, tuple_size, Suits, ToldRowsRead}
use Rattle.problem.specs.memory.ProblemLines.{Standing, part_in, ToldPart, Awaits, WithRows}
use Rattle.problem.specs.declared.fault.Fault.{Fault}
use Rattle.problem.specs.declared.rows.Awaited.{Awaited}
use Rattle.problem.specs.declared.progress.Stage.TheVariants.{Awaiting}
use Rattle.problem.specs.declared.progress.Progress.{Progress}
use Rattle.problem.proofs.TableGrowth.{problem_input, stored_input}

awaiting-line : (P : Problem) (q : Predicate) (s : Bytes)
    → problem_line (awaiting P q) s ≡ (read_rows P q.arity >>= λ rows. give (declaring (with_input P q rows))) s
unfolding problem_line
awaiting-line P q s = bind-bind (read_relation s) (λ p. judge (rows_for P q.arity p.0) p.1) (λ p. give (declaring (with_input P q p.0)) p.1)

-- what is known where an input awaits its rows
pub awaited-facts : (text : Bytes) (p : Progress) (rows : List ℕ) → Standing text p rows → p.stage ≡ Awaiting
    → (p.table.count ≡ p.table.inputs) × (p.table.count < 32) × ((entry p.table p.table.count).arity ≤ 3)
awaited-facts text p rows standing awaits = rw awaits at standing.staged

module _ (text : Bytes) (at : ℕ) (p : Progress) (old : List ℕ) (standing : Standing text p old) (awaits : p.stage ≡ Awaiting) (a : Awaited) (same : Awaits p a) where
  abbrev P : Problem
  P = problem_in text p.table old

  abbrev q : Predicate
  q = table_predicate text p.table p.table.count

  suits : Suits a P
  unfolding problem_in
  suits = record { domain = rw same.domain; tuples = rw same.total standing.sum }

  abbrev rest : Reading Part
  rest = read_rows P q.arity >>= λ rows. give (declaring (with_input P q rows))

  module _ (new : List ℕ) where
    pub rows_failed : (fault : Fault) → ToldRowsRead a old new text at (Err fault) → ToldPart (problem_line (part_in text p old)) text at new (Err fault)
    rows_failed fault f =
        let refused : Refused (fault_number fault) (read_rows P q.arity) text at = rw same.arity at (f P suits) in
        rw awaits (refused-later text at rest (awaiting-line P q (drop at text)) (refused-first _ refused))

    module _ (read : Read ℕ) (f : ToldRowsRead a old new text at (Ok read)) where
      module _ (tuples : ℕ) (sized : tuples ≡ cond (eqb a.arity 0) 0 read.value) where
        size_is : tuples ≡ tuple_size a.arity f.list
        size_is = rw f.stored.counted at sized

        pub tuples-few : (p.table.count < 32) × (p.total + tuples ≤ 1024) × (read.value ≤ tuples + 1)
        tuples-few =
            let s = f.stored in
            let room : p.total + tuple_size a.arity f.list ≤ 1024 = rw same.total at s.room in
            ((awaited-facts text p old standing awaits).1, rw size_is room, rw size_is (omega (arith, s.counted, s.few)))

        pub rows-line : (r : Progress) → WithRows p read.value tuples r → 1056 ≤ length old
            → ToldPart (problem_line (part_in text p old)) text at new (Ok (record { value = r; next = read.next }))
        rows-line r w long =
            let facts = awaited-facts text p old standing awaits in
            let s = f.stored in
            let ts = f.list in
            let few = tuples-few in
            let size : read.value ≡ length ts = s.counted in
            let fits : p.used + length ts ≤ length old = omega (arith, p.short, p.room, p.inside, p.few, few.1, few.2) in
            let fit : rows_fit p.table.domain (entry p.table p.table.count).arity ts ≡ true = rw (← same.domain, ← same.arity) s.fit in
            let grown = problem_input text p.table w.sized facts.1 facts.0 old p.used standing.stored p.table.domain p.small ts fit fits in
            let taken : Taken (read_rows P q.arity) text at ts read.next = rw same.arity at (f.found P suits) in
            let made : Taken (problem_line (awaiting P q)) text at (declaring (with_input P q ts)) read.next =
            found-taken (found-later text at rest (awaiting-line P q (drop at text)) (omega arith)
            (found_then _ (taken-found taken) (found-give (declaring (with_input P q ts)) taken.within))) taken.after in
            let stored : new ≡ sets old p.used (map packed ts) = s.stored ∙ rw same.to in
            let found : Taken (problem_line (awaiting P q)) text at (declaring (problem_in text r.table new)) read.next = rw (w.table, s.counted, stored, grown) made in
            let total : tuple_total (problem_in text (counted (with_rows p.table p.used (length ts)) (p.table.inputs + 1) (p.table.count + 1)) (sets old p.used (map packed ts))).inputs
            ≡ p.total + tuple_size (entry p.table p.table.count).arity ts =
            ap (λ P. tuple_total P.inputs) grown ∙ tuple_total-append P.inputs (record { predicate = q; rows = ts } ∷ []) ∙ omega (arith, standing.sum) in
            rw awaits
            (record {
              found = rw w.stage found;
              standing = record {
                staged = rw (w.stage, w.table) (ap (λ (n : ℕ). n + 1) facts.0);
                sum = rw (w.table, s.counted, stored, w.total, size_is, same.arity) total;
                stored = rw (w.table, w.used, s.counted) (stored_input text p.table w.sized facts.1 facts.0 old p.used standing.stored p.table.domain p.small ts fit fits);
              };
            })
