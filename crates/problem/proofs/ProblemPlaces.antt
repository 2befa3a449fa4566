-- The problem's lines at a place of a text: a predicate that joins a table's, and what each line makes of the table.
-- Assumes nothing.
use Prim.Native.Nat.{ℕ, ◌+◌, ◌≤◌, ◌<◌}
use native.Mathlib.Omega.{arith}
use mathlib.Core.Path.{◌≡◌, refl, sym, ap, ◌∙◌}
use mathlib.Core.List.{List, []}
use mathlib.Core.Bool.{Bool, true, false, not, ◌&&◌, and-true, and-false}
use lib.Dec.{eqb, leb, ltb}
use lib.ListN.{length, take, drop, length-take, length-drop}
use borrow.Author.Tests.{eq-eqb, ne_eqb, lt-leb, le-leb, leb-true, lt-ltb, le-ltb, ltb-true, ltb-false}
use Rattle.std.specs.Prelude.{Option, Some, None, Result, Ok, Err}
use Rattle.std.specs.Bool.{then_some}
use Rattle.std.specs.Option.{is_some}
use Rattle.grammar.specs.Sizes.{domain_size, greatest_arity, name_size, predicate_count}
use Rattle.grammar.specs.Bytes.{Bytes, bytes, begins}
use Rattle.grammar.specs.Outcome.{mapped}
use Rattle.grammar.specs.Reading.{Reading, require}
use Rattle.grammar.specs.Problem.{Predicate, Problem, predicates, named, tuple_total, domain_fits, predicate_fits, read_domain, read_predicate}
use Rattle.grammar.specs.Problem.{Part, start, declaring, awaiting, closing, read_input, read_output, problem_line, with_output}
use Rattle.grammar.proofs.Laws.{and_left, and_right}
use Rattle.text.specs.memory.Found.{Found, Taken, WordFound}
use Rattle.text.specs.declared.read.Read.{Read}
use Rattle.text.specs.declared.name.Name.{Name as Place}
use Rattle.text.proofs.Bytes.{range_below, range_above, range_within}
use Rattle.text.proofs.Found.{found-give, found_then, found-taken, taken-found, refused-first, refused_then, found-require, refused-require}
use Rattle.text.proofs.Found.{found_word, refused-word, found-later, refused-later, one_of_this, one_of_only, made_mapped, found_made, refused_made}
use Rattle.table.specs.memory.Table.{position, entry, found, name_at, table_name, table_names, table_predicate, problem_in, Sized, with_domain, with_name, counted}
use Rattle.table.specs.declared.table.Table.{Table}
use Rattle.table.proofs.Tables.{predicates_in, position-most, named-indexed, length-indexed}
use Rattle.problem.specs.memory.Declarations.{NumberTold, ToldLast, PredicateFound, named_at, predicate_fits_in}
use Rattle.problem.specs.memory.Declarations.{read_declared, HasPredicates, DeclaredFound, ToldDeclared}
use Rattle.problem.specs.memory.ProblemLines.{Standing, ToldPart, LineTold}
use Rattle.problem.specs.declared.declaration.Declaration.{Declaration}
use Rattle.problem.specs.declared.fault.Fault.{Fault}
use Rattle.problem.specs.declared.fault.Fault.TheVariants.{Malformed, Unfit}
use Rattle.problem.specs.declared.progress.Stage.{Stage}
use Rattle.problem.specs.declared.progress.Stage.TheVariants.{Start, Declaring, Awaiting, Closing}
use Rattle.problem.specs.declared.progress.Progress.{Progress}
use Rattle.problem.proofs.Refusing.{answered}
use Rattle.problem.proofs.TableGrowth.{problem_empty, inputs-domain, entry_there, problem-named, problem-output, stored_named}

-- Whether a predicate may join.

not_below : (a b : ℕ) → a ≤ b → not (ltb a b) ≡ eqb a b
not_below a b h = pick (ltb a b) refl
  where
    pick : (c : Bool) → ltb a b ≡ c → not c ≡ eqb a b
    pick true e = sym (ne_eqb a b (λ f. absurd (omega (arith, ltb-true a b e))))
    pick false e = sym (eq-eqb a b (omega (arith, ltb-false a b e)))

free_is : (b : Bool) (i : ℕ) (free : Bool) → is_some (then_some b i) ≡ not free → free ≡ not b
free_is true i true e = e
free_is true i false e = refl
free_is false i true e = refl
free_is false i false e = e

module _ (text : Bytes) (table : Table) (name : Place) (arity : ℕ) (within : name.start + name.size ≤ length text) where
  abbrev joining : Predicate
  joining = named_at text name arity

  length-name : length (name_at text name) ≡ name.size
  length-name = let n = length-drop name.start text in length-take name.size (drop name.start text) ∙ omega arith

  pub fits-arity : 3 < arity → false ≡ predicate_fits_in text table joining
  unfolding predicate_fits_in greatest_arity
  fits-arity h = rw (lt-leb arity 3 h)

  pub fits-size : 15 < name.size → false ≡ predicate_fits_in text table joining
  unfolding predicate_fits_in name_size
  fits-size h = rw (length-name, lt-leb name.size 15 h) (sym (and-false (leb arity greatest_arity)))

  pub fits_count : 31 < table.count → false ≡ predicate_fits_in text table joining
  unfolding predicate_fits_in predicate_count
  fits_count h =
      rw (
        le-ltb table.count 32 (omega arith),
        and-false (eqb (position joining.name (table_names text table)) table.count),
        and-false (leb (length joining.name) name_size),
      )
      (sym (and-false (leb arity greatest_arity)))

  pub fits_else : arity ≤ 3 → name.size ≤ 15 → table.count ≤ 31 → (free : Bool) → is_some (found text table joining.name) ≡ not free
      → free ≡ predicate_fits_in text table joining
  unfolding predicate_fits_in greatest_arity name_size predicate_count
  fits_else h k l free e =
      rw (length-name, le-leb arity 3 h, le-leb name.size 15 k, lt-ltb table.count 32 (omega arith))
      (free_is _ (position joining.name (table_names text table)) free e
      ∙ not_below (position joining.name (table_names text table)) table.count (position-most joining.name (table_name text table) table.count 0)
      ∙ sym (and-true (eqb (position joining.name (table_names text table)) table.count)))

pub fits-room : (text : Bytes) (table : Table) (q : Predicate) → predicate_fits_in text table q ≡ true → table.count < 32
unfolding predicate_fits_in predicate_count
fits-room text table q e =
    let new = eqb (position q.name (table_names text table)) table.count in
    ltb-true table.count 32 (and_right new _ (and_right (leb (length q.name) name_size) _ (and_right (leb q.arity greatest_arity) _ e)))

-- a problem with the table's predicates judges so
predicate_fits_in_lem : (text : Bytes) (table : Table) (P : Problem) → HasPredicates text table P
    → (q : Predicate) → predicate_fits P q ≡ predicate_fits_in text table q
unfolding predicate_fits_in
predicate_fits_in_lem text table P e q =
    rw (e, named-indexed text table q.name table.count 0, length-indexed (table_predicate text table) table.count 0)
    (ap (λ b. leb q.arity greatest_arity && (leb (length q.name) name_size && (b && ltb table.count predicate_count)))
    (not_below (position q.name (table_names text table)) table.count (position-most q.name (table_name text table) table.count 0)))

-- A predicate that is declared.

module _ (text : Bytes) (at : ℕ) (table : Table) (declared : Declaration) (next : ℕ) (f : PredicateFound text at declared next) where
  pub declared-large : declared.arity ≡ None → ToldDeclared text at table (Err Unfit)
  unfolding greatest_arity
  declared-large none P e =
      let large : 1000000 ≤ f.arity = rw none at f.is in
      refused_then _ f.found (refused-first _ (refused-require text next 4
      (ap (λ b. b && (leb (length (take declared.size (drop at text))) name_size && (not (named (predicates P) (take declared.size (drop at text))) && ltb (length (predicates P)) predicate_count)))
      (lt-leb f.arity 3 (omega arith)))))

  module _ (arity : ℕ) (some : declared.arity ≡ Some arity) where
    same : f.arity ≡ arity
    same = rw some at f.is

    abbrev name : Place
    name = record { start = at; size = declared.size }

    pub declared_unfit : predicate_fits_in text table (named_at text name arity) ≡ false → ToldDeclared text at table (Err Unfit)
    declared_unfit h P e =
        refused_then _ f.found (refused-first _ (refused-require text next 4
        (predicate_fits_in_lem text table P e (named_at text name f.arity) ∙ rw same h)))

    pub declared-fits : predicate_fits_in text table (named_at text name arity) ≡ true → Sized table
        → DeclaredFound text at table (with_name table name arity) next
    unfolding predicate_fits_in greatest_arity
    declared-fits fits sized =
        let room = fits-room text table (named_at text name arity) fits in
        let there = entry_there table (record { name = name; arity = arity; first = (entry table table.count).first; rows = (entry table table.count).rows }) sized room in
        record {
          name = name;
          arity = arity;
          is = refl;
          room = room;
          few = rw there (leb-true arity 3 (and_left (leb arity 3) _ fits));
          found = λ P e.
              rw there
              (found-taken (found_then _ (rw same at f.found) (found_then _ (found-require text next 4 (predicate_fits_in_lem text table P e (named_at text name arity) ∙ fits) f.found.within)
              (found-give (named_at text name arity) f.found.within))) (omega (arith, f.short)));
        }

-- What is read, at another stage and with another table.

pub record Moved (p : Progress) (s : Stage) (t : Table) (q : Progress) : Type 0 where
  pub stage : q.stage ≡ s
  pub table : q.table ≡ t
  pub used : q.used ≡ p.used
  pub total : q.total ≡ p.total

-- The line `domain=`.

module _ (text : Bytes) (at : ℕ) (p : Progress) where
  abbrev pub DomainTold : Result (Read Progress) Fault → Type 0
  DomainTold r = LineTold (λ rows. problem_line start) text at p r

  pub domain_failed : ToldLast read_domain text at None → DomainTold (Err Malformed)
  unfolding problem_line
  domain_failed f = record { told = λ rows standing. refused-first _ f }

  module _ (value : Option ℕ) (next : ℕ) (f : NumberTold read_domain text at value next) where
    domain_outside : domain_fits f.number ≡ false → DomainTold (Err Unfit)
    unfolding problem_line
    domain_outside e = record { told = λ rows standing. refused_then _ (taken-found f.found) (refused-first _ (refused-require text next 4 e)) }

    pub domain-beyond : value ≡ None → DomainTold (Err Unfit)
    unfolding domain_size
    domain-beyond none = let large : 1000000 ≤ f.number = rw none at f.is in domain_outside (sym (range_above 1 64 f.number (omega arith)))

    module _ (n : ℕ) (some : value ≡ Some n) where
      same_number : f.number ≡ n
      same_number = rw some at f.is

      pub domain_below : n < 1 → DomainTold (Err Unfit)
      unfolding domain_size
      domain_below h = domain_outside (rw same_number (sym (range_below 1 64 n h)))

      pub domain_above : 64 < n → DomainTold (Err Unfit)
      unfolding domain_size
      domain_above h = domain_outside (rw same_number (sym (range_above 1 64 n h)))

      pub domain-line : p.stage ≡ Start → 1 ≤ n → n ≤ 64 → (q : Progress) → Moved p Declaring (with_domain p.table n) q
          → DomainTold (Ok (record { value = q; next = next }))
      unfolding problem_line domain_size
      domain-line starts least greatest q m = record { told = told }
        where
          told : (rows : List ℕ) → Standing text p rows → ToldPart (problem_line start) text at rows (Ok (record { value = q; next = next }))
          told rows standing =
              let none : (p.table.inputs ≡ 0) × (p.table.count ≡ 0) = rw starts at standing.staged in
              let empty : Part = declaring (record { domain = n; inputs = []; outputs = [] }) in
              let read : Found read_domain text at n next = rw same_number at (taken-found f.found) in
              record {
                found = rw (m.stage, m.table, problem_empty text p.table n rows none.0 none.1)
                    (found-taken (found_then _ read (found_then _ (found-require text next 4 (sym (range_within 1 64 n least greatest)) f.found.within)
                    (found-give empty f.found.within))) f.found.after);
                standing = record {
                  staged = rw (m.stage, m.table) (none.1 ∙ sym none.0);
                  sum = rw m.table (ap tuple_total (inputs-domain text p.table n rows)) ∙ standing.sum ∙ sym m.total;
                  stored = rw (m.table, m.used) standing.stored;
                };
              }

-- A predicate that joins, behind `input=` or `output=`.

module _ (text : Bytes) (at : ℕ) (p : Progress) where
  abbrev joined : List ℕ → Problem
  joined rows = problem_in text p.table rows

  has_predicates : (rows : List ℕ) → HasPredicates text p.table (joined rows)
  has_predicates rows = predicates_in text p.table rows p.inside

  read_input_made : (P : Problem) → read_input P (drop at text) ≡ mapped (λ r. (awaiting P r.0, r.1)) (read_declared P (drop at text))
  unfolding read_input
  read_input_made P = made_mapped read_predicate (λ q. require 4 (predicate_fits P q)) (awaiting P) (drop at text)

  pub input_failed : (fault : Fault) → ToldDeclared text at p.table (Err fault) → LineTold (λ rows. read_input (joined rows)) text at p (Err fault)
  input_failed fault f =
      record { told = λ rows standing. refused_made text at (awaiting (joined rows)) (read_input_made (joined rows)) (f (joined rows) (has_predicates rows)) }

  module _ (read : Read Table) (f : ToldDeclared text at p.table (Ok read)) (q : Progress) (m : Moved p Awaiting read.value q) where
    pub input_line : p.stage ≡ Declaring → LineTold (λ rows. read_input (joined rows)) text at p (Ok (record { value = q; next = read.next }))
    input_line declares = record { told = told }
      where
        told : (rows : List ℕ) → Standing text p rows → ToldPart (read_input (joined rows)) text at rows (Ok (record { value = q; next = read.next }))
        told rows standing =
            let alone : p.table.count ≡ p.table.inputs = rw declares at standing.staged in
            let same = problem-named text p.table f.name f.arity rows p.inside in
            let g = f.found (joined rows) (has_predicates rows) in
            let made : Taken (read_input (joined rows)) text at (awaiting (joined rows) (table_predicate text read.value p.table.count)) read.next =
            found-taken (found_made text at (awaiting (joined rows)) (read_input_made (joined rows)) (omega arith) (taken-found g)) g.after in
            let found : Taken (read_input (joined rows)) text at (awaiting (problem_in text q.table rows) (table_predicate text q.table q.table.count)) read.next =
            rw (m.table, f.is, same) (rw f.is at made) in
            record {
              found = rw m.stage found;
              standing = record {
                staged = rw (m.stage, m.table) (rw f.is alone, rw f.is f.room, rw f.is (rw f.is at f.few));
                sum = rw (m.table, f.is) (ap (λ P. tuple_total P.inputs) same) ∙ standing.sum ∙ sym m.total;
                stored = rw (m.table, m.used, f.is) (stored_named p.table f.name f.arity p.used p.inside standing.stored);
              };
            }

module _ (text : Bytes) (at : ℕ) (p : Progress) where
  pub output_missing : begins (bytes "output=") (drop at text) ≡ false → LineTold (λ rows. read_output (joined text at p rows)) text at p (Err Malformed)
  unfolding read_output
  output_missing e = record { told = λ rows standing. refused-first _ (refused-word text at 3 (bytes "output=") e) }

  module _ (word : WordFound (bytes "output=") text at (at + 7)) where
    read_output_made : (P : Problem) → read_output P (drop at text) ≡ mapped (λ r. (closing (with_output P r.0), r.1)) (read_declared P (drop (at + 7) text))
    unfolding read_output
    read_output_made P =
        rw (found_word text at 3 (bytes "output=") word).is
        (made_mapped read_predicate (λ q. require 4 (predicate_fits P q)) (λ q. closing (with_output P q)) (drop (at + 7) text))

    pub output_failed : (fault : Fault) → ToldDeclared text (at + 7) p.table (Err fault) → LineTold (λ rows. read_output (joined text at p rows)) text at p (Err fault)
    output_failed fault f =
        record {
          told = λ rows standing.
              let P = problem_in text p.table rows in
              refused_made text at (λ q. closing (with_output P q)) (read_output_made P) (f P (has_predicates text at p rows));
        }

    module _ (read : Read Table) (f : ToldDeclared text (at + 7) p.table (Ok read)) (q : Progress)
        (m : Moved p Closing (counted read.value read.value.inputs (p.table.count + 1)) q) where
      pub output-line : LineTold (λ rows. read_output (joined text at p rows)) text at p (Ok (record { value = q; next = read.next }))
      output-line = record { told = told }
        where
          told : (rows : List ℕ) → Standing text p rows → ToldPart (read_output (joined text at p rows)) text at rows (Ok (record { value = q; next = read.next }))
          told rows standing =
              let P = problem_in text p.table rows in
              let same = problem-output text p.table f.name f.arity rows p.inside in
              let g = f.found P (has_predicates text at p rows) in
              let made : Taken (read_output P) text at (closing (with_output P (table_predicate text read.value p.table.count))) read.next =
              found-taken (found_made text at (λ q. closing (with_output P q)) (read_output_made P) (omega arith) (taken-found g)) (omega (arith, g.after)) in
              let found : Taken (read_output P) text at (closing (problem_in text q.table rows)) read.next = rw (m.table, f.is, same) (rw f.is at made) in
              record {
                found = rw m.stage found;
                standing = record {
                  staged = rw m.stage tt;
                  sum = rw (m.table, f.is) (ap (λ P. tuple_total P.inputs) same) ∙ standing.sum ∙ sym m.total;
                  stored = rw (m.table, m.used, f.is) (stored_named p.table f.name f.arity p.used p.inside standing.stored);
                };
              }

-- A line where inputs or outputs may follow.

module _ (text : Bytes) (at : ℕ) (p : Progress) (r : Result (Read Progress) Fault) where
  line_behind : (reader later : List ℕ → Reading Part) {mid : ℕ} → at ≤ mid → ((rows : List ℕ) → reader rows (drop at text) ≡ later rows (drop mid text))
      → LineTold later text mid p r → LineTold reader text at p r
  line_behind reader later {mid} h same f = record { told = λ rows standing. pick rows r (f.told rows standing) }
    where
      pick : (rows : List ℕ) (r : Result (Read Progress) Fault) → ToldPart (later rows) text mid rows r → ToldPart (reader rows) text at rows r
      pick rows (Ok read) g =
          record {
            found = found-taken (found-later text at (later rows) (same rows) h (taken-found g.found)) (omega (arith, g.found.after));
            standing = g.standing;
          }
      pick rows (Err fault) g = refused-later text at (later rows) (same rows) g

  abbrev declares : List ℕ → Reading Part
  declares rows = problem_line (declaring (joined text at p rows))

  pub declaring_input : WordFound (bytes "input=") text at (at + 6) → LineTold (λ rows. read_input (joined text at p rows)) text (at + 6) p r
      → LineTold declares text at p r
  unfolding problem_line
  declaring_input w f =
      line_behind declares (λ rows. read_input (joined text at p rows)) (omega arith)
      (λ rows. one_of_this text at (bytes "input=") (read_input (joined text at p rows)) [] (read_output (joined text at p rows)) w) f

  pub declaring-output : begins (bytes "input=") (drop at text) ≡ false → LineTold (λ rows. read_output (joined text at p rows)) text at p r
      → LineTold declares text at p r
  unfolding problem_line
  declaring-output e f =
      line_behind declares (λ rows. read_output (joined text at p rows)) (omega arith)
      (λ rows. one_of_only text at (bytes "input=") (read_input (joined text at p rows)) [] (read_output (joined text at p rows)) refl e) f

-- what the code's answers follow from
pub ruleset told = (answered, fits-arity, fits-size, fits_count, fits-room, declared-large, declared_unfit, declared-fits, domain_failed, domain-beyond)
