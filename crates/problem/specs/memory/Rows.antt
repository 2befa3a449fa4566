-- What the code tells of rows as it reads, judges and stores them.
use Rattle.std.specs.Prelude.{ℕ, ◌+◌, ◌≤◌, ◌<◌, ◌≡◌, Option, Some, None, Result, Ok, Err, List, [], ◌∷◌, ◌++◌, map, Bool, true, false, cond, ◌&&◌, eqb, leb, length}
use Rattle.std.proofs.lemmas.List.Edits.{sets}
use Rattle.grammar.specs.Sizes.{tuple_count}
use Rattle.grammar.specs.Bytes.{Bytes, bytes, every}
use Rattle.grammar.specs.Outcome.{done, refused}
use Rattle.grammar.specs.Reading.{Reading, give, ◌>>=◌, judge, read_number, ◌⇒◌, one_of, separated}
use Rattle.grammar.specs.Problem.{Row, Problem, is_element, row_fits, rows_fit, ascending, tuple_total, Relation, truth_value, tuples, read_tuples, read_relation, rows_for}
use Rattle.text.specs.memory.Found.{Found, Taken, Refused}
use Rattle.text.specs.declared.read.Read.{Read}
use Rattle.table.specs.memory.Table.{packed, ranked}
use Rattle.problem.specs.declared.fault.Fault.{Fault}
use Rattle.problem.specs.declared.rows.RowKept.{RowKept}
use Rattle.problem.specs.declared.rows.RowsKept.{RowsKept}
use Rattle.problem.specs.declared.rows.RelationKept.{RelationKept}
use Rattle.problem.specs.declared.rows.RelationKept.TheVariants.{Truth, Listed}
use Rattle.problem.specs.declared.rows.Awaited.{Awaited}
use Rattle.problem.specs.memory.Faults.{fault_number}
use Rattle.problem.specs.memory.Declarations.{IsTold}

-- One row.

-- elements from 1 to n, at most as many as a row has
pub record RowFound (n : ℕ) (elements : Row) (kept : RowKept) : Type 0 where
  pub sized : kept.size ≡ length elements
  pub few : length elements ≤ 3
  pub within : every (is_element n) elements ≡ true
  pub numbered : kept.key ≡ packed elements
  pub order : kept.rank ≡ ranked elements

abbrev pub ToldRow : ℕ → Row → Option RowKept → Type 0
ToldRow n elements (Some kept) = RowFound n elements kept
ToldRow n elements None = (more : Row) (arity : ℕ) → arity ≤ 3 → row_fits n arity (elements ++ more) ≡ false

-- numbers that more elements can be added to
abbrev pub RowBounded : Option RowKept → Type 0
RowBounded (Some kept) = (kept.key < 16777216) × (kept.rank < 16777216)
RowBounded None = Unit {0}

-- an element more
pub record RowMore (n : ℕ) (element : Option ℕ) (before after : Option RowKept) : Type 0 where
  pub told : (v : ℕ) → IsTold element v → (elements : Row) → ToldRow n elements before → ToldRow n (elements ++ (v ∷ [])) after

-- an element is read
pub record ElementFound (n : ℕ) (before : Option RowKept) (text : Bytes) (at : ℕ) (after : Option RowKept) (next : ℕ) : Type 0 where
  pub element : ℕ
  pub found : Found (read_number 3) text at element next
  pub later : at < next
  pub more : (elements : Row) → ToldRow n elements before → ToldRow n (elements ++ (element ∷ [])) after

abbrev pub ToldElement : ℕ → Option RowKept → Bytes → ℕ → Option (Read (Option RowKept)) → Type 0
ToldElement n before text at (Some r) = ElementFound n before text at r.value r.next
ToldElement n before text at None = Refused 3 (read_number 3) text at

-- a tuple is read
abbrev pub read_tuple : Reading Row
read_tuple = separated 46 (read_number 3)

pub record TupleFound (n : ℕ) (text : Bytes) (at : ℕ) (kept : Option RowKept) (next : ℕ) : Type 0 where
  pub elements : Row
  pub found : Found read_tuple text at elements next
  pub later : at < next
  pub told : ToldRow n elements kept

abbrev pub ToldTuple : ℕ → Bytes → ℕ → Option (Read (Option RowKept)) → Type 0
ToldTuple n text at (Some r) = TupleFound n text at r.value r.next
ToldTuple n text at None = Refused 3 read_tuple text at

-- Many rows.

-- rows that may follow tuples of some total
abbrev pub rows_allowed : ℕ → ℕ → ℕ → List Row → Bool
rows_allowed n total arity ts = rows_fit n arity ts && (ascending ts && leb (total + length ts) tuple_count)

-- the last row's rank, or 0
abbrev pub last_rank : List Row → ℕ
last_rank [] = 0
last_rank (t ∷ []) = ranked t
last_rank (t ∷ u ∷ ts) = last_rank (u ∷ ts)

-- rows of an awaited input that were judged and stored, one number for each from its place on
pub record RowsFound (a : Awaited) (old new : List ℕ) (ts : List Row) (kept : RowsKept) : Type 0 where
  pub stored : new ≡ sets old a.to (map packed ts)
  pub counted : kept.count ≡ length ts
  pub fit : rows_fit a.domain a.arity ts ≡ true
  pub ordered : ascending ts ≡ true
  pub order : kept.last ≡ last_rank ts
  pub room : a.total + length ts ≤ 1024

abbrev pub ToldRows : Awaited → List ℕ → List ℕ → List Row → Option RowsKept → Type 0
ToldRows a old new ts (Some kept) = RowsFound a old new ts kept
ToldRows a old new ts None = 1 ≤ a.arity → (more : List Row) → rows_allowed a.domain a.total a.arity (ts ++ more) ≡ false

-- few enough to be counted on
abbrev pub RowsBounded : Option RowsKept → Type 0
RowsBounded (Some kept) = kept.count ≤ 1024
RowsBounded None = Unit {0}

-- a row more
pub record RowsMore (a : Awaited) (one : Option RowKept) (before after : Option RowsKept) (lent left : List ℕ) : Type 0 where
  pub told : (old : List ℕ) (ts : List Row) (t : Row) → ToldRow a.domain t one
      → ToldRows a old lent ts before → ToldRows a old left (ts ++ (t ∷ [])) after

-- tuples are read, one at least
abbrev pub read_some : Reading (List Row)
read_some = separated 44 read_tuple

pub record TuplesFound (reader : Reading (List Row)) (a : Awaited) (old new : List ℕ) (text : Bytes) (at : ℕ) (kept : Option RowsKept) (next : ℕ) : Type 0 where
  pub list : List Row
  pub found : Found reader text at list next
  pub told : ToldRows a old new list kept

abbrev pub ToldTuples : Reading (List Row) → Awaited → List ℕ → List ℕ → Bytes → ℕ → Option (Read (Option RowsKept)) → Type 0
ToldTuples reader a old new text at (Some r) = TuplesFound reader a old new text at r.value r.next
ToldTuples reader a old new text at None = Refused 3 reader text at

-- A whole `rows=` line.

-- a relation, without the words around it
abbrev pub read_kind : Reading Relation
read_kind =
    one_of (bytes "true" ⇒ give (truth_value true) ∷ bytes "false" ⇒ give (truth_value false) ∷ [])
    (read_tuples >>= λ rows. give (tuples rows))

-- what is kept of a relation
abbrev pub ToldKept : Awaited → List ℕ → List ℕ → Relation → RelationKept → Type 0
ToldKept a old new r (Truth value) = (r ≡ truth_value value) × (new ≡ old)
ToldKept a old new r (Listed kept) = (ts : List Row) × (r ≡ tuples ts) × ToldRows a old new ts kept

pub record RelationFound (reader : Reading Relation) (a : Awaited) (old new : List ℕ) (text : Bytes) (at : ℕ) (kept : RelationKept) (next : ℕ) : Type 0 where
  pub relation : Relation
  pub found : Found reader text at relation next
  pub told : ToldKept a old new relation kept

abbrev pub ToldRelation : Reading Relation → Awaited → List ℕ → List ℕ → Bytes → ℕ → Option (Read RelationKept) → Type 0
ToldRelation reader a old new text at (Some r) = RelationFound reader a old new text at r.value r.next
ToldRelation reader a old new text at None = Refused 3 reader text at

-- The rows that it gives a predicate.

-- what is judged of a predicate's rows, with a problem's domain and tuples
abbrev pub read_rows : Problem → ℕ → Reading (List Row)
read_rows P arity = do
  r ← read_relation
  judge (rows_for P arity r)

-- how many tuples rows are
abbrev pub tuple_size : ℕ → List Row → ℕ
tuple_size arity ts = cond (eqb arity 0) 0 (length ts)

-- rows that an awaited input may have, stored
pub record RowsStored (a : Awaited) (old new : List ℕ) (ts : List Row) (count : ℕ) : Type 0 where
  pub stored : new ≡ sets old a.to (map packed ts)
  pub counted : count ≡ length ts
  pub fit : rows_fit a.domain a.arity ts ≡ true
  pub room : a.total + tuple_size a.arity ts ≤ 1024
  pub few : length ts ≤ tuple_size a.arity ts + 1

-- a problem over the same elements whose inputs have so many tuples
pub record Suits (a : Awaited) (P : Problem) : Type 0 where
  pub domain : P.domain ≡ a.domain
  pub tuples : tuple_total P.inputs ≡ a.total

-- what a relation gives a predicate
pub record RowsAllowed (a : Awaited) (old new : List ℕ) (r : Relation) (count : ℕ) : Type 0 where
  pub list : List Row
  pub is : (P : Problem) → Suits a P → rows_for P a.arity r ≡ done list
  pub stored : RowsStored a old new list count

abbrev pub ToldGiven : Awaited → List ℕ → List ℕ → Relation → Option ℕ → Type 0
ToldGiven a old new r (Some count) = RowsAllowed a old new r count
ToldGiven a old new r None = (P : Problem) → Suits a P → rows_for P a.arity r ≡ refused 4

pub record RowsGiven (a : Awaited) (kept : RelationKept) (lent left : List ℕ) (answer : Option ℕ) : Type 0 where
  pub told : (old : List ℕ) (r : Relation) → ToldKept a old lent r kept → ToldGiven a old left r answer

pub record RowsTaken (a : Awaited) (old new : List ℕ) (text : Bytes) (at count next : ℕ) : Type 0 where
  pub list : List Row
  pub found : (P : Problem) → Suits a P → Taken (read_rows P a.arity) text at list next
  pub stored : RowsStored a old new list count

abbrev pub ToldRowsRead : Awaited → List ℕ → List ℕ → Bytes → ℕ → Result (Read ℕ) Fault → Type 0
ToldRowsRead a old new text at (Ok r) = RowsTaken a old new text at r.value r.next
ToldRowsRead a old new text at (Err fault) = (P : Problem) → Suits a P → Refused (fault_number fault) (read_rows P a.arity) text at
