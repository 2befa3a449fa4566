-- What the code tells of a problem that it reads line by line: the part that a table stands for, and what holds of the table on the way.
use Rattle.std.specs.Prelude.{ℕ, ◌+◌, ◌≤◌, ◌<◌, ◌≡◌, Result, Ok, Err, List, Bool, true, false}
use Rattle.grammar.specs.Bytes.{Bytes}
use Rattle.grammar.specs.Outcome.{done, refused}
use Rattle.grammar.specs.Reading.{Reading}
use Rattle.grammar.specs.Lines.{refusal}
use Rattle.grammar.specs.Problem.{Predicate, Problem, tuple_total, Part, start, declaring, awaiting, closing, problem_line, problem_of}
use Rattle.text.specs.memory.Found.{Taken, Refused}
use Rattle.text.specs.declared.read.Read.{Read}
use Rattle.table.specs.memory.Table.{entry, table_predicate, problem_in, Sized, with_rows, counted}
use Rattle.table.specs.declared.table.Table.{Table}
use Rattle.problem.specs.declared.fault.Fault.{Fault}
use Rattle.problem.specs.declared.progress.Stage.{Stage}
use Rattle.problem.specs.declared.progress.Stage.TheVariants.{Start, Declaring, Awaiting, Closing}
use Rattle.problem.specs.declared.progress.Progress.{Progress}
use Rattle.problem.specs.declared.rows.Awaited.{Awaited}
use Rattle.problem.specs.declared.problem_line.Refusal.{Refusal}
use Rattle.problem.specs.memory.Faults.{fault_number}

-- The part that is read so far.

-- by the stage, the problem so far and the predicate that awaits its rows
abbrev pub part_at : Stage → Problem → Predicate → Part
part_at Start P q = start
part_at Declaring P q = declaring P
part_at Awaiting P q = awaiting P q
part_at Closing P q = closing P

abbrev pub part_in : Bytes → Progress → List ℕ → Part
part_in text p rows = part_at p.stage (problem_in text p.table rows) (table_predicate text p.table p.table.count)

-- what each stage asks of the table
abbrev pub Staged : Stage → Table → Type 0
Staged Start table = (table.inputs ≡ 0) × (table.count ≡ 0)
Staged Declaring table = table.count ≡ table.inputs
Staged Awaiting table = (table.count ≡ table.inputs) × (table.count < 32) × ((entry table table.count).arity ≤ 3)
Staged Closing table = Unit {0}

-- what holds on the way: the tuples are counted, and every input's numbers stand before the next free place
pub record Standing (text : Bytes) (p : Progress) (rows : List ℕ) : Type 0 where
  pub staged : Staged p.stage p.table
  pub sum : tuple_total (problem_in text p.table rows).inputs ≡ p.total
  pub stored : (i : ℕ) → i < p.table.inputs → (entry p.table i).first + (entry p.table i).rows ≤ p.used

-- a part is read
pub record PartFound (reader : Reading Part) (text : Bytes) (at : ℕ) (rows : List ℕ) (p : Progress) (next : ℕ) : Type 0 where
  pub found : Taken reader text at (part_in text p rows) next
  pub standing : Standing text p rows

abbrev pub ToldPart : Reading Part → Bytes → ℕ → List ℕ → Result (Read Progress) Fault → Type 0
ToldPart reader text at rows (Ok r) = PartFound reader text at rows r.value r.next
ToldPart reader text at rows (Err fault) = Refused (fault_number fault) reader text at

-- a line is read where the reading stands
abbrev pub ToldProblemLine : Bytes → ℕ → Progress → List ℕ → List ℕ → Result (Read Progress) Fault → Type 0
ToldProblemLine text at p old new r = ToldPart (problem_line (part_in text p old)) text at new r

-- a line that leaves the rows as they are, whatever they are
pub record LineTold (reader : List ℕ → Reading Part) (text : Bytes) (at : ℕ) (before : Progress) (r : Result (Read Progress) Fault) : Type 0 where
  pub told : (rows : List ℕ) → Standing text before rows → ToldPart (reader rows) text at rows r

-- the input that awaits its rows, which stand from the next place on
pub record Awaits (p : Progress) (a : Awaited) : Type 0 where
  pub arity : a.arity ≡ (entry p.table p.table.count).arity
  pub domain : a.domain ≡ p.table.domain
  pub total : a.total ≡ p.total
  pub to : a.to ≡ p.used

-- the awaited input with so many rows, from the next place on, which are so many tuples
pub record WithRows (p : Progress) (count tuples : ℕ) (q : Progress) : Type 0 where
  pub stage : q.stage ≡ Declaring
  pub table : q.table ≡ counted (with_rows p.table p.used count) (p.table.inputs + 1) (p.table.count + 1)
  pub used : q.used ≡ p.used + count
  pub total : q.total ≡ p.total + tuples
  pub sized : Sized p.table

-- The whole text.

-- a text may end at a stage
abbrev pub may_end : Stage → Bool
may_end Start = false
may_end Declaring = true
may_end Awaiting = false
may_end Closing = true

-- nothing is read
pub record Beginning (p : Progress) : Type 0 where
  pub stage : p.stage ≡ Start
  pub domain : p.table.domain ≡ 0
  pub inputs : p.table.inputs ≡ 0
  pub count : p.table.count ≡ 0
  pub used : p.used ≡ 0
  pub total : p.total ≡ 0

-- the text is a problem's, that of the table and the rows
pub record ProblemFound (text : Bytes) (rows : List ℕ) (table : Table) : Type 0 where
  pub is : problem_of text ≡ done (problem_in text table rows)
  pub inside : table.inputs ≤ table.count
  pub few : table.count ≤ 32
  pub small : table.domain ≤ 64

-- the text is what the definition says: the problem of the table and the rows, or the refusal
abbrev pub ProblemTold : Bytes → List ℕ → Result Table Refusal → Type 0
ProblemTold text rows (Ok table) = ProblemFound text rows table
ProblemTold text rows (Err r) = problem_of text ≡ refused (refusal (fault_number r.fault) 1 r.line)
