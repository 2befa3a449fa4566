-- What the code tells of the lines that declare: the domain's size, and a predicate by its name's size and its arity.
use Rattle.std.specs.Prelude.{ℕ, ◌+◌, ◌≤◌, ◌<◌, ◌≡◌, Option, Some, None, Result, Ok, Err, Bool, ◌&&◌, eqb, leb, ltb, length, take, drop}
use Rattle.grammar.specs.Sizes.{greatest_arity, name_size, predicate_count}
use Rattle.grammar.specs.Bytes.{Bytes, bytes}
use Rattle.grammar.specs.Reading.{Reading, give, ◌>>=◌, ◌>>◌, require, word, read_number}
use Rattle.grammar.specs.Problem.{Predicate, Problem, predicates, read_predicate, predicate_fits}
use Rattle.text.specs.memory.Found.{Found, Taken, Refused}
use Rattle.text.specs.memory.Numbers.{beyond}
use Rattle.text.specs.declared.read.Read.{Read}
use Rattle.text.specs.declared.name.Name.{Name}
use Rattle.table.specs.memory.Table.{position, indexed, name_at, table_names, table_predicate, entry, with_name}
use Rattle.table.specs.declared.table.Table.{Table}
use Rattle.problem.specs.declared.declaration.Declaration.{Declaration}
use Rattle.problem.specs.declared.fault.Fault.{Fault}
use Rattle.problem.specs.memory.Faults.{fault_number}

-- a number as it is told: itself, or nothing of one that is too large
abbrev pub IsTold : Option ℕ → ℕ → Type 0
IsTold (Some n) number = number ≡ n
IsTold None number = beyond ≤ number

-- a number is read
pub record NumberTold (reader : Reading ℕ) (text : Bytes) (at : ℕ) (value : Option ℕ) (next : ℕ) : Type 0 where
  pub number : ℕ
  pub is : IsTold value number
  pub found : Taken reader text at number next

-- a number that ends its line
unfoldable pub read_last_number : Reading ℕ
read_last_number = do
  n ← read_number 3
  word 3 (bytes "\n")
  give n

abbrev pub ToldLast : Reading ℕ → Bytes → ℕ → Option (Read (Option ℕ)) → Type 0
ToldLast reader text at (Some r) = NumberTold reader text at r.value r.next
ToldLast reader text at None = Refused 3 reader text at

-- a predicate whose name stands at a place
abbrev pub predicate_at : Bytes → ℕ → ℕ → ℕ → Predicate
predicate_at text at size arity = record { name = take size (drop at text); arity = arity }

-- a predicate is read
pub record PredicateFound (text : Bytes) (at : ℕ) (declared : Declaration) (next : ℕ) : Type 0 where
  pub arity : ℕ
  pub is : IsTold declared.arity arity
  pub found : Found read_predicate text at (predicate_at text at declared.size arity) next
  pub short : at + declared.size < next

abbrev pub ToldDeclaration : Bytes → ℕ → Option (Read Declaration) → Type 0
ToldDeclaration text at (Some r) = PredicateFound text at r.value r.next
ToldDeclaration text at None = Refused 3 read_predicate text at

-- A predicate that is declared, judged and entered.

-- a predicate by the place of its name
abbrev pub named_at : Bytes → Name → ℕ → Predicate
named_at text name arity = record { name = name_at text name; arity = arity }

-- it may join those of a table
unfoldable pub predicate_fits_in : Bytes → Table → Predicate → Bool
predicate_fits_in text table q =
    leb q.arity greatest_arity
    && (leb (length q.name) name_size && (eqb (position q.name (table_names text table)) table.count && ltb table.count predicate_count))

-- a predicate that may join a problem's
abbrev pub read_declared : Problem → Reading Predicate
read_declared P = do
  q ← read_predicate
  require 4 (predicate_fits P q)
  give q

-- whatever problem has the table's predicates
abbrev pub HasPredicates : Bytes → Table → Problem → Type 0
HasPredicates text table P = predicates P ≡ indexed (table_predicate text table) 0 table.count

-- it is read, and its name and arity are entered behind the table's predicates
pub record DeclaredFound (text : Bytes) (at : ℕ) (table entered : Table) (next : ℕ) : Type 0 where
  pub name : Name
  pub arity : ℕ
  pub is : entered ≡ with_name table name arity
  pub room : table.count < 32
  pub few : (entry entered table.count).arity ≤ 3
  pub found : (P : Problem) → HasPredicates text table P → Taken (read_declared P) text at (table_predicate text entered table.count) next

abbrev pub ToldDeclared : Bytes → ℕ → Table → Result (Read Table) Fault → Type 0
ToldDeclared text at table (Ok r) = DeclaredFound text at table r.value r.next
ToldDeclared text at table (Err fault) = (P : Problem) → HasPredicates text table P → Refused (fault_number fault) (read_declared P) text at
