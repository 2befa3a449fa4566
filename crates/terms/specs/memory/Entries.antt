-- What reading leaves in memory: the variables in their table, and the words.
use Rattle.std.specs.Prelude.{ℕ, ◌+◌, ◌≡◌, List, Bool, true}
use Rattle.std.proofs.lemmas.List.Edits.{sets}
use Rattle.grammar.specs.Bytes.{Bytes}
use Rattle.grammar.specs.Problem.{Name, Problem}
use Rattle.logic.specs.Names.{none, besides}
use Rattle.text.specs.declared.name.Name.{Name as Place}
use Rattle.table.specs.memory.Table.{position, name_at, table_names}
use Rattle.table.specs.declared.table.Table.{Table}
use Rattle.terms.specs.declared.name_table.NameTable.{NameTable}
use Rattle.terms.specs.declared.setting.Setting.{Setting as Given}
use Rattle.terms.specs.memory.NameTable.{extended_by, index_in, names_in}
use Rattle.terms.specs.memory.Bindings.{bound_in}
use Rattle.terms.specs.memory.Signature.{signature_of}

-- what is read where: the theory's text, the problem, the variables bound around, the index of each predicate
pub record Setting : Type 0 where
  pub text : Bytes
  pub problem : Problem
  pub bound : Name → Bool
  pub index : Name → ℕ

abbrev pub setting : Bytes → (Name → Bool) → Problem → (Name → ℕ) → Setting
setting text bound problem index = record { text = text; problem = problem; bound = bound; index = index }

-- as the code has it: a predicate's index is its place in the table
abbrev pub predicate_index : Bytes → Table → Name → ℕ
predicate_index problem table p = position p (table_names problem table)

abbrev pub setting_of : Given → Setting
setting_of given =
    setting given.text.now (bound_in given.text.now given.scope) (signature_of given.problem.now given.table.now) (predicate_index given.problem.now given.table.now)

-- a problem with its table, where a text is read and no variable is bound around
pub record Outermost (theory source : Bytes) (entries : Table) (given : Given) : Type 0 where
  pub is : setting_of given ≡ setting theory none (signature_of source entries) (predicate_index source entries)
  pub text : given.text.now ≡ theory
  pub problem : given.problem.now ≡ source
  pub table : given.table.now ≡ entries
  pub count : given.scope.count ≡ 0

-- the same with one variable more, whose name stands at a place of the text
pub record BindsIn (given : Given) (name : Place) (inner : Given) : Type 0 where
  pub is : setting_of inner ≡ record (setting_of given) { bound = besides (name_at given.text.now name) (setting_of given).bound }
  pub text : inner.text.now ≡ given.text.now
  pub count : inner.scope.count ≡ given.scope.count + 1

-- lent memory: the variables' table, and the words
pub record Memory : Type 0 where
  pub names : NameTable
  pub work : List ℕ

abbrev pub memory : NameTable → List ℕ → Memory
memory names work = record { names = names; work = work }

-- variables are in their table, if there is room; and words, which go by the variables' indices, stand from a place on as far as memory goes,
-- where every element and predicate that they are of is known
pub record Entered (text : Bytes) (variables : List Name) (known : Bool) (words : (Name → ℕ) → List ℕ) (old : Memory) (to : ℕ) (new : Memory) : Type 0 where
  pub names : names_in text new.names ≡ extended_by (names_in text old.names) variables
  pub work : known ≡ true → new.work ≡ sets old.work to (words (index_in (names_in text new.names)))
