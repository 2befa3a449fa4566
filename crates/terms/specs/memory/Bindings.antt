-- The variables bound around a formula, as the code keeps them: by the places of their names in the theory's text.
use Rattle.std.specs.Prelude.{ℕ, zero, suc, ◌+◌, ◌≡◌, List, [], ◌∷◌, Bool, get_or}
use Rattle.grammar.specs.Bytes.{Bytes, member}
use Rattle.grammar.specs.Problem.{Name}
use Rattle.logic.specs.Names.{besides}
use Rattle.text.specs.declared.name.Name.{Name as Place}
use Rattle.table.specs.memory.Table.{name_at}
use Rattle.terms.specs.declared.binding.Scope.{Scope}

-- the name at an index, the empty one where there is no place
abbrev pub scope_name : Bytes → Scope → ℕ → Name
scope_name text scope i = name_at text (get_or scope.names i (record { start = 0; size = 0 }))

-- the names at so many indices, the last first
unfoldable pub names_below : (ℕ → Name) → ℕ → List Name
names_below name zero = []
names_below name (suc i) = name i ∷ names_below name i

-- the test of variables that a scope stands for
unfoldable pub bound_in : Bytes → Scope → Name → Bool
bound_in text scope x = member x (names_below (scope_name text scope) scope.count)

-- a scope with one variable more
pub record Binds (scope : Scope) (name : Place) (more : Scope) : Type 0 where
  pub is : (text : Bytes) → bound_in text more ≡ besides (name_at text name) (bound_in text scope)
  pub count : more.count ≡ scope.count + 1
