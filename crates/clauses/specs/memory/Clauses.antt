-- Whether a ground clause stands in memory, whatever the words are; an output predicate is one whose index is behind the inputs'.
use Rattle.std.specs.Prelude.{ℕ, zero, suc, ◌%◌, List, [], ◌∷◌, Bool, true, false, not, ◌&&◌, eqb, leb, ltb, get_or, drop}
use Rattle.table.specs.declared.table.Table.{Table}
use Rattle.words.specs.memory.Kinds.{kind_of, elements_at}
use Rattle.words.specs.memory.Stored.{after_first}
use Rattle.words.specs.declared.word.Sign.{Sign}
use Rattle.words.specs.declared.word.Sign.TheVariants.{Negation, Implies, ImpliedBy, Equivalent, Junction}
use Rattle.words.specs.declared.word.Kind.{Kind}
use Rattle.words.specs.declared.word.Kind.TheVariants.{Truth, Atom, Equality, Connective, Quantifier, Term}

-- so many formulas, one after the other, pass a test
unfoldable pub all_at : (List ℕ → Bool) → ℕ → List ℕ → Bool
all_at test zero s = true
all_at test (suc n) s = test s && all_at test n (after_first s)

module _ (table : Table) where
  abbrev pub is_output_index : ℕ → Bool
  is_output_index p = leb table.inputs p && ltb p table.count

  abbrev pub ground_atom_by : Kind → List ℕ → Bool
  ground_atom_by (Truth b) s = false
  ground_atom_by (Atom p n) s = is_output_index p && elements_at (n % 4) s
  ground_atom_by Equality s = false
  ground_atom_by (Connective o n) s = false
  ground_atom_by (Quantifier every x) s = false
  ground_atom_by Term s = false

  unfoldable pub ground_atom_at : List ℕ → Bool
  ground_atom_at s = ground_atom_by (kind_of (get_or s 0 0)) (drop 1 s)

  -- a connective, whose parts are judged by `test`
  abbrev pub connective_clause_at : (List ℕ → Bool) → Sign → ℕ → List ℕ → Bool
  connective_clause_at test Negation n s = eqb n 1 && ground_atom_at s
  connective_clause_at test Implies n s = false
  connective_clause_at test ImpliedBy n s = false
  connective_clause_at test Equivalent n s = false
  connective_clause_at test (Junction true) n s = false
  connective_clause_at test (Junction false) n s = not (eqb n 0) && all_at test n s

  abbrev pub clause_by : (List ℕ → Bool) → Kind → List ℕ → Bool
  clause_by test (Truth b) s = false
  clause_by test (Atom p n) s = ground_atom_by (Atom p n) s
  clause_by test Equality s = false
  clause_by test (Connective o n) s = connective_clause_at test o n s
  clause_by test (Quantifier every x) s = false
  clause_by test Term s = false

  -- within so many levels
  unfoldable pub clause_at : ℕ → List ℕ → Bool
  clause_at zero s = false
  clause_at (suc levels) [] = false
  clause_at (suc levels) (w ∷ s) = clause_by (clause_at levels) (kind_of w) s
