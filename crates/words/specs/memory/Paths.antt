-- The place of a path in memory.
use Rattle.std.specs.Prelude.{ℕ, ◌+◌, ◌≤◌, List, [], ◌∷◌, cond, ltb, get_or, drop, Option, Some, None, IfSome, option_and_then}
use Rattle.words.specs.memory.Kinds.{kind_of, skip}
use Rattle.words.specs.declared.word.Kind.{Kind}
use Rattle.words.specs.declared.word.Kind.TheVariants.{Truth, Atom, Equality, Connective, Quantifier, Term}

-- how many formulas a path can go on to; none from an atom
abbrev pub subformula_count : Kind → ℕ
subformula_count (Truth b) = 0
subformula_count (Atom p n) = 0
subformula_count Equality = 0
subformula_count (Connective o n) = n
subformula_count (Quantifier e x) = 2
subformula_count Term = 0

-- one level down from a place
unfoldable pub place_below : List ℕ → ℕ → ℕ → Option ℕ
place_below work at i = cond (ltb i (subformula_count (kind_of (get_or work at 0)))) (Some (at + 1 + skip (drop (at + 1) work) i)) None

unfoldable pub place_of : List ℕ → List ℕ → ℕ → Option ℕ
place_of work [] at = Some at
place_of work (i ∷ is) at = option_and_then (place_of work is) (place_below work at i)

-- a place, if there is one, is within so many words
abbrev pub Within : ℕ → Option ℕ → Type 0
Within n place = IfSome place (λ j. j ≤ n)
