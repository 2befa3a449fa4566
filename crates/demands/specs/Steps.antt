-- The paper's table 2 with tables 1 and 3 behind it: one line is allowed from one theory to the next.
use Rattle.std.specs.Prelude.{ℕ, ◌≡◌, List, [], ◌∷◌, ◌++◌, Bool, true, false, not, ◌&&◌, eqb}
use Rattle.grammar.specs.Problem.{Problem}
use Rattle.grammar.specs.Derivation.{Position, Rule, RuleLine, rewrite, unsat, trivial, splitc}
use Rattle.logic.specs.Formula.{Formula, truth, connective, junction, all, Formulas, no_parts, part}
use Rattle.logic.specs.Limits.{sizes_fit}
use Rattle.logic.specs.Tables.{MakesAt}
use Rattle.demands.specs.Theory.{Theory, entry, formulas_of, State, live, ended, climbing, highest}

abbrev pub position : ℕ → List ℕ → Position
position n path = record { name = n; path = path }

-- no formula has that name
abbrev pub absent : ℕ → Theory → Bool
absent n [] = true
absent n (e ∷ es) = not (eqb e.name n) && absent n es

-- a list of parts under as many names
pub data Named : List ℕ → Formulas → Theory → Type 0 where
  none_named : Named [] no_parts []
  one_named : (n : ℕ) (ns : List ℕ) (f : Formula) (fs : Formulas) (ts : Theory) → Named ns fs ts → Named (n ∷ ns) (part f fs) (entry n f ∷ ts)

-- `before` and `after` are the formulas around the one that the line names
pub data Step (P : Problem) : State → RuleLine → State → Type 0 where
  rewriting : (r : Rule) (n : ℕ) (path : List ℕ) (before after : Theory) (f h : Formula) (used : ℕ)
      → absent n before ≡ true → MakesAt P r path f h → sizes_fit (formulas_of (before ++ (entry n h ∷ after))) ≡ true
      → Step P (live (before ++ (entry n f ∷ after)) used) (rewrite r (position n path)) (live (before ++ (entry n h ∷ after)) used)
  removing : (n : ℕ) (before after : Theory) (used : ℕ)
      → absent n before ≡ true → sizes_fit (formulas_of (before ++ after)) ≡ true
      → Step P (live (before ++ (entry n (truth true) ∷ after)) used) (trivial (position n [])) (live (before ++ after) used)
  splitting : (n : ℕ) (names : List ℕ) (before parts after : Theory) (f : Formula) (fs : Formulas) (used : ℕ)
      → absent n before ≡ true → climbing used names ≡ true → Named names (part f fs) parts → sizes_fit (formulas_of (before ++ (parts ++ after))) ≡ true
      → Step P (live (before ++ (entry n (connective (junction all) (part f fs)) ∷ after)) used) (splitc (position n []) names)
      (live (before ++ (parts ++ after)) (highest used names))
  ending : (n : ℕ) (before after : Theory) (used : ℕ) → absent n before ≡ true
      → Step P (live (before ++ (entry n (truth false) ∷ after)) used) (unsat (position n [])) (ended n used)

-- line after line
pub data Steps (P : Problem) : State → List RuleLine → State → Type 0 where
  stop : (s : State) → Steps P s [] s
  go : (s u v : State) (l : RuleLine) (ls : List RuleLine) → Step P s l u → Steps P u ls v → Steps P s (l ∷ ls) v
