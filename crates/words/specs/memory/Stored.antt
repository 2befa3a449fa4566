-- The formula that stands at the head of a list of words, whatever the words are: each index is taken within its table, and past the end a word is 0.
use Rattle.std.specs.Prelude.{ℕ, zero, suc, ◌/◌, ◌%◌, List, [], ◌∷◌, Bool, true, false, cond, eqb, get_or, drop}
use Rattle.grammar.specs.Problem.{Name}
use Rattle.logic.specs.Formula.{Term, element, variable, Terms, no_terms, term, Side, all, any, Connective, negation, implies, implied_by, equivalent, junction}
use Rattle.logic.specs.Formula.{Formula, truth, atom, equal, connective, quantifier, Formulas, no_parts, part}
use Rattle.words.specs.memory.Kinds.{kind_of, skip}
use Rattle.words.specs.declared.word.Sign.{Sign}
use Rattle.words.specs.declared.word.Sign.TheVariants.{Negation, Implies, ImpliedBy, Equivalent, Junction}
use Rattle.words.specs.declared.word.Kind.{Kind}
use Rattle.words.specs.declared.word.Kind.TheVariants as kind

abbrev pub side_of : Bool → Side
side_of true = all
side_of false = any

abbrev pub connective_of : Sign → Connective
connective_of Negation = negation
connective_of Implies = implies
connective_of ImpliedBy = implied_by
connective_of Equivalent = equivalent
connective_of (Junction every) = junction (side_of every)

-- what follows the first formula
abbrev pub after_first : List ℕ → List ℕ
after_first s = drop (skip s 1) s

-- by the name of each variable
module _ (variable_name : ℕ → Name) where
  abbrev pub term_of : ℕ → Term
  term_of word = cond (eqb (word % 16) 12) (element (word / 16 % 256)) (variable (variable_name (word / 16 % 64)))

  unfoldable pub terms_at : ℕ → List ℕ → Terms
  terms_at zero s = no_terms
  terms_at (suc n) s = term (term_of (get_or s 0 0)) (terms_at n (drop 1 s))

-- so many formulas, one after the other, each read by `read`
unfoldable pub parts_by : (List ℕ → Formula) → ℕ → List ℕ → Formulas
parts_by read zero s = no_parts
parts_by read (suc n) s = part (read s) (parts_by read n (after_first s))

-- by the name of each variable and of each predicate
module _ (variable_name predicate_name : ℕ → Name) where
  -- a formula of a kind, whose parts are read by `read`
  unfoldable pub formula_by : (List ℕ → Formula) → Kind → List ℕ → Formula
  formula_by read (kind.Truth b) s = truth b
  formula_by read (kind.Atom p n) s = atom (predicate_name (p % 32)) (terms_at variable_name (n % 4) s)
  formula_by read kind.Equality s = equal (term_of variable_name (get_or s 0 0)) (term_of variable_name (get_or s 1 0))
  formula_by read (kind.Connective o n) s = connective (connective_of o) (parts_by read n s)
  formula_by read (kind.Quantifier e x) s = quantifier (side_of e) (variable_name (x % 64)) (read s) (read (after_first s))
  formula_by read kind.Term s = truth false

  -- within so many levels
  unfoldable pub formula_at : ℕ → List ℕ → Formula
  formula_at zero s = truth false
  formula_at (suc levels) s = formula_by (formula_at levels) (kind_of (get_or s 0 0)) (drop 1 s)

-- Memory has indices and no names: there an index stands for its name.
abbrev pub index_name : ℕ → Name
index_name i = i ∷ []

-- the formula in memory, by indices
abbrev pub stored : ℕ → List ℕ → Formula
stored = formula_at index_name index_name
