-- Number 9: the limits of a theory.
use Rattle.std.specs.Prelude.{ℕ, suc, ◌+◌, max, List, [], ◌∷◌, ◌++◌, Bool, cond, ◌&&◌, leb, length}
use Rattle.grammar.specs.Sizes.{name_size, variable_count, guard_quantifier_count, formula_count, theory_size}
use Rattle.grammar.specs.Bytes.{member, every}
use Rattle.grammar.specs.Problem.{Name}
use Rattle.logic.specs.Formula.{Term, element, variable, Terms, no_terms, term, Formula, truth, atom, equal, connective, quantifier, Formulas, no_parts, part, size}

-- the most quantifiers on a path, through guards and bodies alike
unfoldable mutual
  pub quantifiers : Formula → ℕ
  quantifiers (truth b) = 0
  quantifiers (atom p ts) = 0
  quantifiers (equal s t) = 0
  quantifiers (connective o fs) = most_quantifiers fs
  quantifiers (quantifier c x g f) = suc (max (quantifiers g) (quantifiers f))

  pub most_quantifiers : Formulas → ℕ
  most_quantifiers no_parts = 0
  most_quantifiers (part f fs) = max (quantifiers f) (most_quantifiers fs)

-- the most quantifiers on a path inside a guard
unfoldable mutual
  pub guard_quantifiers : Formula → ℕ
  guard_quantifiers (truth b) = 0
  guard_quantifiers (atom p ts) = 0
  guard_quantifiers (equal s t) = 0
  guard_quantifiers (connective o fs) = most_guard_quantifiers fs
  guard_quantifiers (quantifier c x g f) = max (quantifiers g) (guard_quantifiers f)

  pub most_guard_quantifiers : Formulas → ℕ
  most_guard_quantifiers no_parts = 0
  most_guard_quantifiers (part f fs) = max (guard_quantifiers f) (most_guard_quantifiers fs)

abbrev pub term_variables : Term → List Name
term_variables (element v) = []
term_variables (variable x) = x ∷ []

abbrev pub terms_variables : Terms → List Name
terms_variables no_terms = []
terms_variables (term t ts) = term_variables t ++ terms_variables ts

-- the names after `!` or `?` or as terms, guards included, as often as they are written
unfoldable mutual
  pub variables : Formula → List Name
  variables (truth b) = []
  variables (atom p ts) = terms_variables ts
  variables (equal s t) = term_variables s ++ term_variables t
  variables (connective o fs) = all_variables fs
  variables (quantifier c x g f) = x ∷ (variables g ++ variables f)

  pub all_variables : Formulas → List Name
  all_variables no_parts = []
  all_variables (part f fs) = variables f ++ all_variables fs

abbrev pub theory_variables : List Formula → List Name
theory_variables [] = []
theory_variables (f ∷ fs) = variables f ++ theory_variables fs

-- how many different names
abbrev pub different_count : List Name → ℕ
different_count [] = 0
different_count (x ∷ xs) = cond (member x xs) (different_count xs) (suc (different_count xs))

abbrev pub names_short : List Name → Bool
names_short xs = every (λ x. leb (length x) name_size) xs

abbrev pub guards_fit : List Formula → Bool
guards_fit fs = every (λ f. leb (guard_quantifiers f) guard_quantifier_count) fs

abbrev pub size_total : List Formula → ℕ
size_total [] = 0
size_total (f ∷ fs) = size f + size_total fs

-- so many formulas, of so much size together
abbrev pub sizes_fit : List Formula → Bool
sizes_fit fs = leb (size_total fs) theory_size && leb (length fs) formula_count

-- a theory, as far as it is read
abbrev pub limits_fit : List Formula → Bool
limits_fit fs = sizes_fit fs && (leb (different_count (theory_variables fs)) variable_count && (names_short (theory_variables fs) && guards_fit fs))
