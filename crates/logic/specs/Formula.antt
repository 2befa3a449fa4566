-- Terms and formulas; their size and depth; an element put for a variable.
use Rattle.std.specs.Prelude.{ℕ, suc, ◌+◌, max, List, [], ◌∷◌, Bool, cond}
use Rattle.grammar.specs.Bytes.{same}
use Rattle.grammar.specs.Problem.{Name}

pub data Term : Type 0 where
  element : ℕ → Term
  variable : Name → Term

pub data Terms : Type 0 where
  no_terms : Terms
  term : Term → Terms → Terms

-- `&` and `!` ask for all, `|` and `?` for any
pub data Side : Type 0 where
  all any : Side

-- `~`, `=>`, `<=`, `<=>`, and `&` or `|`
pub data Connective : Type 0 where
  negation implies implied_by equivalent : Connective
  junction : Side → Connective

mutual
  -- a truth value, an atom, an equality, a connective with its parts, a quantifier with its variable, guard and body
  pub data Formula : Type 0 where
    truth : Bool → Formula
    atom : Name → Terms → Formula
    equal : Term → Term → Formula
    connective : Connective → Formulas → Formula
    quantifier : Side → Name → Formula → Formula → Formula

  pub data Formulas : Type 0 where
    no_parts : Formulas
    part : Formula → Formulas → Formulas

abbrev pub terms_of : List Term → Terms
terms_of [] = no_terms
terms_of (t ∷ ts) = term t (terms_of ts)

abbrev pub parts_of : List Formula → Formulas
parts_of [] = no_parts
parts_of (f ∷ fs) = part f (parts_of fs)

-- one part alone, and `otherwise` for none or several
abbrev pub on_sole : {A : Type 0} → A → (Formula → A) → Formulas → A
on_sole otherwise k no_parts = otherwise
on_sole otherwise k (part f no_parts) = k f
on_sole otherwise k (part f (part g fs)) = otherwise

abbrev pub term_count : Terms → ℕ
term_count no_terms = 0
term_count (term t ts) = suc (term_count ts)

-- 1 for each truth value, connective, quantifier, predicate or `=`, and 1 for each term
unfoldable mutual
  pub size : Formula → ℕ
  size (truth b) = 1
  size (atom p ts) = suc (term_count ts)
  size (equal s t) = 3
  size (connective o fs) = suc (sizes fs)
  size (quantifier c x g f) = suc (size g + size f)

  pub sizes : Formulas → ℕ
  sizes no_parts = 0
  sizes (part f fs) = size f + sizes fs

-- an atom is of depth 1, and guards count
unfoldable mutual
  pub depth : Formula → ℕ
  depth (truth b) = 1
  depth (atom p ts) = 1
  depth (equal s t) = 1
  depth (connective o fs) = suc (depths fs)
  depth (quantifier c x g f) = suc (max (depth g) (depth f))

  pub depths : Formulas → ℕ
  depths no_parts = 0
  depths (part f fs) = max (depth f) (depths fs)

-- v for x; it stops at a quantifier that binds x again, its guard included
abbrev pub replace_term : Name → ℕ → Term → Term
replace_term x v (element k) = element k
replace_term x v (variable y) = cond (same y x) (element v) (variable y)

abbrev pub replace_terms : Name → ℕ → Terms → Terms
replace_terms x v no_terms = no_terms
replace_terms x v (term t ts) = term (replace_term x v t) (replace_terms x v ts)

unfoldable mutual
  pub replace : Name → ℕ → Formula → Formula
  replace x v (truth b) = truth b
  replace x v (atom p ts) = atom p (replace_terms x v ts)
  replace x v (equal s t) = equal (replace_term x v s) (replace_term x v t)
  replace x v (connective o fs) = connective o (replaces x v fs)
  replace x v (quantifier c y g f) = cond (same y x) (quantifier c y g f) (quantifier c y (replace x v g) (replace x v f))

  pub replaces : Name → ℕ → Formulas → Formulas
  replaces x v no_parts = no_parts
  replaces x v (part f fs) = part (replace x v f) (replaces x v fs)
