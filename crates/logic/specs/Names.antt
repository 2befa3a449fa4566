-- Number 7: every predicate known with its arity, every element in the domain, no variable free.
use Rattle.std.specs.Prelude.{ℕ, Bool, true, false, ◌&&◌, ◌||◌}
use Rattle.grammar.specs.Bytes.{same}
use Rattle.grammar.specs.Problem.{Name, Problem, predicates, declared, is_element}
use Rattle.logic.specs.Formula.{Term, element, variable, Terms, no_terms, term, term_count, Formula, truth, atom, equal, connective, quantifier, Formulas, no_parts, part}

abbrev pub term_known : ℕ → Term → Bool
term_known n (element v) = is_element n v
term_known n (variable x) = true

abbrev pub terms_known : ℕ → Terms → Bool
terms_known n no_terms = true
terms_known n (term t ts) = term_known n t && terms_known n ts

unfoldable mutual
  pub known : Problem → Formula → Bool
  known P (truth b) = true
  known P (atom p ts) = declared (predicates P) p (term_count ts) && terms_known P.domain ts
  known P (equal s t) = term_known P.domain s && term_known P.domain t
  known P (connective o fs) = all_known P fs
  known P (quantifier c x g f) = known P g && known P f

  pub all_known : Problem → Formulas → Bool
  all_known P no_parts = true
  all_known P (part f fs) = known P f && all_known P fs

-- which variables are bound: none at first, and one more below a quantifier
abbrev pub none : Name → Bool
none x = false

abbrev pub besides : Name → (Name → Bool) → Name → Bool
besides y bound x = same x y || bound x

abbrev pub term_closed : (Name → Bool) → Term → Bool
term_closed bound (element v) = true
term_closed bound (variable x) = bound x

abbrev pub terms_closed : (Name → Bool) → Terms → Bool
terms_closed bound no_terms = true
terms_closed bound (term t ts) = term_closed bound t && terms_closed bound ts

-- every variable is bound, around the formula or on the way to it
unfoldable mutual
  pub closed : (Name → Bool) → Formula → Bool
  closed bound (truth b) = true
  closed bound (atom p ts) = terms_closed bound ts
  closed bound (equal s t) = term_closed bound s && term_closed bound t
  closed bound (connective o fs) = all_closed bound fs
  closed bound (quantifier c x g f) = closed (besides x bound) g && closed (besides x bound) f

  pub all_closed : (Name → Bool) → Formulas → Bool
  all_closed bound no_parts = true
  all_closed bound (part f fs) = closed bound f && all_closed bound fs

abbrev pub names_fit : Problem → Formula → Bool
names_fit P f = known P f && closed none f

-- number 14's test: no variable but x is free
abbrev pub closed_but : Name → Formula → Bool
closed_but x g = closed (besides x none) g
