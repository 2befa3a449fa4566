-- The text of a formula, and which formulas are well spelled.
use Rattle.std.specs.Prelude.{List, [], ◌∷◌, ◌++◌, Bool, true, false, not, ◌&&◌}
use Rattle.grammar.specs.Bytes.{Bytes, bytes, next, same, every, is_small, is_small_or_digit, joined}
use Rattle.grammar.specs.Numbers.{decimal}
use Rattle.grammar.specs.Problem.{Name, is_name}
use Rattle.logic.specs.Formula.{Term, element, variable, Terms, no_terms, term, Side, all, any, Connective, negation, implies, implied_by, equivalent, junction}
use Rattle.logic.specs.Formula.{Formula, truth, atom, equal, connective, quantifier, Formulas, no_parts, part, on_sole}

abbrev pub truth_text : Bool → Bytes
truth_text true = bytes "true"
truth_text false = bytes "false"

abbrev pub connective_sign : Connective → Bytes
connective_sign negation = bytes "~"
connective_sign implies = bytes "=>"
connective_sign implied_by = bytes "<="
connective_sign equivalent = bytes "<=>"
connective_sign (junction all) = bytes "&"
connective_sign (junction any) = bytes "|"

abbrev pub quantifier_sign : Side → Bytes
quantifier_sign all = bytes "!"
quantifier_sign any = bytes "?"

abbrev pub term_text : Term → Bytes
term_text (element v) = decimal v
term_text (variable x) = x

abbrev pub term_texts : Terms → List Bytes
term_texts no_terms = []
term_texts (term t ts) = term_text t ∷ term_texts ts

-- in brackets, with commas
abbrev pub bracketed : List Bytes → Bytes
bracketed ws = bytes "(" ++ (joined 44 ws ++ bytes ")")

abbrev pub arguments_text : Terms → Bytes
arguments_text no_terms = []
arguments_text (term t ts) = bracketed (term_texts (term t ts))

-- of a connective whose parts have these texts
abbrev pub connective_text : Connective → List Bytes → Bytes
connective_text negation ws = connective_sign negation ++ joined 44 ws
connective_text implies ws = connective_sign implies ++ bracketed ws
connective_text implied_by ws = connective_sign implied_by ++ bracketed ws
connective_text equivalent ws = connective_sign equivalent ++ bracketed ws
connective_text (junction c) ws = connective_sign (junction c) ++ bracketed ws

unfoldable mutual
  pub text_of : Formula → Bytes
  text_of (truth b) = truth_text b
  text_of (atom p ts) = p ++ arguments_text ts
  text_of (equal s t) = bytes "=" ++ bracketed (term_text s ∷ term_text t ∷ [])
  text_of (connective o fs) = connective_text o (texts_of fs)
  text_of (quantifier c x g f) = quantifier_sign c ++ (x ++ (bytes "[" ++ (text_of g ++ (bytes "]:" ++ text_of f))))

  pub texts_of : Formulas → List Bytes
  texts_of no_parts = []
  texts_of (part f fs) = text_of f ∷ texts_of fs

-- a small letter, then small letters or digits; not `true` or `false`
abbrev pub is_variable : Name → Bool
is_variable x = is_small (next x) && (every is_small_or_digit x && (not (same x (truth_text true)) && not (same x (truth_text false))))

-- names spelled as names, variables as variables, and each connective with as many parts as it takes
abbrev pub term_spelled : Term → Bool
term_spelled (element v) = true
term_spelled (variable x) = is_variable x

abbrev pub terms_spelled : Terms → Bool
terms_spelled no_terms = true
terms_spelled (term t ts) = term_spelled t && terms_spelled ts

abbrev pub is_one : Formulas → Bool
is_one fs = on_sole false (λ f. true) fs

abbrev pub is_two : Formulas → Bool
is_two no_parts = false
is_two (part f fs) = is_one fs

abbrev pub takes : Connective → Formulas → Bool
takes negation fs = is_one fs
takes implies fs = is_two fs
takes implied_by fs = is_two fs
takes equivalent fs = is_two fs
takes (junction c) fs = true

unfoldable mutual
  pub spelled : Formula → Bool
  spelled (truth b) = true
  spelled (atom p ts) = is_name p && terms_spelled ts
  spelled (equal s t) = term_spelled s && term_spelled t
  spelled (connective o fs) = takes o fs && all_spelled fs
  spelled (quantifier c x g f) = is_variable x && (spelled g && spelled f)

  pub all_spelled : Formulas → Bool
  all_spelled no_parts = true
  all_spelled (part f fs) = spelled f && all_spelled fs
