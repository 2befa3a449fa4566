-- A formula read from its text: 5 where it is malformed, 6 where a formula would begin with no level left, whichever comes first from the left.
use Rattle.std.specs.Prelude.{ℕ, suc, zero, List, [], ◌∷◌, ◌++◌, true, false, cond, eqb}
use Rattle.grammar.specs.Bytes.{Bytes, bytes, next, is_digit, is_small_or_digit}
use Rattle.grammar.specs.Problem.{Name, read_name}
use Rattle.grammar.specs.Reading.{Reading, give, refuse, ◌>>=◌, ◌>>◌, word, token, read_number, ◌⇒◌, one_of, separated}
use Rattle.logic.specs.Formula.{Term, element, variable, Terms, no_terms, terms_of, Side, all, any, Connective, negation, implies, implied_by, equivalent, junction}
use Rattle.logic.specs.Formula.{Formula, truth, atom, equal, connective, quantifier, no_parts, part, parts_of}
use Rattle.logic.specs.Text.{truth_text, connective_sign, quantifier_sign, is_variable}

unfoldable pub read_variable : Reading Name
read_variable = token 5 is_small_or_digit is_variable

unfoldable pub read_term : Reading Term
read_term s = cond (is_digit (next s)) (do v ← read_number 5; give (element v)) (do x ← read_variable; give (variable x)) s

unfoldable pub read_equality : Reading Formula
read_equality = do
  s ← read_term
  word 5 (bytes ",")
  t ← read_term
  word 5 (bytes ")")
  give (equal s t)

unfoldable pub read_arguments : Reading Terms
read_arguments = do
  ts ← separated 44 read_term
  word 5 (bytes ")")
  give (terms_of ts)

unfoldable pub read_atom : Reading Formula
read_atom = do
  p ← read_name 5
  ts ← one_of (bytes "(" ⇒ read_arguments ∷ []) (give no_terms)
  give (atom p ts)

-- what follows the first sign, where each part is read by r
module _ (r : Reading Formula) where
  unfoldable pub read_negation : Reading Formula
  read_negation = do
    f ← r
    give (connective negation (part f no_parts))

  unfoldable pub read_two : Connective → Reading Formula
  read_two o = do
    f ← r
    word 5 (bytes ",")
    g ← r
    word 5 (bytes ")")
    give (connective o (part f (part g no_parts)))

  -- none, one or more
  unfoldable pub read_parts : Reading (List Formula)
  read_parts s = cond (eqb (next s) 41) (give []) (separated 44 r) s

  unfoldable pub read_junction : Side → Reading Formula
  read_junction c = do
    fs ← read_parts
    word 5 (bytes ")")
    give (connective (junction c) (parts_of fs))

  unfoldable pub read_quantifier : Side → Reading Formula
  read_quantifier c = do
    x ← read_variable
    word 5 (bytes "[")
    g ← r
    word 5 (bytes "]:")
    f ← r
    give (quantifier c x g f)

  unfoldable pub formula_kinds : List (Bytes × Reading Formula)
  formula_kinds =
      truth_text true ⇒ give (truth true)
      ∷ truth_text false ⇒ give (truth false)
      ∷ bytes "=(" ⇒ read_equality
      ∷ connective_sign negation ⇒ read_negation
      ∷ (connective_sign (junction all) ++ bytes "(") ⇒ read_junction all
      ∷ (connective_sign (junction any) ++ bytes "(") ⇒ read_junction any
      ∷ (connective_sign implies ++ bytes "(") ⇒ read_two implies
      ∷ (connective_sign implied_by ++ bytes "(") ⇒ read_two implied_by
      ∷ (connective_sign equivalent ++ bytes "(") ⇒ read_two equivalent
      ∷ quantifier_sign all ⇒ read_quantifier all
      ∷ quantifier_sign any ⇒ read_quantifier any
      ∷ []

-- with some levels left
unfoldable pub read_formula : ℕ → Reading Formula
read_formula zero = refuse 6
read_formula (suc levels) = one_of (formula_kinds (read_formula levels)) read_atom
