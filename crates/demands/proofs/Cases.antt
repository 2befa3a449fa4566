-- The statement's cases P1 to P13, about the definitions, as one statement over one list: by computation.
-- Assumes nothing.
use Prim.Native.Nat.{ℕ}
use Prim.Native.String.{String}
use mathlib.Core.Path.{◌≡◌, refl}
use mathlib.Core.List.{List, [], ◌∷◌, ◌++◌, map}
use Rattle.grammar.specs.Bytes.{Bytes, bytes, span}
use Rattle.grammar.specs.Numbers.{digits, decimal}
use Rattle.grammar.specs.Outcome.{Outcome, done, refused, mapped, ◌>>=◌}
use Rattle.grammar.specs.Reading.{give, word, token, read_number, one_of, further, separated}
use Rattle.grammar.specs.Reading as reading
use Rattle.grammar.specs.Lines.{Judged, read_lines}
use Rattle.grammar.specs.Sizes.{level_count, name_size, domain_size, predicate_count, greatest_arity, tuple_count}
use Rattle.grammar.specs.Problem.{Problem, problem_of, read_name, read_domain, read_predicate, read_tuples, read_relation, read_output, read_input, problem_line}
use Rattle.grammar.specs.Derivation.{Rule, SNAND, SNOR, STN, EPRED, IQ}
use Rattle.logic.specs.Formula.{Formula, replace}
use Rattle.logic.specs.Text.{text_of}
use Rattle.logic.specs.Reading.{read_variable, read_term, read_equality, read_arguments, read_atom, read_negation, read_two, read_parts, read_junction, read_quantifier, formula_kinds, read_formula}
use Rattle.logic.specs.Names.{closed}
use Rattle.logic.specs.Normal.{is_clause}
use Rattle.logic.specs.Meaning.{holds}
use Rattle.logic.specs.Rules.{instances, apply, at}
use Rattle.demands.specs.Theory.{entry, live}
use Rattle.demands.specs.Ground.{ground_text, ground_of}

-- the problem of the night on three links
abbrev pub night : Bytes
night = bytes "domain=3\ninput=Old/1\nrows=2,3\ninput=Spare/1\nrows=3\noutput=Retire/1\n"

-- a rule at a path of a formula; a formula as the final one
pub data Case : Type 0 where
  makes : Rule → List ℕ → String → Case
  ends : String → Case

-- a line's formula
abbrev pub read : String → Outcome ℕ Formula
read w = mapped (λ p. p.0) (reading.◌>>=◌ (read_formula level_count) (λ f. reading.◌>>◌ (word 5 (bytes "\n")) (give f)) (bytes w ++ bytes "\n"))

-- without file and line
abbrev pub number_only : {A : Type 0} → Judged A → Outcome ℕ A
number_only (done a) = done a
number_only (refused r) = refused r.number

-- the text of what is made, or the number of the refusal
abbrev pub outcome_in : Problem → Case → Outcome ℕ Bytes
outcome_in P (makes r path w) = read w >>= λ f. mapped text_of (at path (apply P r) f)
outcome_in P (ends w) = read w >>= λ f. mapped ground_text (number_only (ground_of P (record { last = live (entry 1 f ∷ []) 1; rules = 0; final = 1 ∷ [] })))

abbrev pub outcome : Case → Outcome ℕ Bytes
outcome c = number_only (problem_of night) >>= λ P. outcome_in P c

abbrev pub text : String → Outcome ℕ Bytes
text w = done (bytes w)

abbrev pub cases : List (Case × Outcome ℕ Bytes)
cases =
    (makes IQ [] "!x[Old(x)]:Retire(x)", text "&(Retire(2),Retire(3))")  -- P1
    ∷ (makes IQ [] "?x[false]:Retire(x)", text "|()")  -- P2
    ∷ (makes SNOR [] "|()", text "false")  -- P3
    ∷ (makes SNAND [] "&()", text "true")  -- P4
    ∷ (makes SNAND [] "&(true,Retire(2))", text "&(Retire(2))")  -- P5
    ∷ (makes SNOR [] "|(Retire(2),true)", text "true")  -- P6
    ∷ (makes EPRED [] "Spare(2)", text "false")  -- P7
    ∷ (makes EPRED [] "=(2,2)", text "true")  -- P8
    ∷ (makes EPRED [] "Retire(2)", refused 13)  -- P9
    ∷ (makes IQ [] "!x[Old(x)]:?x[Spare(x)]:Retire(x)", text "&(?x[Spare(x)]:Retire(x),?x[Spare(x)]:Retire(x))")  -- P10
    ∷ (makes IQ (1 ∷ []) "!x[Old(x)]:?y[=(x,y)]:Retire(y)", refused 14)  -- P11
    ∷ (makes STN [] "~false", text "true")  -- P12
    ∷ (ends "|(Spare(2))", refused 17)  -- P13
    ∷ []

pub cases_hold : map (λ c. outcome c.0) cases ≡ map (λ c. c.1) cases
unfolding level_count name_size domain_size predicate_count greatest_arity tuple_count read_lines read_domain read_predicate read_tuples read_relation read_output read_input problem_line problem_of span digits decimal word token read_number one_of further separated read_name replace text_of read_variable read_term read_equality read_arguments read_atom read_negation read_two read_parts read_junction read_quantifier formula_kinds read_formula closed is_clause holds instances ground_of
cases_hold = refl
