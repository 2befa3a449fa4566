-- The words of a formula: one for each unit of its size, each formula before its parts.
use Rattle.std.specs.Prelude.{ℕ, suc, ◌+◌, ◌*◌, ◌<◌, List, [], ◌∷◌, ◌++◌, Bool, true, false}
use Rattle.grammar.specs.Problem.{Name}
use Rattle.logic.specs.Formula.{Term, element, variable, Terms, no_terms, term, term_count, Side, all, any, Connective, negation, implies, implied_by, equivalent, junction}
use Rattle.logic.specs.Formula.{Formula, truth, atom, equal, connective, quantifier, Formulas, no_parts, part}

-- what a word of 32 bits holds above its tag: a word is payload * 16 + tag
abbrev pub Payload : ℕ → Type 0
Payload n = n < 268435456

abbrev pub truth_word : Bool → ℕ
truth_word false = 0
truth_word true = 1

abbrev pub connective_tag : Connective → ℕ
connective_tag negation = 2
connective_tag (junction all) = 3
connective_tag (junction any) = 4
connective_tag implies = 5
connective_tag implied_by = 6
connective_tag equivalent = 7

abbrev pub quantifier_tag : Side → ℕ
quantifier_tag all = 8
quantifier_tag any = 9

-- how many parts
abbrev pub part_total : Formulas → ℕ
part_total no_parts = 0
part_total (part f fs) = suc (part_total fs)

-- by the index of each variable's name
module _ (variable_index : Name → ℕ) where
  abbrev pub term_word : Term → ℕ
  term_word (element v) = v * 16 + 12
  term_word (variable x) = variable_index x * 16 + 13

  abbrev pub term_words : Terms → List ℕ
  term_words no_terms = []
  term_words (term t ts) = term_word t ∷ term_words ts

-- by the index of each variable's and of each predicate's name
module _ (variable_index predicate_index : Name → ℕ) where
  unfoldable mutual
    pub words : Formula → List ℕ
    words (truth b) = truth_word b ∷ []
    words (atom p ts) = ((term_count ts * 256 + predicate_index p) * 16 + 10) ∷ term_words variable_index ts
    words (equal s t) = 11 ∷ term_word variable_index s ∷ term_word variable_index t ∷ []
    words (connective o fs) = (part_total fs * 16 + connective_tag o) ∷ all_words fs
    words (quantifier c x g f) = (variable_index x * 16 + quantifier_tag c) ∷ (words g ++ words f)

    pub all_words : Formulas → List ℕ
    all_words no_parts = []
    all_words (part f fs) = words f ++ all_words fs
