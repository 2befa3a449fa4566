-- Names and their indices in memory, and which formulas memory can hold.
-- Assumes nothing.
use Prim.Native.Nat.{ℕ, ◌<◌}
use mathlib.Core.Path.{◌≡◌}
use mathlib.Core.List.{List}
use Rattle.grammar.specs.Problem.{Name}
use Rattle.logic.specs.Formula.{Term, element, variable, Terms, no_terms, term, term_count, Formula, truth, atom, equal, connective, quantifier, Formulas, no_parts, part}
use Rattle.words.specs.memory.Words.{term_words, words, all_words}
use Rattle.words.specs.memory.Stored.{formula_at}

-- an index for each name, and a name for each index
pub record Naming : Type 0 where
  pub variable_index : Name → ℕ
  pub predicate_index : Name → ℕ
  pub variable_name : ℕ → Name
  pub predicate_name : ℕ → Name
  -- an atom's word has room for it
  pub small : (p : Name) → predicate_index p < 256

-- a name's index is one of so many, and is the index of no other name
pub record HasIndex (index : Name → ℕ) (name : ℕ → Name) (count : ℕ) (x : Name) : Type 0 where
  pub within : index x < count
  pub named : name (index x) ≡ x

module _ (N : Naming) where
  abbrev pub words_in : Formula → List ℕ
  words_in f = words N.variable_index N.predicate_index f

  abbrev pub all_words_in : Formulas → List ℕ
  all_words_in fs = all_words N.variable_index N.predicate_index fs

  abbrev pub term_words_in : Terms → List ℕ
  term_words_in ts = term_words N.variable_index ts

  abbrev pub formula_in : ℕ → List ℕ → Formula
  formula_in levels s = formula_at N.variable_name N.predicate_name levels s

  abbrev pub VariableListed : Name → Type 0
  VariableListed x = HasIndex N.variable_index N.variable_name 64 x

  abbrev pub PredicateListed : Name → Type 0
  PredicateListed p = HasIndex N.predicate_index N.predicate_name 32 p

  -- names in the tables, elements of a byte, at most three terms
  abbrev pub TermStorable : Term → Type 0
  TermStorable (element v) = v < 256
  TermStorable (variable x) = VariableListed x

  abbrev pub TermsStorable : Terms → Type 0
  TermsStorable no_terms = Unit {0}
  TermsStorable (term t ts) = TermStorable t × TermsStorable ts

  abbrev mutual
    pub Storable : Formula → Type 0
    Storable (truth b) = Unit {0}
    Storable (atom p ts) = PredicateListed p × (term_count ts < 4) × TermsStorable ts
    Storable (equal s t) = TermStorable s × TermStorable t
    Storable (connective o fs) = AllStorable fs
    Storable (quantifier c x g f) = VariableListed x × Storable g × Storable f

    pub AllStorable : Formulas → Type 0
    AllStorable no_parts = Unit {0}
    AllStorable (part f fs) = Storable f × AllStorable fs
