-- The words of a formula: which are elements, one for each unit of its size, and the kinds of its words count its parts, so that `skip` passes over it whole.
-- Assumes nothing.
use Prim.Native.Nat.{ℕ, suc, ◌+◌, ◌*◌, ◌/◌, ◌%◌, ◌<◌}
use native.Mathlib.Nat.{add-suc, add-zero}
use native.Mathlib.Numerals.{add-two}
use native.Mathlib.Omega.{arith}
use mathlib.Core.Path.{◌≡◌, refl, ap, ap₂, ◌∙◌}
use mathlib.Core.List.{List, ◌∷◌, ◌++◌, append_assoc}
use mathlib.Core.Bool.{Bool, true, false}
use lib.ListN.{length, length-append}
use lib.Seq.{drop-append_seam}
use Rattle.grammar.specs.Problem.{Name}
use Rattle.logic.specs.Formula.{Term, element, variable, Terms, no_terms, term, term_count, Side, all, any, Connective, negation, implies, implied_by, equivalent, junction}
use Rattle.logic.specs.Formula.{Formula, truth, atom, equal, connective, quantifier, Formulas, no_parts, part, size, sizes}
use Rattle.logic.specs.Meaning.{unit}
use Rattle.logic.specs.Normal.{elements_only}
use Rattle.words.specs.memory.Kinds.{kind_of, kind_by, part_count, skip, elements_at}
use Rattle.words.specs.memory.Words.{truth_word, connective_tag, quantifier_tag, part_total, term_word, term_words, words, all_words}
use Rattle.words.specs.memory.Stored.{after_first}
use Rattle.words.specs.declared.word.Sign.{Sign}
use Rattle.words.specs.declared.word.Sign.TheVariants as sign
use Rattle.words.specs.declared.word.Kind.{Kind}
use Rattle.words.specs.declared.word.Kind.TheVariants as kind
use Rattle.words.proofs.memory.Kinds.{skip-none}
use Rattle.words.proofs.memory.Naming.{Naming, words_in, all_words_in, term_words_in}

-- The kind of each word.

kind_tag : (tag payload : ℕ) → tag < 16 → kind_of (payload * 16 + tag) ≡ kind_by tag payload
kind_tag tag payload h =
    let t : (payload * 16 + tag) % 16 ≡ tag = omega arith in
    let p : (payload * 16 + tag) / 16 ≡ payload = omega arith in
    rw (t, p)

pub kind_truth : (b : Bool) → kind_of (truth_word b) ≡ kind.Truth b
unfolding kind_by
kind_truth true = refl
kind_truth false = refl

pub kind_equal : kind_of 11 ≡ kind.Equality
unfolding kind_by
kind_equal = refl

-- a side's flag is its unit: true for `&`
abbrev pub sign_of : Connective → Sign
sign_of negation = sign.Negation
sign_of implies = sign.Implies
sign_of implied_by = sign.ImpliedBy
sign_of equivalent = sign.Equivalent
sign_of (junction c) = sign.Junction (unit c)

pub kind_connective : (o : Connective) (n : ℕ) → kind_of (n * 16 + connective_tag o) ≡ kind.Connective (sign_of o) n
unfolding kind_by
kind_connective negation n = kind_tag 2 n (omega arith)
kind_connective implies n = kind_tag 5 n (omega arith)
kind_connective implied_by n = kind_tag 6 n (omega arith)
kind_connective equivalent n = kind_tag 7 n (omega arith)
kind_connective (junction all) n = kind_tag 3 n (omega arith)
kind_connective (junction any) n = kind_tag 4 n (omega arith)

pub kind_quantifier : (c : Side) (x : ℕ) → kind_of (x * 16 + quantifier_tag c) ≡ kind.Quantifier (unit c) x
unfolding kind_by
kind_quantifier all x = kind_tag 8 x (omega arith)
kind_quantifier any x = kind_tag 9 x (omega arith)

pub quantifier-index : (c : Side) (x : ℕ) → (x * 16 + quantifier_tag c) / 16 ≡ x
quantifier-index all x = omega arith
quantifier-index any x = omega arith

pub kind_atom : (p n : ℕ) → p < 256 → kind_of ((n * 256 + p) * 16 + 10) ≡ kind.Atom p n
unfolding kind_by
kind_atom p n h =
    let index : (n * 256 + p) % 256 ≡ p = omega arith in
    let count : (n * 256 + p) / 256 ≡ n = omega arith in
    kind_tag 10 (n * 256 + p) (omega arith) ∙ ap₂ kind.Atom index count

pub kind_term : (variable_index : Name → ℕ) (t : Term) → kind_of (term_word variable_index t) ≡ kind.Term
unfolding kind_by
kind_term variable_index (element v) = kind_tag 12 v (omega arith)
kind_term variable_index (variable x) = kind_tag 13 (variable_index x) (omega arith)

-- Elements.

module _ (N : Naming) where
  pub elements-words : (ts : Terms) (s : List ℕ) → elements_at (term_count ts) (term_words_in N ts ++ s) ≡ elements_only ts
  unfolding elements_at
  elements-words no_terms s = refl
  elements-words (term (element v) ts) s =
      let tag : (v * 16 + 12) % 16 ≡ 12 = omega arith in
      rw tag (elements-words ts s)
  elements-words (term (variable x) ts) s =
      let tag : (N.variable_index x * 16 + 13) % 16 ≡ 13 = omega arith in
      rw tag

-- Size.

length-term_words : (variable_index : Name → ℕ) (ts : Terms) → length (term_words variable_index ts) ≡ term_count ts
length-term_words variable_index no_terms = refl
length-term_words variable_index (term t ts) = ap suc (length-term_words variable_index ts)

module _ (variable_index predicate_index : Name → ℕ) where
  mutual
    unfolding words size

    pub words_size : (f : Formula) → length (words variable_index predicate_index f) ≡ size f
    words_size (truth b) = refl
    words_size (atom p ts) = ap suc (length-term_words variable_index ts)
    words_size (equal s t) = refl
    words_size (connective o fs) = ap suc (all_words-sizes fs)
    words_size (quantifier c x g f) = rw (length-append, words_size g, words_size f)

    pub all_words-sizes : (fs : Formulas) → length (all_words variable_index predicate_index fs) ≡ sizes fs
    all_words-sizes no_parts = refl
    all_words-sizes (part f fs) = rw (length-append, words_size f, all_words-sizes fs)

module _ (N : Naming) where
  pub length-words : (f : Formula) → length (words_in N f) ≡ size f
  length-words f = words_size N.variable_index N.predicate_index f

-- Whole formulas are passed over whole.

skip-word : (w : ℕ) (k : Kind) (s : List ℕ) (n : ℕ) → kind_of w ≡ k → skip (w ∷ s) (suc n) ≡ suc (skip s (n + part_count k))
unfolding skip
skip-word w k s n e = rw e

module _ (N : Naming) where
  skip-term_words : (ts : Terms) (n : ℕ) (s : List ℕ) → skip (term_words_in N ts ++ s) (n + term_count ts) ≡ term_count ts + skip s n
  skip-term_words no_terms n s = rw add-zero (omega arith)
  skip-term_words (term t ts) n s =
      rw (
        add-suc,
        skip-word (term_word N.variable_index t) _ (term_words_in N ts ++ s) (n + term_count ts) (kind_term N.variable_index t),
        add-zero,
        skip-term_words ts n s,
      ) (omega arith)

  mutual
    unfolding words size

    pub skip-words : (f : Formula) (n : ℕ) (s : List ℕ) → skip (words_in N f ++ s) (suc n) ≡ size f + skip s n
    skip-words (truth b) n s = skip-word (truth_word b) _ s n (kind_truth b) ∙ rw add-zero (omega arith)
    skip-words (atom p ts) n s =
        skip-word _ _ (term_words_in N ts ++ s) n (kind_atom (N.predicate_index p) (term_count ts) (N.small p))
        ∙ rw (skip-term_words ts n s) (omega arith)
    skip-words (equal t u) n s =
        skip-word 11 _ (term_word N.variable_index t ∷ term_word N.variable_index u ∷ s) n kind_equal
        ∙ ap suc (skip-term_words (term t (term u no_terms)) n s) ∙ omega arith
    skip-words (connective o fs) n s =
        skip-word _ _ (all_words_in N fs ++ s) n (kind_connective o (part_total fs)) ∙ rw (skip-all_words fs n s) (omega arith)
    skip-words (quantifier c x g f) n s =
        skip-word _ _ ((words_in N g ++ words_in N f) ++ s) n (kind_quantifier c (N.variable_index x))
        ∙ rw (append_assoc, add-two, skip-words g (suc n) (words_in N f ++ s), skip-words f n s) (omega arith)

    pub skip-all_words : (fs : Formulas) (n : ℕ) (s : List ℕ) → skip (all_words_in N fs ++ s) (n + part_total fs) ≡ sizes fs + skip s n
    skip-all_words no_parts n s = rw add-zero (omega arith)
    skip-all_words (part f fs) n s =
        rw (append_assoc, add-suc, skip-words f (n + part_total fs) (all_words_in N fs ++ s), skip-all_words fs n s) (omega arith)

  pub skip_first : (f : Formula) (s : List ℕ) → skip (words_in N f ++ s) 1 ≡ length (words_in N f)
  skip_first f s = skip-words f 0 s ∙ rw (skip-none, length-words N f) (omega arith)

  pub after_first-words : (f : Formula) (s : List ℕ) → after_first (words_in N f ++ s) ≡ s
  after_first-words f s = rw (skip_first f s) (drop-append_seam (words_in N f) s)
