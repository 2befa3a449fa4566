-- Where the words of a formula stand, `formula_at` reads that formula, if its names are within the tables and its depth within the levels.
-- Assumes nothing.
use Prim.Native.Nat.{ℕ, zero, suc, ◌+◌, ◌-◌, ◌*◌, ◌/◌, ◌%◌, ◌≤◌, ◌<◌}
use native.Mathlib.Numerals.{sub-one}
use native.Mathlib.Omega.{arith}
use mathlib.Core.Path.{◌≡◌, refl, ap, ap₂, ◌∙◌}
use mathlib.Core.List.{List, ◌∷◌, ◌++◌, append_assoc}
use mathlib.Core.Bool.{Bool}
use borrow.Author.Tests.{eq-eqb, ne_eqb}
use Rattle.logic.specs.Formula.{Term, element, variable, Terms, no_terms, term, term_count, Side, all, any, Connective, negation, implies, implied_by, equivalent, junction}
use Rattle.logic.specs.Formula.{Formula, truth, atom, equal, connective, quantifier, Formulas, no_parts, part, depth, depths}
use Rattle.logic.specs.Meaning.{unit}
use Rattle.words.specs.memory.Kinds.{kind_of}
use Rattle.words.specs.memory.Words.{part_total, term_word, words}
use Rattle.words.specs.memory.Stored.{after_first, term_of, terms_at, parts_by, formula_by, formula_at}
use Rattle.words.specs.declared.word.Kind.{Kind}
use Rattle.words.specs.declared.word.Kind.TheVariants as kind
use Rattle.words.proofs.memory.Naming.{Naming, words_in, all_words_in, term_words_in, formula_in, TermStorable, TermsStorable, Storable, AllStorable}
use Rattle.words.proofs.memory.Words.{sign_of, kind_truth, kind_equal, kind_connective, kind_quantifier, kind_atom, after_first-words}

module _ (N : Naming) where
  term_of-term_word : (t : Term) → TermStorable N t → term_of N.variable_name (term_word N.variable_index t) ≡ t
  term_of-term_word (element v) h =
      let tag : (v * 16 + 12) % 16 ≡ 12 = omega arith in
      let payload : (v * 16 + 12) / 16 ≡ v = omega arith in
      let low : v % 256 ≡ v = omega arith in
      rw (eq-eqb ((v * 16 + 12) % 16) 12 tag, payload, low)
  term_of-term_word (variable x) h =
      let i = N.variable_index x in
      let tag : ((i * 16 + 13) % 16 ≡ 12) → ⊥ = λ e. omega arith in
      let payload : (i * 16 + 13) / 16 ≡ i = omega arith in
      let low : i % 64 ≡ i = omega (arith, h.within) in
      rw (ne_eqb ((i * 16 + 13) % 16) 12 tag, payload, low) (ap variable h.named)

  terms_at-term_words : (ts : Terms) (s : List ℕ) → TermsStorable N ts → terms_at N.variable_name (term_count ts) (term_words_in N ts ++ s) ≡ ts
  unfolding terms_at
  terms_at-term_words no_terms s h = refl
  terms_at-term_words (term t ts) s h = ap₂ term (term_of-term_word t h.0) (terms_at-term_words ts s h.1)

  -- One level.

  abbrev of_kind : (List ℕ → Formula) → Kind → List ℕ → Formula
  of_kind read k s = formula_by N.variable_name N.predicate_name read k s

  formula_at_some : (levels : ℕ) (w : ℕ) (s : List ℕ) (k : Kind) → 0 < levels → kind_of w ≡ k
      → formula_in N levels (w ∷ s) ≡ of_kind (formula_in N (levels - 1)) k s
  unfolding formula_at
  formula_at_some zero w s k h e = absurd (omega arith)
  formula_at_some (suc levels) w s k h e = rw (e, sub-one (suc levels))

  module _ (read : List ℕ → Formula) where
    by_truth : (b : Bool) (s : List ℕ) → of_kind read (kind.Truth b) s ≡ truth b
    unfolding formula_by
    by_truth b s = refl

    by_equal : (a b : ℕ) (s : List ℕ) → of_kind read kind.Equality (a ∷ b ∷ s) ≡ equal (term_of N.variable_name a) (term_of N.variable_name b)
    unfolding formula_by
    by_equal a b s = refl

    by_atom : (p n : ℕ) (s : List ℕ) → p < 32 → n < 4 → of_kind read (kind.Atom p n) s ≡ atom (N.predicate_name p) (terms_at N.variable_name n s)
    unfolding formula_by
    by_atom p n s h k =
        let a : p % 32 ≡ p = omega arith in
        let b : n % 4 ≡ n = omega arith in
        rw (a, b)

    by_connective : (o : Connective) (n : ℕ) (s : List ℕ) → of_kind read (kind.Connective (sign_of o) n) s ≡ connective o (parts_by read n s)
    unfolding formula_by
    by_connective negation n s = refl
    by_connective implies n s = refl
    by_connective implied_by n s = refl
    by_connective equivalent n s = refl
    by_connective (junction all) n s = refl
    by_connective (junction any) n s = refl

    by_quantifier : (c : Side) (x : ℕ) (s : List ℕ) → x < 64
        → of_kind read (kind.Quantifier (unit c) x) s ≡ quantifier c (N.variable_name x) (read s) (read (after_first s))
    unfolding formula_by
    by_quantifier all x s h = let e : x % 64 ≡ x = omega arith in rw e
    by_quantifier any x s h = let e : x % 64 ≡ x = omega arith in rw e

    parts_part : (n : ℕ) (s : List ℕ) → parts_by read (suc n) s ≡ part (read s) (parts_by read n (after_first s))
    unfolding parts_by
    parts_part n s = refl

    parts_none : (s : List ℕ) → parts_by read 0 s ≡ no_parts
    unfolding parts_by
    parts_none s = refl

  mutual
    unfolding words depth

    pub formula_at-words : (f : Formula) (levels : ℕ) (s : List ℕ) → Storable N f → depth f ≤ levels
        → formula_in N levels (words_in N f ++ s) ≡ f
    formula_at-words (truth b) levels s h l = formula_at_some levels _ s _ l (kind_truth b) ∙ by_truth _ b s
    formula_at-words (atom p ts) levels s h l =
        formula_at_some levels _ _ _ l (kind_atom (N.predicate_index p) (term_count ts) (N.small p))
        ∙ by_atom _ (N.predicate_index p) (term_count ts) _ h.0.within h.1
        ∙ ap₂ atom h.0.named (terms_at-term_words ts s h.2)
    formula_at-words (equal t u) levels s h l =
        formula_at_some levels 11 _ _ l kind_equal ∙ by_equal _ _ _ s ∙ ap₂ equal (term_of-term_word t h.0) (term_of-term_word u h.1)
    formula_at-words (connective o fs) levels s h l =
        formula_at_some levels _ _ _ (omega arith) (kind_connective o (part_total fs))
        ∙ by_connective _ o (part_total fs) _ ∙ ap (connective o) (parts_words fs (levels - 1) s h (omega arith))
    formula_at-words (quantifier c x g f) levels s h l =
        formula_at_some levels _ _ _ (omega arith) (kind_quantifier c (N.variable_index x))
        ∙ by_quantifier _ c (N.variable_index x) _ h.0.within
        ∙ rw (
          append_assoc,
          after_first-words N g,
          formula_at-words g (levels - 1) (words_in N f ++ s) h.1 (omega arith),
          formula_at-words f (levels - 1) s h.2 (omega arith),
          h.0.named,
        )

    pub parts_words : (fs : Formulas) (levels : ℕ) (s : List ℕ) → AllStorable N fs → depths fs ≤ levels
        → parts_by (formula_in N levels) (part_total fs) (all_words_in N fs ++ s) ≡ fs
    parts_words no_parts levels s h l = parts_none _ s
    parts_words (part f fs) levels s h l =
        rw append_assoc
        (parts_part _ (part_total fs) (words_in N f ++ (all_words_in N fs ++ s))
        ∙ rw (after_first-words N f)
        (ap₂ part (formula_at-words f levels (all_words_in N fs ++ s) h.0 (omega arith)) (parts_words fs levels s h.1 (omega arith))))
