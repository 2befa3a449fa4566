-- One pass over the words of a formula puts an element for a variable, as `replace` does.
-- Assumes nothing.
use Prim.Native.Nat.{ℕ, suc, ◌+◌, ◌*◌, ◌%◌}
use native.Mathlib.Nat.{add-zero, add-suc}
use native.Mathlib.Numerals.{add-two}
use native.Mathlib.Omega.{arith}
use mathlib.Core.Path.{◌≡◌, refl, sym, ap, ◌∙◌}
use mathlib.Core.List.{List, ◌∷◌, ◌++◌, append_assoc}
use mathlib.Core.Bool.{Bool, true, false, cond, and-true, or-false}
use borrow.Author.Tests.{eq-eqb, ne_eqb, eqb-true, eqb-false}
use lib.Dec.{eqb}
use Rattle.grammar.specs.Bytes.{same}
use Rattle.grammar.specs.Problem.{Name}
use Rattle.logic.specs.Formula.{Term, element, variable, Terms, no_terms, term, term_count, Side, all, any, Connective, negation, implies, implied_by, equivalent, junction}
use Rattle.logic.specs.Formula.{Formula, truth, atom, equal, connective, quantifier, Formulas, no_parts, part, replace_term, replace_terms, replace, replaces}
use Rattle.logic.proofs.Kept.{term_count-replace}
use Rattle.words.specs.memory.Kinds.{kind_of, part_count}
use Rattle.words.specs.memory.Words.{truth_word, connective_tag, quantifier_tag, part_total, term_word, words}
use Rattle.words.specs.declared.word.Kind.{Kind}
use Rattle.words.proofs.memory.Naming.{Naming, words_in, all_words_in, term_words_in, TermStorable, TermsStorable, Storable, AllStorable, VariableListed}
use Rattle.words.proofs.memory.Words.{kind_truth, kind_equal, kind_connective, kind_quantifier, kind_atom, kind_term}
use Rattle.guards.proofs.memory.Indexed.{same-indexed}
use Rattle.formula.specs.memory.Instances.{word_with, held_after, words_with}

eqb_tagged : (a b tag : ℕ) → eqb (a * 16 + tag) (b * 16 + tag) ≡ eqb a b
eqb_tagged a b tag = pick (eqb a b) refl
  where
    pick : (c : Bool) → eqb a b ≡ c → eqb (a * 16 + tag) (b * 16 + tag) ≡ c
    pick true e = let h = eqb-true a b e in eq-eqb (a * 16 + tag) (b * 16 + tag) (omega arith)
    pick false e = ne_eqb (a * 16 + tag) (b * 16 + tag) (λ h. eqb-false a b e (omega arith))

part_total_replaced : (x : Name) (v : ℕ) (fs : Formulas) → part_total (replaces x v fs) ≡ part_total fs
unfolding replace
part_total_replaced x v no_parts = refl
part_total_replaced x v (part f fs) = ap suc (part_total_replaced x v fs)

-- Formulas that are held are copied as they are.

module _ (N : Naming) (x v : ℕ) where
  held_word : (w p : ℕ) (k : Kind) (s : List ℕ) → kind_of w ≡ k → words_with x v (w ∷ s) (suc p) ≡ w ∷ words_with x v s (p + part_count k)
  unfolding words_with word_with held_after
  held_word w p k s e = rw e

  held_terms : (ts : Terms) (p : ℕ) (s : List ℕ) → words_with x v (term_words_in N ts ++ s) (p + term_count ts) ≡ term_words_in N ts ++ words_with x v s p
  held_terms no_terms p s = rw add-zero
  held_terms (term t ts) p s =
      rw (add-suc, held_word (term_word N.variable_index t) (p + term_count ts) _ (term_words_in N ts ++ s) (kind_term N.variable_index t), add-zero, held_terms ts p s)

  mutual
    unfolding words

    held-words : (f : Formula) (p : ℕ) (s : List ℕ) → words_with x v (words_in N f ++ s) (suc p) ≡ words_in N f ++ words_with x v s p
    held-words (truth b) p s = held_word (truth_word b) p _ s (kind_truth b) ∙ rw add-zero
    held-words (atom q ts) p s = held_word _ p _ (term_words_in N ts ++ s) (kind_atom (N.predicate_index q) (term_count ts) (N.small q)) ∙ rw (held_terms ts p s)
    held-words (equal t u) p s = held_word 11 p _ _ kind_equal ∙ ap (λ (l : List ℕ). 11 ∷ l) (held_terms (term t (term u no_terms)) p s)
    held-words (connective o fs) p s = held_word _ p _ (all_words_in N fs ++ s) (kind_connective o (part_total fs)) ∙ rw (held-all_words fs p s)
    held-words (quantifier c y g f) p s =
        held_word _ p _ ((words_in N g ++ words_in N f) ++ s) (kind_quantifier c (N.variable_index y))
        ∙ rw (append_assoc (words_in N g) (words_in N f) s, add-two, held-words g (suc p) (words_in N f ++ s), held-words f p s, append_assoc)

    held-all_words : (fs : Formulas) (p : ℕ) (s : List ℕ) → words_with x v (all_words_in N fs ++ s) (p + part_total fs) ≡ all_words_in N fs ++ words_with x v s p
    held-all_words no_parts p s = rw add-zero
    held-all_words (part f fs) p s =
        rw (append_assoc (words_in N f) (all_words_in N fs) s, add-suc, held-words f (p + part_total fs) (all_words_in N fs ++ s), held-all_words fs p s, append_assoc)

module _ (N : Naming) (x : Name) (listed : VariableListed N x) (v : ℕ) where
  abbrev index : ℕ
  index = N.variable_index x

  -- the words with the element for the variable, from where no formula is held
  abbrev pass : List ℕ → List ℕ
  pass s = words_with index v s 0

  same_index : (y : Name) → VariableListed N y → eqb (N.variable_index y) index ≡ same y x
  same_index y h = sym (same-indexed N y x h listed ∙ and-true (eqb (N.variable_index y) index))

  -- neither a variable nor a quantifier
  plain_word : (w : ℕ) (s : List ℕ) → (w % 16 ≡ 13 → ⊥) → (w % 16 ≡ 8 → ⊥) → (w % 16 ≡ 9 → ⊥) → pass (w ∷ s) ≡ w ∷ pass s
  unfolding words_with word_with held_after
  plain_word w s a b c =
      rw (
        ne_eqb w (index * 16 + 13) (λ e. a (omega arith)),
        ne_eqb w (index * 16 + 8) (λ e. b (omega arith)),
        ne_eqb w (index * 16 + 9) (λ e. c (omega arith)),
      )

  term_replaced : (t : Term) (s : List ℕ) → TermStorable N t
      → pass (term_word N.variable_index t ∷ s) ≡ term_word N.variable_index (replace_term x v t) ∷ pass s
  unfolding words_with word_with held_after
  term_replaced (element k) s h = plain_word (k * 16 + 12) s (λ e. omega arith) (λ e. omega arith) (λ e. omega arith)
  term_replaced (variable y) s h =
      let i = N.variable_index y in
      rw (
        eqb_tagged i index 13,
        ne_eqb (i * 16 + 13) (index * 16 + 8) (λ e. omega arith),
        ne_eqb (i * 16 + 13) (index * 16 + 9) (λ e. omega arith),
        same_index y h,
      ) (pick (same y x))
    where
      pick : (b : Bool) → cond b (v * 16 + 12) (N.variable_index y * 16 + 13) ∷ pass s ≡ term_word N.variable_index (cond b (element v) (variable y)) ∷ pass s
      pick true = refl
      pick false = refl

  terms_replaced : (ts : Terms) (s : List ℕ) → TermsStorable N ts → pass (term_words_in N ts ++ s) ≡ term_words_in N (replace_terms x v ts) ++ pass s
  terms_replaced no_terms s h = refl
  terms_replaced (term t ts) s h = term_replaced t (term_words_in N ts ++ s) h.0 ∙ rw (terms_replaced ts s h.1)

  truth_replaced : (b : Bool) (s : List ℕ) → pass (truth_word b ∷ s) ≡ truth_word b ∷ pass s
  truth_replaced true s = plain_word 1 s (λ e. omega arith) (λ e. omega arith) (λ e. omega arith)
  truth_replaced false s = plain_word 0 s (λ e. omega arith) (λ e. omega arith) (λ e. omega arith)

  connective_replaced : (o : Connective) (n : ℕ) (s : List ℕ) → pass ((n * 16 + connective_tag o) ∷ s) ≡ (n * 16 + connective_tag o) ∷ pass s
  connective_replaced negation n s = plain_word (n * 16 + 2) s (λ e. omega arith) (λ e. omega arith) (λ e. omega arith)
  connective_replaced implies n s = plain_word (n * 16 + 5) s (λ e. omega arith) (λ e. omega arith) (λ e. omega arith)
  connective_replaced implied_by n s = plain_word (n * 16 + 6) s (λ e. omega arith) (λ e. omega arith) (λ e. omega arith)
  connective_replaced equivalent n s = plain_word (n * 16 + 7) s (λ e. omega arith) (λ e. omega arith) (λ e. omega arith)
  connective_replaced (junction all) n s = plain_word (n * 16 + 3) s (λ e. omega arith) (λ e. omega arith) (λ e. omega arith)
  connective_replaced (junction any) n s = plain_word (n * 16 + 4) s (λ e. omega arith) (λ e. omega arith) (λ e. omega arith)

  -- a quantifier that binds x again holds its guard and its body
  quantifier_replaced : (c : Side) (y : Name) (s : List ℕ) → VariableListed N y
      → pass ((N.variable_index y * 16 + quantifier_tag c) ∷ s) ≡ (N.variable_index y * 16 + quantifier_tag c) ∷ words_with index v s (cond (same y x) 2 0)
  unfolding words_with word_with held_after
  quantifier_replaced all y s h =
      let i = N.variable_index y in
      rw (
        ne_eqb (i * 16 + 8) (index * 16 + 13) (λ e. omega arith),
        eqb_tagged i index 8,
        ne_eqb (i * 16 + 8) (index * 16 + 9) (λ e. omega arith),
        same_index y h,
        or-false,
      )
  quantifier_replaced any y s h =
      let i = N.variable_index y in
      rw (
        ne_eqb (i * 16 + 9) (index * 16 + 13) (λ e. omega arith),
        ne_eqb (i * 16 + 9) (index * 16 + 8) (λ e. omega arith),
        eqb_tagged i index 9,
        same_index y h,
      )

  quantified : (b : Bool) (c : Side) (y : Name) (g f : Formula) (s : List ℕ)
      → pass (words_in N g ++ (words_in N f ++ s)) ≡ words_in N (replace x v g) ++ pass (words_in N f ++ s)
      → pass (words_in N f ++ s) ≡ words_in N (replace x v f) ++ pass s
      → (N.variable_index y * 16 + quantifier_tag c) ∷ words_with index v ((words_in N g ++ words_in N f) ++ s) (cond b 2 0)
      ≡ words_in N (cond b (quantifier c y g f) (quantifier c y (replace x v g) (replace x v f))) ++ pass s
  unfolding words
  quantified true c y g f s d e = rw (append_assoc (words_in N g) (words_in N f) s, held-words N index v g 1 (words_in N f ++ s), held-words N index v f 0 s, append_assoc)
  quantified false c y g f s d e = rw (append_assoc (words_in N g) (words_in N f) s, d, e, append_assoc)

  mutual
    unfolding words replace

    pub words_replaced : (f : Formula) (s : List ℕ) → Storable N f → words_with index v (words_in N f ++ s) 0 ≡ words_in N (replace x v f) ++ words_with index v s 0
    words_replaced (truth b) s h = truth_replaced b s
    words_replaced (atom p ts) s h =
        plain_word ((term_count ts * 256 + N.predicate_index p) * 16 + 10) (term_words_in N ts ++ s) (λ e. omega arith) (λ e. omega arith) (λ e. omega arith)
        ∙ rw (terms_replaced ts s h.2, term_count-replace x v ts)
    words_replaced (equal t u) s h =
        plain_word 11 (term_words_in N (term t (term u no_terms)) ++ s) (λ e. omega arith) (λ e. omega arith) (λ e. omega arith)
        ∙ ap (λ (l : List ℕ). 11 ∷ l) (terms_replaced (term t (term u no_terms)) s (h.0, (h.1, tt)))
    words_replaced (connective o fs) s h =
        connective_replaced o (part_total fs) (all_words_in N fs ++ s) ∙ rw (all_words_replaced fs s h, part_total_replaced x v fs)
    words_replaced (quantifier c y g f) s h =
        quantifier_replaced c y ((words_in N g ++ words_in N f) ++ s) h.0
        ∙ quantified (same y x) c y g f s (words_replaced g (words_in N f ++ s) h.1) (words_replaced f s h.2)

    pub all_words_replaced : (fs : Formulas) (s : List ℕ) → AllStorable N fs
        → words_with index v (all_words_in N fs ++ s) 0 ≡ all_words_in N (replaces x v fs) ++ words_with index v s 0
    all_words_replaced no_parts s h = refl
    all_words_replaced (part f fs) s h =
        rw (append_assoc (words_in N f) (all_words_in N fs) s, words_replaced f (all_words_in N fs ++ s) h.0, all_words_replaced fs s h.1, append_assoc)
