-- Memory has an index for each name. A formula with its names replaced by their indices is what stands in memory, and it is closed alike.
-- Assumes nothing.
use Prim.Native.Nat.{ℕ, suc, ◌%◌, ◌≤◌, ◌<◌}
use native.Mathlib.Omega.{arith}
use mathlib.Core.Path.{◌≡◌, refl, sym, ap, ap₂, subst, ◌∙◌}
use mathlib.Core.List.{List, ◌∷◌, ◌++◌}
use mathlib.Core.Bool.{Bool, true, false, ◌&&◌, ◌||◌, false≢true}
use borrow.Author.Tests.{eq-eqb, ne_eqb}
use lib.Dec.{eqb}
use lib.ListN.{length, get_or, set, replicate, length-replicate, get_or-replicate}
use Rattle.grammar.specs.Bytes.{same}
use Rattle.grammar.specs.Problem.{Name}
use Rattle.grammar.proofs.Laws.{same_refl, same_true}
use Rattle.logic.specs.Formula.{Term, element, variable, Terms, no_terms, term, term_count}
use Rattle.logic.specs.Formula.{Formula, truth, atom, equal, connective, quantifier, Formulas, no_parts, part, depth, depths}
use Rattle.logic.specs.Names.{none, besides, term_closed, terms_closed, closed, all_closed, closed_but}
use Rattle.words.specs.memory.Words.{part_total, term_word, words}
use Rattle.words.specs.memory.Stored.{index_name, stored}
use Rattle.words.proofs.memory.Naming.{Naming, words_in, all_words_in, term_words_in, TermStorable, TermsStorable, Storable, AllStorable, VariableListed, PredicateListed}
use Rattle.words.proofs.memory.Stored.{formula_at-words}
use Rattle.guards.specs.memory.Flags.{flagged, closed_at}
use Rattle.guards.proofs.memory.Flags.{flagged-set}

module _ (N : Naming) where
  abbrev pub indexed_variable : Name → Name
  indexed_variable x = index_name (N.variable_index x)

  abbrev pub indexed_predicate : Name → Name
  indexed_predicate p = index_name (N.predicate_index p)

  abbrev pub indexed_term : Term → Term
  indexed_term (element v) = element v
  indexed_term (variable x) = variable (indexed_variable x)

  abbrev pub indexed_terms : Terms → Terms
  indexed_terms no_terms = no_terms
  indexed_terms (term t ts) = term (indexed_term t) (indexed_terms ts)

  -- each name replaced by its index
  unfoldable mutual
    pub indexed : Formula → Formula
    indexed (truth b) = truth b
    indexed (atom p ts) = atom (indexed_predicate p) (indexed_terms ts)
    indexed (equal s t) = equal (indexed_term s) (indexed_term t)
    indexed (connective o fs) = connective o (all_indexed fs)
    indexed (quantifier c x g f) = quantifier c (indexed_variable x) (indexed g) (indexed f)

    pub all_indexed : Formulas → Formulas
    all_indexed no_parts = no_parts
    all_indexed (part f fs) = part (indexed f) (all_indexed fs)

-- What stands in memory.

-- names of one letter, the letter being the index
by_index : Naming
by_index = record {
  variable_index = λ x. get_or x 0 0;
  predicate_index = λ p. get_or p 0 0 % 256;
  variable_name = index_name;
  predicate_name = index_name;
  small = λ p. omega arith;
}

module _ (N : Naming) where
  low_predicate : (p : Name) → N.predicate_index p % 256 ≡ N.predicate_index p
  low_predicate p = omega (arith, N.small p)

  term_word-indexed : (t : Term) → term_word by_index.variable_index (indexed_term N t) ≡ term_word N.variable_index t
  unfolding by_index
  term_word-indexed (element v) = refl
  term_word-indexed (variable x) = refl

  term_words-indexed : (ts : Terms) → term_words_in by_index (indexed_terms N ts) ≡ term_words_in N ts
  term_words-indexed no_terms = refl
  term_words-indexed (term t ts) = ap₂ (λ (w : ℕ) (ws : List ℕ). w ∷ ws) (term_word-indexed t) (term_words-indexed ts)

  term_count-indexed : (ts : Terms) → term_count (indexed_terms N ts) ≡ term_count ts
  term_count-indexed no_terms = refl
  term_count-indexed (term t ts) = ap suc (term_count-indexed ts)

  part_total-indexed : (fs : Formulas) → part_total (all_indexed N fs) ≡ part_total fs
  unfolding indexed
  part_total-indexed no_parts = refl
  part_total-indexed (part f fs) = ap suc (part_total-indexed fs)

  mutual
    unfolding indexed words by_index

    words-indexed : (f : Formula) → words_in by_index (indexed N f) ≡ words_in N f
    words-indexed (truth b) = refl
    words-indexed (atom p ts) = rw (term_count-indexed ts, low_predicate p, term_words-indexed ts)
    words-indexed (equal s t) = rw (term_word-indexed s, term_word-indexed t)
    words-indexed (connective o fs) = rw (part_total-indexed fs, all_words-indexed fs)
    words-indexed (quantifier c x g f) = rw (words-indexed g, words-indexed f)

    all_words-indexed : (fs : Formulas) → all_words_in by_index (all_indexed N fs) ≡ all_words_in N fs
    all_words-indexed no_parts = refl
    all_words-indexed (part f fs) = rw (words-indexed f, all_words-indexed fs)

  mutual
    unfolding indexed depth

    depth-indexed : (f : Formula) → depth (indexed N f) ≡ depth f
    depth-indexed (truth b) = refl
    depth-indexed (atom p ts) = refl
    depth-indexed (equal s t) = refl
    depth-indexed (connective o fs) = ap suc (depths-indexed fs)
    depth-indexed (quantifier c x g f) = rw (depth-indexed g, depth-indexed f)

    depths-indexed : (fs : Formulas) → depths (all_indexed N fs) ≡ depths fs
    depths-indexed no_parts = refl
    depths-indexed (part f fs) = rw (depth-indexed f, depths-indexed fs)

  variable-listed : (x : Name) → VariableListed N x → VariableListed by_index (indexed_variable N x)
  unfolding by_index
  variable-listed x h = record { within = h.within; named = refl }

  predicate-listed : (p : Name) → PredicateListed N p → PredicateListed by_index (indexed_predicate N p)
  unfolding by_index
  predicate-listed p h = record { within = rw (low_predicate p) h.within; named = ap index_name (low_predicate p) }

  term_storable : (t : Term) → TermStorable N t → TermStorable by_index (indexed_term N t)
  term_storable (element v) h = h
  term_storable (variable x) h = variable-listed x h

  terms_storable : (ts : Terms) → TermsStorable N ts → TermsStorable by_index (indexed_terms N ts)
  terms_storable no_terms h = tt
  terms_storable (term t ts) h = (term_storable t h.0, terms_storable ts h.1)

  mutual
    unfolding indexed

    storable_indexed : (f : Formula) → Storable N f → Storable by_index (indexed N f)
    storable_indexed (truth b) h = tt
    storable_indexed (atom p ts) h = (predicate-listed p h.0, rw (term_count-indexed ts) h.1, terms_storable ts h.2)
    storable_indexed (equal s t) h = (term_storable s h.0, term_storable t h.1)
    storable_indexed (connective o fs) h = AllStorable-indexed fs h
    storable_indexed (quantifier c x g f) h = (variable-listed x h.0, storable_indexed g h.1, storable_indexed f h.2)

    AllStorable-indexed : (fs : Formulas) → AllStorable N fs → AllStorable by_index (all_indexed N fs)
    AllStorable-indexed no_parts h = tt
    AllStorable-indexed (part f fs) h = (storable_indexed f h.0, AllStorable-indexed fs h.1)

  -- where the words of f stand, memory holds f by its indices
  pub stored-words : (f : Formula) (levels : ℕ) (s : List ℕ) → Storable N f → depth f ≤ levels → stored levels (words_in N f ++ s) ≡ indexed N f
  unfolding by_index
  stored-words f levels s h l =
      ap (λ (ws : List ℕ). stored levels (ws ++ s)) (sym (words-indexed f))
      ∙ formula_at-words by_index (indexed N f) levels s (storable_indexed f h) (rw (depth-indexed f) l)

  -- names in the table differ as their indices do
  pub same-indexed : (x y : Name) → VariableListed N x → VariableListed N y → same x y ≡ same (indexed_variable N x) (indexed_variable N y)
  same-indexed x y h k = pick (same x y) refl
    where
      pick : (b : Bool) → same x y ≡ b → b ≡ (eqb (N.variable_index x) (N.variable_index y) && true)
      pick true e = rw (eq-eqb (N.variable_index x) (N.variable_index y) (ap N.variable_index (same_true x y e)))
      pick false e =
          rw (ne_eqb (N.variable_index x) (N.variable_index y)
          (λ q. false≢true (sym e ∙ ap (same x) (sym (sym h.named ∙ ap N.variable_name q ∙ k.named)) ∙ same_refl x)))

  -- what names have, and their indices
  abbrev pub Matches : {A : Type 0} → (Name → A) → (Name → A) → Type 0
  Matches of_name of_index = (x : Name) → VariableListed N x → of_name x ≡ of_index (indexed_variable N x)

  -- Closed alike.

  matches_besides : (bound flags : Name → Bool) (y : Name) → VariableListed N y → Matches bound flags → Matches (besides y bound) (besides (indexed_variable N y) flags)
  matches_besides bound flags y k a x h = ap₂ ◌||◌ (same-indexed x y h k) (a x h)

  module _ (bound flags : Name → Bool) (a : Matches bound flags) where
    term_closed-indexed : (t : Term) → TermStorable N t → term_closed bound t ≡ term_closed flags (indexed_term N t)
    term_closed-indexed (element v) h = refl
    term_closed-indexed (variable x) h = a x h

    terms_closed-indexed : (ts : Terms) → TermsStorable N ts → terms_closed bound ts ≡ terms_closed flags (indexed_terms N ts)
    terms_closed-indexed no_terms h = refl
    terms_closed-indexed (term t ts) h = ap₂ ◌&&◌ (term_closed-indexed t h.0) (terms_closed-indexed ts h.1)

  mutual
    unfolding indexed closed

    pub closed-indexed : (f : Formula) (bound flags : Name → Bool) → Storable N f → Matches bound flags → closed bound f ≡ closed flags (indexed N f)
    closed-indexed (truth b) bound flags h a = refl
    closed-indexed (atom p ts) bound flags h a = terms_closed-indexed bound flags a ts h.2
    closed-indexed (equal s t) bound flags h a = ap₂ ◌&&◌ (term_closed-indexed bound flags a s h.0) (term_closed-indexed bound flags a t h.1)
    closed-indexed (connective o fs) bound flags h a = all_closed-indexed fs bound flags h a
    closed-indexed (quantifier c x g f) bound flags h a =
        let b = matches_besides bound flags x h.0 a in
        ap₂ ◌&&◌ (closed-indexed g (besides x bound) (besides (indexed_variable N x) flags) h.1 b)
        (closed-indexed f (besides x bound) (besides (indexed_variable N x) flags) h.2 b)

    all_closed-indexed : (fs : Formulas) (bound flags : Name → Bool) → AllStorable N fs → Matches bound flags → all_closed bound fs ≡ all_closed flags (all_indexed N fs)
    all_closed-indexed no_parts bound flags h a = refl
    all_closed-indexed (part f fs) bound flags h a = ap₂ ◌&&◌ (closed-indexed f bound flags h.0 a) (all_closed-indexed fs bound flags h.1 a)

  -- what memory's flags tell of f
  pub closed-words : (f : Formula) (levels : ℕ) (s : List ℕ) (bound : Name → Bool) (flags : List Bool) → Storable N f → depth f ≤ levels → Matches bound (flagged flags)
      → closed_at levels flags (words_in N f ++ s) ≡ closed bound f
  unfolding closed_at
  closed-words f levels s bound flags h l a = ap (closed (flagged flags)) (stored-words f levels s h l) ∙ sym (closed-indexed f bound (flagged flags) h a)

  matches_none : Matches none (flagged (replicate 64 false))
  matches_none x h = sym (get_or-replicate 64 (N.variable_index x) false false h.within)

  -- number 14: one flag is set
  pub closed_but-words : (x : Name) (f : Formula) (levels : ℕ) (s : List ℕ) → VariableListed N x → Storable N f → depth f ≤ levels
      → closed_at levels (set (replicate 64 false) (N.variable_index x % 64) true) (words_in N f ++ s) ≡ closed_but x f
  closed_but-words x f levels s k h l =
      let low : N.variable_index x % 64 ≡ N.variable_index x = omega (arith, k.within) in
      let long : N.variable_index x < length (replicate 64 false) = rw length-replicate k.within in
      rw low
      (closed-words f levels s (besides x none) (set (replicate 64 false) (N.variable_index x) true) h l
      (subst (Matches (besides x none)) (flagged-set (replicate 64 false) (N.variable_index x) long) (matches_besides none (flagged (replicate 64 false)) x k matches_none)))
