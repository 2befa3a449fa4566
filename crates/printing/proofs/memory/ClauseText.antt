-- What is printed of the words of a clause: by kinds, a turn of each loop, and the text of a ground clause where its words stand.
-- Assumes nothing.
use Prim.Native.Nat.{ℕ, zero, suc, ◌+◌, ◌-◌, ◌*◌, ◌/◌, ◌%◌, ◌≤◌, ◌<◌}
use native.Mathlib.Numerals.{add-one, sub-one}
use native.Mathlib.Omega.{arith}
use mathlib.Core.Path.{◌≡◌, refl, sym, ap, ap₂, subst, ◌∙◌}
use mathlib.Core.List.{List, [], ◌∷◌, ◌++◌, append-nil, append_assoc}
use mathlib.Core.Bool.{Bool, true, false≢true}
use lib.ListN.{length, get_or, drop, drop_of_length-le}
use lib.Seq.{drop-drop, drop-cons}
use Rattle.grammar.specs.Bytes.{Bytes, bytes, joined}
use Rattle.grammar.specs.Numbers.{decimal}
use Rattle.grammar.specs.Problem.{Name, Problem, is_output}
use Rattle.grammar.specs.Each.{Each}
use Rattle.logic.specs.Formula.{element, variable, Terms, no_terms, term, term_count, any, Connective, negation, junction}
use Rattle.logic.specs.Formula.{Formula, truth, atom, connective, Formulas, no_parts, part, parts_of, depth, depths}
use Rattle.logic.specs.Text.{term_texts, bracketed, arguments_text, truth_text, text_of, texts_of}
use Rattle.logic.specs.Normal.{elements_only, is_clause}
use Rattle.logic.proofs.Normal.{Clause, positive, negative, disjunction, Clauses, no_clauses, clause, is_clause_clause}
use Rattle.text.proofs.Places.{next-within}
use Rattle.table.specs.memory.Table.{table_name}
use Rattle.table.specs.declared.table.Table.{Table}
use Rattle.words.specs.memory.Kinds.{kind_of, skip}
use Rattle.words.specs.memory.Words.{truth_word, part_total, words}
use Rattle.words.specs.declared.word.Sign.{Sign}
use Rattle.words.specs.declared.word.Kind.{Kind}
use Rattle.words.specs.declared.word.Kind.TheVariants as kind
use Rattle.words.proofs.memory.Naming.{Naming, words_in, all_words_in, term_words_in, TermsStorable, Storable, AllStorable}
use Rattle.words.proofs.memory.Words.{sign_of, kind_truth, kind_connective, kind_atom, after_first-words}
use Rattle.printing.specs.memory.ClauseText.{element_of, element_texts, arguments_at, sign_opening, sign_closing, part_texts, atom_text, opening, kind_text, clause_text, clause_lines}

-- A turn of each loop.

pub elements-none : (n : ℕ) (s : List ℕ) → n ≡ 0 → element_texts n s ≡ []
unfolding element_texts
elements-none n s e = rw e

pub parts_none : (text : List ℕ → Bytes) (n : ℕ) (s : List ℕ) → n ≡ 0 → part_texts text n s ≡ []
unfolding part_texts
parts_none text n s e = rw e

module _ (problem : Bytes) (table : Table) where
  pub lines_none : (levels n : ℕ) (s : List ℕ) → n ≡ 0 → clause_lines problem table levels n s ≡ []
  unfolding clause_lines
  lines_none levels n s e = rw e

-- the first of `n`
module _ (work : List ℕ) (n : ℕ) where
  pub elements-first : (at : ℕ) → 0 < n → element_texts n (drop at work) ≡ decimal (element_of (get_or work at 0)) ∷ element_texts (n - 1) (drop (at + 1) work)
  unfolding element_texts
  elements-first at more =
      let e : n ≡ suc (n - 1) = omega arith in
      subst (λ (m : ℕ). element_texts m (drop at work) ≡ decimal (element_of (get_or work at 0)) ∷ element_texts (n - 1) (drop (at + 1) work)) (sym e) (rw (← next-within work at, drop-drop 1 at work))

  pub parts_first : 0 < n → (text : List ℕ → Bytes) (place : ℕ)
      → part_texts text n (drop place work) ≡ text (drop place work) ∷ part_texts text (n - 1) (drop (place + skip (drop place work) 1) work)
  unfolding part_texts
  parts_first more text place =
      let e : n ≡ suc (n - 1) = omega arith in
      subst (λ (m : ℕ). part_texts text m (drop place work) ≡ text (drop place work) ∷ part_texts text (n - 1) (drop (place + skip (drop place work) 1) work)) (sym e)
      (rw (drop-drop (skip (drop place work) 1) place work))

-- `i` of `n` are behind
module _ (work : List ℕ) (i n : ℕ) (more : i < n) where
  pub elements-more : (at : ℕ) → element_texts (n - i) (drop (at + i) work) ≡ decimal (element_of (get_or work (at + i) 0)) ∷ element_texts (n - (i + 1)) (drop (at + (i + 1)) work)
  elements-more at =
      let e : n - i - 1 ≡ n - (i + 1) = omega arith in
      let next : at + i + 1 ≡ at + (i + 1) = omega arith in
      rw (← e, ← next) (elements-first work (n - i) (at + i) (omega arith))

  pub parts_more : (text : List ℕ → Bytes) (place : ℕ)
      → part_texts text (n - i) (drop place work) ≡ text (drop place work) ∷ part_texts text (n - (i + 1)) (drop (place + skip (drop place work) 1) work)
  parts_more text place =
      let e : n - i - 1 ≡ n - (i + 1) = omega arith in
      rw (← e) (parts_first work (n - i) (omega arith) text place)

  pub lines_more : (problem : Bytes) (table : Table) (levels place : ℕ) → clause_lines problem table levels (n - i) (drop place work)
      ≡ (clause_text problem table levels (drop place work) ++ bytes "\n") ++ clause_lines problem table levels (n - (i + 1)) (drop (place + skip (drop place work) 1) work)
  unfolding clause_lines
  lines_more problem table levels place =
      let e : n - i ≡ suc (n - (i + 1)) = omega arith in
      rw (e, drop-drop (skip (drop place work) 1) place work, append_assoc)

-- An atom, with its terms in brackets if there are any.
module _ (problem : Bytes) (table : Table) (p n : ℕ) (s : List ℕ) where
  pub atom_plain : n ≡ 0 → atom_text problem table p n s ≡ table_name problem table p
  unfolding arguments_at
  atom_plain e = rw e (append-nil (table_name problem table p))

  pub atom-listed : (n ≡ 0 → ⊥) → atom_text problem table p n s ≡ table_name problem table p ++ bracketed (element_texts n s)
  unfolding arguments_at
  atom-listed h = ap (λ (t : Bytes). table_name problem table p ++ t) (pick n h)
    where
      pick : (n : ℕ) → (n ≡ 0 → ⊥) → arguments_at n s ≡ bracketed (element_texts n s)
      pick zero h = absurd (h refl)
      pick (suc n) h = refl

-- nothing stands before the parts of any other kind
pub opening_none : (problem : Bytes) (table : Table) (k : Kind) (s : List ℕ)
    → ((b : Bool) → k ≡ kind.Truth b → ⊥) → ((p n : ℕ) → k ≡ kind.Atom p n → ⊥) → ((o : Sign) (n : ℕ) → k ≡ kind.Connective o n → ⊥) → opening problem table k s ≡ []
opening_none problem table (kind.Truth b) s h j k = absurd (h b refl)
opening_none problem table (kind.Atom p n) s h j k = absurd (j p n refl)
opening_none problem table kind.Equality s h j k = refl
opening_none problem table (kind.Connective o n) s h j k = absurd (k o n refl)
opening_none problem table (kind.Quantifier every x) s h j k = refl
opening_none problem table kind.Term s h j k = refl

-- A clause.
module _ (problem : Bytes) (table : Table) (work : List ℕ) (at levels : ℕ) where
  pub clause_no_level : levels ≡ 0 → clause_text problem table levels (drop at work) ≡ []
  unfolding clause_text
  clause_no_level e = rw e

  pub clause_beyond : length work ≤ at → clause_text problem table levels (drop at work) ≡ []
  unfolding clause_text
  clause_beyond h = rw (drop_of_length-le work h) (pick levels)
    where
      pick : (l : ℕ) → clause_text problem table l [] ≡ []
      pick zero = refl
      pick (suc l) = refl

  pub clause_kind : (levels ≡ 0 → ⊥) → at < length work
      → clause_text problem table levels (drop at work) ≡ kind_text problem table (clause_text problem table (levels - 1)) (kind_of (get_or work at 0)) (drop (at + 1) work)
  unfolding clause_text
  clause_kind some within = rw (drop-cons work at 0 within, add-one at) (pick levels some)
    where
      pick : (l : ℕ) → (l ≡ 0 → ⊥)
          → clause_text problem table l (get_or work at 0 ∷ drop (suc at) work) ≡ kind_text problem table (clause_text problem table (l - 1)) (kind_of (get_or work at 0)) (drop (suc at) work)
      pick zero h = absurd (h refl)
      pick (suc l) h = rw (sub-one (suc l))

-- Where the words of a ground clause stand.

module _ (problem : Bytes) (table : Table) where
  clause_level : (levels w : ℕ) (s : List ℕ) (k : Kind) → 0 < levels → kind_of w ≡ k
      → clause_text problem table levels (w ∷ s) ≡ kind_text problem table (clause_text problem table (levels - 1)) k s
  unfolding clause_text
  clause_level zero w s k h e = absurd (omega arith)
  clause_level (suc levels) w s k h e = rw (e, sub-one (suc levels))

  pub clause_text-truth : (levels : ℕ) (b : Bool) (s : List ℕ) → 0 < levels → clause_text problem table levels (truth_word b ∷ s) ≡ text_of (truth b)
  unfolding text_of part_texts
  clause_text-truth levels b s h = clause_level levels (truth_word b) s _ h (kind_truth b) ∙ append-nil (truth_text b)

  module _ (N : Naming) where
    element_texts-words : (ts : Terms) (s : List ℕ) → elements_only ts ≡ true → TermsStorable N ts → element_texts (term_count ts) (term_words_in N ts ++ s) ≡ term_texts ts
    unfolding element_texts
    element_texts-words no_terms s e h = refl
    element_texts-words (term (element v) ts) s e h =
        let payload : (v * 16 + 12) / 16 ≡ v = omega arith in
        let low : v % 256 ≡ v = omega (arith, h.0) in
        rw (payload, low, element_texts-words ts s e h.1)
    element_texts-words (term (variable x) ts) s e h = absurd (false≢true e)

    arguments_at-words : (ts : Terms) (s : List ℕ) → elements_only ts ≡ true → TermsStorable N ts → arguments_at (term_count ts) (term_words_in N ts ++ s) ≡ arguments_text ts
    unfolding arguments_at
    arguments_at-words no_terms s e h = refl
    arguments_at-words (term t ts) s e h = ap bracketed (element_texts-words (term t ts) s e h)

    parts_end : (levels : ℕ) (s : List ℕ) → part_texts (clause_text problem table levels) 0 s ≡ []
    parts_end levels s = parts_none (clause_text problem table levels) 0 s refl

    parts_words : (levels : ℕ) (f : Formula) (fs : Formulas) (s : List ℕ)
        → ((r : List ℕ) → clause_text problem table levels (words_in N f ++ r) ≡ text_of f)
        → part_texts (clause_text problem table levels) (part_total fs) (all_words_in N fs ++ s) ≡ texts_of fs
        → part_texts (clause_text problem table levels) (part_total (part f fs)) (all_words_in N (part f fs) ++ s) ≡ texts_of (part f fs)
    unfolding part_texts words text_of
    parts_words levels f fs s e h = let r = all_words_in N fs ++ s in rw (append_assoc, e r, after_first-words N f r, h)

    connective-words : (o : Connective) (fs : Formulas) (levels : ℕ) (s : List ℕ) → 0 < levels
        → part_texts (clause_text problem table (levels - 1)) (part_total fs) (all_words_in N fs ++ s) ≡ texts_of fs
        → clause_text problem table levels (words_in N (connective o fs) ++ s) ≡ sign_opening (sign_of o) ++ (joined 44 (texts_of fs) ++ sign_closing (sign_of o))
    unfolding words
    connective-words o fs levels s l e =
        clause_level levels _ _ _ l (kind_connective o (part_total fs))
        ∙ ap (λ (ts : List Bytes). sign_opening (sign_of o) ++ (joined 44 ts ++ sign_closing (sign_of o))) e

    -- an output predicate's name stands where the table says
    module _ (P : Problem) (named : (p : Name) → is_output P p ≡ true → table_name problem table (N.predicate_index p) ≡ p) where
      atom-words : (p : Name) (ts : Terms) (levels : ℕ) (s : List ℕ) → is_output P p ≡ true → elements_only ts ≡ true → Storable N (atom p ts) → 0 < levels
          → clause_text problem table levels (words_in N (atom p ts) ++ s) ≡ text_of (atom p ts)
      unfolding words text_of part_texts
      atom-words p ts levels s o e h l =
          let few : term_count ts % 4 ≡ term_count ts = omega (arith, h.1) in
          clause_level levels _ _ _ l (kind_atom (N.predicate_index p) (term_count ts) (N.small p))
          ∙ append-nil (atom_text problem table (N.predicate_index p) (term_count ts % 4) (term_words_in N ts ++ s))
          ∙ rw few (ap₂ ◌++◌ (named p o) (arguments_at-words ts s e h.2))

      mutual
        unfolding words text_of depth

        text_clause : {f : Formula} → Clause P f → (levels : ℕ) (s : List ℕ) → Storable N f → depth f ≤ levels
            → clause_text problem table levels (words_in N f ++ s) ≡ text_of f
        text_clause (positive {p = p} {ts = ts} o e) levels s h l = atom-words p ts levels s o e h l
        text_clause (negative {p = p} {ts = ts} o e) levels s h l =
            connective-words negation (part (atom p ts) no_parts) levels s (omega arith)
            (parts_words (levels - 1) (atom p ts) no_parts s (λ r. atom-words p ts (levels - 1) r o e h.0 (omega arith)) (parts_end (levels - 1) s))
            ∙ ap (λ (t : Bytes). bytes "~" ++ t) (append-nil (text_of (atom p ts) ++ []))
        text_clause (disjunction {f = f} {fs = fs} c cs) levels s h l =
            connective-words (junction any) (part f fs) levels s (omega arith)
            (parts_words (levels - 1) f fs s (λ r. text_clause c (levels - 1) r h.0 (omega arith)) (texts_clauses cs (levels - 1) s h.1 (omega arith)))

        texts_clauses : {fs : Formulas} → Clauses P fs → (levels : ℕ) (s : List ℕ) → AllStorable N fs → depths fs ≤ levels
            → part_texts (clause_text problem table levels) (part_total fs) (all_words_in N fs ++ s) ≡ texts_of fs
        texts_clauses no_clauses levels s h l = parts_end levels s
        texts_clauses (clause {f = f} {fs = fs} c cs) levels s h l =
            parts_words levels f fs s (λ r. text_clause c levels r h.0 (omega arith)) (texts_clauses cs levels s h.1 (omega arith))

      -- the text of a ground clause is printed
      pub clause_text-words : (f : Formula) (levels : ℕ) (s : List ℕ) → is_clause P f ≡ true → Storable N f → depth f ≤ levels
          → clause_text problem table levels (words_in N f ++ s) ≡ text_of f
      clause_text-words f levels s e h l = text_clause (is_clause_clause P f e) levels s h l

      pub record Printable (levels : ℕ) (f : Formula) : Type 0 where
        pub ground : is_clause P f ≡ true
        pub storable : Storable N f
        pub shallow : depth f ≤ levels

      -- ground clauses one after the other; their text is any function that goes by these clauses
      module _
          (text : List Formula → Bytes)
          (none : text [] ≡ [])
          (more : (f : Formula) (fs : List Formula) → text (f ∷ fs) ≡ text_of f ++ (bytes "\n" ++ text fs))
        where
          pub clause_lines-words : (fs : List Formula) (levels : ℕ) (s : List ℕ) → Each (Printable levels) fs
              → clause_lines problem table levels (length fs) (all_words_in N (parts_of fs) ++ s) ≡ text fs
          unfolding clause_lines words
          clause_lines-words [] levels s h = sym none
          clause_lines-words (f ∷ fs) levels s h =
              let r = all_words_in N (parts_of fs) ++ s in
              rw (
                append_assoc,
                clause_text-words f levels r h.0.ground h.0.storable h.0.shallow,
                after_first-words N f r,
                clause_lines-words fs levels s h.1,
                more f fs,
              )
