-- Words and terms at a place of the theory's text: what the definitions read there, by what the code has seen.
-- Assumes nothing.
use Prim.Native.Nat.{ℕ, suc, ◌+◌, ◌-◌, ◌*◌, ◌≤◌, ◌<◌}
use native.Mathlib.Omega.{arith}
use mathlib.Core.Path.{◌≡◌, refl, sym, ap, ap₂, ◌∙◌}
use mathlib.Core.List.{List, [], ◌∷◌, ◌++◌, append-nil, append_assoc}
use mathlib.Core.Bool.{Bool, true, false, not, ◌&&◌, ◌||◌, and-true, and-false, and_assoc, false≢true}
use lib.Dec.{leb}
use lib.ListN.{length, take, drop, set, length-append, length-drop}
use lib.Seq.{drop-drop}
use borrow.Author.Tests.{lt-leb, eq-eqb, ne_eqb}
use Rattle.grammar.specs.Bytes.{Bytes, bytes, next, same, span, is_digit, is_capital, is_small, is_small_or_digit, is_letter_or_digit}
use Rattle.grammar.specs.Outcome.{done, refused}
use Rattle.grammar.specs.Reading.{Reading, token, read_number}
use Rattle.grammar.specs.Problem.{Name, is_element, is_name, read_name}
use Rattle.grammar.specs.Each.{Each}
use Rattle.grammar.proofs.Laws.{or_left, each_left, each_right}
use Rattle.grammar.proofs.Reading.{span-split, span-take}
use Rattle.grammar.proofs.Separated.{reads_shrinks, prepended, prepended_none}
use Rattle.logic.specs.Text.{is_variable}
use Rattle.logic.specs.Formula.{Term, element, variable, Terms, no_terms, term, terms_of}
use Rattle.logic.specs.Reading.{read_variable, read_term}
use Rattle.logic.specs.Names.{term_known, terms_known, term_closed, terms_closed}
use Rattle.logic.specs.Limits.{term_variables, terms_variables}
use Rattle.logic.proofs.Reading.{reads-term}
use Rattle.std.specs.Prelude.{Option, Some, None}
use Rattle.text.specs.declared.read.Read.{Read}
use Rattle.text.specs.memory.Found.{Taken}
use Rattle.text.specs.memory.Numbers.{SmallFound, LargeFound}
use Rattle.text.proofs.FoundBytes.{byte_found}
use Rattle.words.specs.memory.Words.{term_word, term_words}
use Rattle.terms.specs.declared.name_table.NameTable.{NameTable}
use Rattle.terms.specs.declared.term.Terms.{Terms as Told}
use Rattle.terms.specs.memory.NameTable.{extended_by, NameListed}
use Rattle.terms.specs.memory.Entries.{Setting, Memory, memory, Entered}
use Rattle.terms.specs.memory.Lists.{up_to}
use Rattle.terms.specs.memory.TermReads.{read_element, read_variable_term, TermFound, ToldTerm, TermsTaken, TermsFound, ToldTerms, closed_up_to, read_term_list}
use Rattle.terms.proofs.memory.Facts.{and_swap}
use Rattle.terms.proofs.memory.Entries.{GoesBy, entered-none, entered_alike, entered_then, entered-index}
use Rattle.terms.proofs.memory.Lists.{list-refused, list_full, list-last, list-more, byte_read, byte_refused, up_to-separated}

-- Words.

-- a class holds all that pass a test: whether a run begins with one that does is whether the text does
first-span : (class test : ℕ → Bool) → test 0 ≡ false → ((b : ℕ) → class b ≡ false → test b ≡ false) → (s : Bytes) → test (next (span class s)) ≡ test (next s)
unfolding span
first-span class test nought within [] = refl
first-span class test nought within (b ∷ s) = pick (class b) refl
  where
    pick : (c : Bool) → class b ≡ c → let w : Bytes = elim c [ true ↦ b ∷ span class s | false ↦ [] ] in test (next w) ≡ test b
    pick true e = refl
    pick false e = nought ∙ sym (within b e)

some_span : (class test : ℕ → Bool) → test 0 ≡ false → (s : Bytes) → test (next (span class s)) ≡ true → 0 < length (span class s)
some_span class test nought s e = pick (span class s) e
  where
    pick : (w : Bytes) → test (next w) ≡ true → 0 < length w
    pick [] e = absurd (false≢true (sym nought ∙ e))
    pick (b ∷ w) e = omega arith

-- a run of a class at a place
module _ (class : ℕ → Bool) (text : Bytes) (at : ℕ) where
  abbrev run : Bytes
  run = span class (drop at text)

  module _ (next : ℕ) (ends : next ≡ at + length run) where
    run-part : take (next - at) (drop at text) ≡ run
    run-part = let e : next - at ≡ length run = omega arith in rw e (span-take class (drop at text))

    token-found : (test : Bytes → Bool) → test run ≡ true → token 5 class test (drop at text) ≡ done (take (next - at) (drop at text), drop next text)
    unfolding token
    token-found test e = rw (e, run-part, drop-drop, ← ends)

  token-refused : (test : Bytes → Bool) → test run ≡ false → token 5 class test (drop at text) ≡ refused 5
  unfolding token
  token-refused test e = rw e

not_digit : (b : ℕ) → is_small_or_digit b ≡ false → is_small b ≡ false
not_digit b e = or_left (is_small b) (is_digit b) e

not_letter : (b : ℕ) → is_letter_or_digit b ≡ false → is_capital b ≡ false
not_letter b e = or_left (is_capital b) (is_small_or_digit b) e

-- a name from one place to another
abbrev pub NameTaken : Reading Name → Bytes → ℕ → ℕ → Type 0
NameTaken reader text at end = Taken reader text at (take (end - at) (drop at text)) end

module _ (text : Bytes) (at : ℕ) where
  -- a predicate's name
  pub name-refused : is_capital (next (drop at text)) ≡ false → read_name 5 (drop at text) ≡ refused 5
  unfolding read_name
  name-refused e = token-refused is_letter_or_digit text at is_name (rw (first-span is_letter_or_digit is_capital refl not_letter (drop at text) ∙ e))

  pub name-found : (end : ℕ) → is_capital (next (drop at text)) ≡ true → end ≡ at + length (span is_letter_or_digit (drop at text)) → end ≤ length text
      → NameTaken (read_name 5) text at end
  unfolding read_name
  name-found end e ends within =
      let first = first-span is_letter_or_digit is_capital refl not_letter (drop at text) ∙ e in
      let some = some_span is_letter_or_digit is_capital refl (drop at text) first in
      record {
        is = token-found is_letter_or_digit text at end ends is_name (rw (first, (span-split is_letter_or_digit (drop at text)).0));
        after = omega arith;
        within = within;
      }

  -- a variable
  pub variable-none : is_small (next (drop at text)) ≡ false → read_variable (drop at text) ≡ refused 5
  unfolding read_variable
  variable-none e = token-refused is_small_or_digit text at is_variable (rw (first-span is_small_or_digit is_small refl not_digit (drop at text) ∙ e))

  module _ (end : ℕ) (e : is_small (next (drop at text)) ≡ true) (ends : end ≡ at + length (span is_small_or_digit (drop at text))) where
    abbrev x : Name
    x = take (end - at) (drop at text)

    first : is_small (next (span is_small_or_digit (drop at text))) ≡ true
    first = first-span is_small_or_digit is_small refl not_digit (drop at text) ∙ e

    spelled : (b : Bool) → (same x (bytes "true") || same x (bytes "false")) ≡ b → is_variable (span is_small_or_digit (drop at text)) ≡ not b
    spelled b e =
        rw (first, (span-split is_small_or_digit (drop at text)).0, ← run-part is_small_or_digit text at end ends) (pick (same x (bytes "true")) (same x (bytes "false")) e)
      where
        pick : (c d : Bool) → (c || d) ≡ b → (not c && not d) ≡ not b
        pick true d e = ap not e
        pick false d e = ap not e

    pub variable-truth : (same x (bytes "true") || same x (bytes "false")) ≡ true → read_variable (drop at text) ≡ refused 5
    unfolding read_variable
    variable-truth t = token-refused is_small_or_digit text at is_variable (spelled true t)

    pub variable-found : (same x (bytes "true") || same x (bytes "false")) ≡ false → end ≤ length text → NameTaken read_variable text at end
    unfolding read_variable
    variable-found f within =
        let some = some_span is_small_or_digit is_small refl (drop at text) first in
        record { is = token-found is_small_or_digit text at end ends is_variable (spelled false f); after = omega arith; within = within }

-- Terms.

module _ (s : Setting) (at : ℕ) (names : NameTable) (work : List ℕ) (to : ℕ) where
  element-entered : (v : ℕ) (known : Bool) → Entered s.text [] known (λ ix. (v * 16 + 12) ∷ []) (memory names work) to (memory names (set work to (v * 16 + 12)))
  unfolding extended_by
  element-entered v known = record { names = refl; work = λ h. refl }

  pub element-found : (v after : ℕ) (named : Bool) → SmallFound s.text at v after → named ≡ is_element s.problem.domain v
      → TermFound s read_element at (memory names work) to after named (memory names (set work to (v * 16 + 12)))
  unfolding read_element
  element-found v after named f e =
      record {
        term = element v;
        is = rw (f.found.is 5);
        judged = e ∙ sym (and-true (is_element s.problem.domain v));
        after = f.found.after;
        within = f.found.within;
        entered = element-entered v (is_element s.problem.domain v);
      }

  -- an element too large to be told is none of the domain
  pub element-large : (after : ℕ) → s.problem.domain ≤ 64 → LargeFound s.text at after → TermFound s read_element at (memory names work) to after false (memory names work)
  unfolding read_element extended_by
  element-large after h f =
      let outside : is_element s.problem.domain f.number ≡ false = rw (lt-leb f.number s.problem.domain (omega (arith, f.large))) (and-false (leb 1 f.number)) in
      record {
        term = element f.number;
        is = rw (f.found.is 5);
        judged = rw outside;
        after = f.found.after;
        within = f.found.within;
        entered = record { names = refl; work = λ e. absurd (false≢true (sym outside ∙ e)) };
      }

  pub variable-entered : (x : Name) (after index : ℕ) (more : NameTable) (named : Bool) → Taken read_variable s.text at x after → NameListed s.text x names more index
      → named ≡ s.bound x → TermFound s read_variable_term at (memory names work) to after named (memory more (set work to (index * 16 + 13)))
  unfolding read_variable_term
  variable-entered x after index more named f listed e =
      record {
        term = variable x;
        is = rw f.is;
        judged = e;
        after = f.after;
        within = f.within;
        entered = entered-index s.text 13 listed (entered-none s.text (memory more work) (to + 1));
      }

module _ (s : Setting) (at : ℕ) where
  pub element-refused : ((number : ℕ) → read_number number (drop at s.text) ≡ refused number) → read_element (drop at s.text) ≡ refused 5
  unfolding read_element
  element-refused e = rw (e 5)

  pub variable-refused : read_variable (drop at s.text) ≡ refused 5 → read_variable_term (drop at s.text) ≡ refused 5
  unfolding read_variable_term
  variable-refused e = rw e

  pub term_digit : is_digit (next (drop at s.text)) ≡ true → read_element (drop at s.text) ≡ read_term (drop at s.text)
  unfolding read_element read_term
  term_digit e = rw e

  pub term_other : is_digit (next (drop at s.text)) ≡ false → read_variable_term (drop at s.text) ≡ read_term (drop at s.text)
  unfolding read_variable_term read_term
  term_other e = rw e

  -- by what one reader reads, where another reads the same
  pub told-term : (one other : Reading Term) (old : Memory) (to : ℕ) (r : Option (Read Bool)) (new : Memory) → one (drop at s.text) ≡ other (drop at s.text)
      → ToldTerm s one at old to r new → ToldTerm s other at old to r new
  told-term one other old to (Some read) new e f =
      record { term = f.term; is = sym e ∙ f.is; judged = f.judged; after = f.after; within = f.within; entered = f.entered }
  told-term one other old to None new e f = sym e ∙ f

-- Lists of terms, with one more behind the others.

terms_variables-last : (ts : List Term) (t : Term) → terms_variables (terms_of ts) ++ term_variables t ≡ terms_variables (terms_of (ts ++ (t ∷ [])))
terms_variables-last [] t = sym (append-nil (term_variables t))
terms_variables-last (u ∷ ts) t = append_assoc (term_variables u) _ _ ∙ ap (λ xs. term_variables u ++ xs) (terms_variables-last ts t)

terms_known-last : (n : ℕ) (ts : List Term) (t : Term) → (terms_known n (terms_of ts) && term_known n t) ≡ terms_known n (terms_of (ts ++ (t ∷ [])))
terms_known-last n [] t = sym (and-true (term_known n t))
terms_known-last n (u ∷ ts) t = and_assoc (term_known n u) _ _ ∙ ap (λ b. term_known n u && b) (terms_known-last n ts t)

terms_closed-last : (bound : Name → Bool) (ts : List Term) (t : Term) → (terms_closed bound (terms_of ts) && term_closed bound t) ≡ terms_closed bound (terms_of (ts ++ (t ∷ [])))
terms_closed-last bound [] t = sym (and-true (term_closed bound t))
terms_closed-last bound (u ∷ ts) t = and_assoc (term_closed bound u) _ _ ∙ ap (λ b. term_closed bound u && b) (terms_closed-last bound ts t)

term_words-last : (ix : Name → ℕ) (ts : List Term) (t : Term) → term_words ix (terms_of ts) ++ (term_word ix t ∷ []) ≡ term_words ix (terms_of (ts ++ (t ∷ [])))
term_words-last ix [] t = refl
term_words-last ix (u ∷ ts) t = ap (λ l. term_word ix u ∷ l) (term_words-last ix ts t)

length-term_words : (ix : Name → ℕ) (ts : List Term) → length (term_words ix (terms_of ts)) ≡ length ts
length-term_words ix [] = refl
length-term_words ix (t ∷ ts) = ap suc (length-term_words ix ts)

pub term_word_goes : (t : Term) (ix jx : Name → ℕ) → Each (λ x. ix x ≡ jx x) (term_variables t) → term_word ix t ≡ term_word jx t
term_word_goes (element v) ix jx same = refl
term_word_goes (variable x) ix jx same = rw same.0

pub term_words_goes : (ts : Terms) → GoesBy (terms_variables ts) (λ ix. term_words ix ts)
term_words_goes no_terms ix jx same = refl
term_words_goes (term t ts) ix jx same =
    ap₂ (λ (w : ℕ) l. w ∷ l)
    (term_word_goes t ix jx (each_left _ (term_variables t) (terms_variables ts) same))
    (term_words_goes ts ix jx (each_right _ (term_variables t) (terms_variables ts) same))

abbrev pub told : ℕ → Bool → Told
told count named = record { count = count; named = named }

module _ (s : Setting) where
  pub terms_none : (m : Memory) (to : ℕ) → TermsTaken s [] (told 0 true) m to m
  terms_none m to = record { counted = refl; judged = refl; entered = entered-none s.text m to }

  -- with one more
  abbrev pub more_told : Told → Bool → Told
  more_told before named = told (before.count + 1) (before.named && named)

  terms_more : (items : List Term) (before : Told) (old mid : Memory) (to : ℕ) → TermsTaken s items before old to mid
      → (i after : ℕ) (one : Bool) (new : Memory) (f : TermFound s read_term i mid (to + before.count) after one new)
      → TermsTaken s (items ++ (f.term ∷ [])) (more_told before one) old to new
  terms_more items before old mid to taken i after one new f =
      let n = s.problem.domain in
      record {
        counted = rw (length-append items (f.term ∷ [])) (omega (arith, taken.counted));
        judged = rw (taken.judged, f.judged)
            (and_swap (terms_known n (terms_of items)) (terms_closed s.bound (terms_of items)) (term_known n f.term) (term_closed s.bound f.term)
            ∙ ap₂ ◌&&◌ (terms_known-last n items f.term) (terms_closed-last s.bound items f.term));
        entered = entered_alike s.text (terms_variables-last items f.term) (λ h. terms_known-last n items f.term ∙ h) (λ ix. term_words-last ix items f.term)
            (entered_then s.text taken.entered (term_words_goes (terms_of items)) (λ ix. length-term_words ix items ∙ sym taken.counted) f.entered);
      }

  -- some are read, and then those from i on, as many as may still follow
  pub record TermsPassed (most at : ℕ) (old : Memory) (to i : ℕ) (before : Told) (new : Memory) : Type 0 where
    pub items : List Term
    pub is : up_to most read_term (drop at s.text) ≡ prepended items (up_to (most - before.count) read_term (drop i s.text))
    pub taken : TermsTaken s items before old to new
    pub few : before.count ≤ most
    pub after : at + before.count + before.count ≤ i
    pub within : i ≤ length s.text

  module _ (most at : ℕ) (old : Memory) (to : ℕ) where
    pub terms_first : at ≤ length s.text → TermsPassed most at old to at (told 0 true) old
    terms_first h =
        record {
          items = [];
          is = let e : most - 0 ≡ most = omega arith in rw e (prepended_none (up_to most read_term (drop at s.text)));
          taken = terms_none old to;
          few = omega arith;
          after = omega arith;
          within = h;
        }

    module _ (i : ℕ) (before : Told) (mid : Memory) (p : TermsPassed most at old to i before mid) where
      abbrev more : ℕ
      more = most - before.count

      pub terms_refused : read_term (drop i s.text) ≡ refused 5 → up_to most read_term (drop at s.text) ≡ refused 5
      terms_refused e = p.is ∙ list-refused read_term s.text i more p.items 5 e

      module _ (after : ℕ) (one : Bool) (new : Memory) (f : TermFound s read_term i mid (to + before.count) after one new) where
        terms_end : prepended p.items (up_to more read_term (drop i s.text)) ≡ done (p.items ++ (f.term ∷ []), drop after s.text)
            → TermsFound s (up_to most read_term) at old to after (more_told before one) new
        terms_end e =
            record {
              items = p.items ++ (f.term ∷ []);
              is = p.is ∙ e;
              taken = terms_more p.items before old mid to p.taken i after one new f;
              after = omega (arith, p.after, f.after);
              within = f.within;
            }

        pub terms_full : most < before.count + 1 → TermsFound s (up_to most read_term) at old to after (more_told before one) new
        terms_full z = terms_end (list_full read_term s.text i more p.items f.term after f.is (omega (arith, p.few)))

        pub terms_last : (next (drop after s.text) ≡ 44 → ⊥) → TermsFound s (up_to most read_term) at old to after (more_told before one) new
        terms_last h = terms_end (list-last read_term s.text i more p.items f.term after f.is h)

        pub terms_on : before.count + 1 ≤ most → next (drop after s.text) ≡ 44 → TermsPassed most at old to (after + 1) (more_told before one) new
        terms_on some h =
            let e : more - 1 ≡ most - (before.count + 1) = omega arith in
            record {
              items = p.items ++ (f.term ∷ []);
              is = p.is ∙ rw e at (list-more read_term s.text i more p.items f.term after f.is (λ z. omega arith) h);
              taken = terms_more p.items before old mid to p.taken i after one new f;
              few = some;
              after = omega (arith, p.after, f.after);
              within = (byte_found s.text after 44 (omega arith) h).within;
            }

-- a bracket behind them
module _ (s : Setting) (most at : ℕ) where
  pub closed-refused : up_to most read_term (drop at s.text) ≡ refused 5 → closed_up_to most (drop at s.text) ≡ refused 5
  unfolding closed_up_to
  closed-refused e = rw e

  module _ (old : Memory) (to after : ℕ) (terms : Told) (new : Memory) (f : TermsFound s (up_to most read_term) at old to after terms new) where
    pub closed_other : (next (drop after s.text) ≡ 41 → ⊥) → closed_up_to most (drop at s.text) ≡ refused 5
    unfolding closed_up_to
    closed_other h = rw (f.is, byte_refused s.text after 41 (omega arith) 5 h)

    pub closed-found : next (drop after s.text) ≡ 41 → TermsFound s (closed_up_to most) at old to (after + 1) terms new
    unfolding closed_up_to
    closed-found h =
        record {
          items = f.items;
          is = rw (f.is, byte_read s.text after 41 (omega arith) 5 h);
          taken = f.taken;
          after = omega (arith, f.after);
          within = (byte_found s.text after 41 (omega arith) h).within;
        }

-- The terms of an atom.

module _ (s : Setting) (at : ℕ) (old : Memory) (to : ℕ) where
  pub arguments_none : at ≤ length s.text → (next (drop at s.text) ≡ 40 → ⊥) → TermsFound s read_term_list at old to at (told 0 true) old
  unfolding read_term_list
  arguments_none h e =
      record { items = []; is = rw (ne_eqb (next (drop at s.text)) 40 e); taken = terms_none s old to; after = omega arith; within = h }

  arguments_behind : next (drop at s.text) ≡ 40 → read_term_list (drop at s.text) ≡ closed_up_to (length s.text) (drop (at + 1) s.text)
  unfolding read_term_list closed_up_to
  arguments_behind e =
      rw (
        eq-eqb (next (drop at s.text)) 40 e,
        byte_read s.text at 40 (omega arith) 5 e,
        up_to-separated read_term (reads_shrinks reads-term) (length s.text) (drop (at + 1) s.text) (omega (arith, length-drop (at + 1) s.text)),
      )

  pub arguments_some : next (drop at s.text) ≡ 40 → (r : Option (Read Told)) (new : Memory) → ToldTerms s (closed_up_to (length s.text)) (at + 1) old to r new
      → ToldTerms s read_term_list at old to r new
  arguments_some e (Some read) new f =
      record { items = f.items; is = arguments_behind e ∙ f.is; taken = f.taken; after = omega (arith, f.after); within = f.within }
  arguments_some e None new f = arguments_behind e ∙ f
