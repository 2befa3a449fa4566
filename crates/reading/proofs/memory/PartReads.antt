-- The parts of a connective, one after the other: what was read and what is read of the rest are what is read of the whole, and what is told of the
-- parts read so far is told of them with one more.
-- Assumes nothing.
use Prim.Native.Nat.{ℕ, zero, suc, ◌+◌, ◌-◌, ◌*◌, ◌≤◌, ◌<◌}
use native.Mathlib.Omega.{arith}
use mathlib.Core.Path.{◌≡◌, refl, sym, ap, ap₂, ◌∙◌}
use mathlib.Core.List.{List, [], ◌∷◌, ◌++◌, append-nil, append_assoc}
use mathlib.Core.Bool.{Bool, true, false, not, ◌&&◌, and-true, and_assoc, false≢true}
use lib.Dec.{eqb}
use borrow.Author.Tests.{eqb-true, eqb-false, not-true}
use Rattle.grammar.proofs.Laws.{and_left, and_right, each_left, each_right}
use lib.ListN.{length, drop, length-append}
use Rattle.grammar.specs.Bytes.{Bytes, next}
use Rattle.grammar.specs.Outcome.{done, refused}
use Rattle.grammar.specs.Reading.{Reading}
use Rattle.grammar.specs.Problem.{Name, Problem}
use Rattle.grammar.proofs.Separated.{prepended, prepended_none}
use Rattle.logic.specs.Formula.{term_count, Formula, truth, atom, equal, connective, quantifier, Formulas, no_parts, part, parts_of, size, sizes}
use Rattle.logic.specs.Names.{known, all_known}
use Rattle.logic.specs.Limits.{term_variables, variables, all_variables}
use Rattle.text.proofs.FoundBytes.{byte_found}
use Rattle.words.specs.memory.Words.{connective_tag, quantifier_tag, part_total, words, all_words}
use Rattle.words.proofs.memory.Words.{all_words-sizes}
use Rattle.terms.specs.memory.Lists.{up_to}
use Rattle.terms.specs.memory.Entries.{Setting, Memory}
use Rattle.text.specs.declared.read.Read.{Read}
use Rattle.reading.specs.declared.read.Measured.{Measured}
use Rattle.reading.specs.declared.read.Parts.{Parts}
use Rattle.terms.proofs.memory.Facts.{facts_none, facts_last}
use Rattle.terms.proofs.memory.Lists.{list-refused, list_full, list-last, list-more}
use Rattle.terms.proofs.memory.Entries.{GoesBy, entered-none, entered_alike, entered_then}
use Rattle.terms.proofs.memory.TermReads.{term_word_goes, term_words_goes}
use Rattle.reading.specs.memory.FormulaReads.{Found}
use Rattle.reading.specs.memory.PartReads.{another_follows, none_told, with_told, PartsTaken, PartsFound}

-- A formula's words go by the indices of its variables.

mutual
  unfolding words variables

  pub words_goes : (px : Name → ℕ) (f : Formula) → GoesBy (variables f) (λ ix. words ix px f)
  words_goes px (truth b) ix jx same = refl
  words_goes px (atom p ts) ix jx same = ap (λ l. ((term_count ts * 256 + px p) * 16 + 10) ∷ l) (term_words_goes ts ix jx same)
  words_goes px (equal s t) ix jx same =
      ap₂ (λ (a b : ℕ). 11 ∷ a ∷ b ∷ [])
      (term_word_goes s ix jx (each_left _ (term_variables s) (term_variables t) same))
      (term_word_goes t ix jx (each_right _ (term_variables s) (term_variables t) same))
  words_goes px (connective o fs) ix jx same = ap (λ l. (part_total fs * 16 + connective_tag o) ∷ l) (all_words_goes px fs ix jx same)
  words_goes px (quantifier c x g f) ix jx same =
      ap₂ (λ (w : ℕ) l. w ∷ l) (ap (λ i. i * 16 + quantifier_tag c) same.0)
      (ap₂ ◌++◌
      (words_goes px g ix jx (each_left _ (variables g) (variables f) same.1))
      (words_goes px f ix jx (each_right _ (variables g) (variables f) same.1)))

  pub all_words_goes : (px : Name → ℕ) (fs : Formulas) → GoesBy (all_variables fs) (λ ix. all_words ix px fs)
  all_words_goes px no_parts ix jx same = refl
  all_words_goes px (part f fs) ix jx same =
      ap₂ ◌++◌
      (words_goes px f ix jx (each_left _ (variables f) (all_variables fs) same))
      (all_words_goes px fs ix jx (each_right _ (variables f) (all_variables fs) same))

-- Lists of formulas, with one more behind the others.

pub all_variables-last : (fs : List Formula) (f : Formula) → all_variables (parts_of fs) ++ variables f ≡ all_variables (parts_of (fs ++ (f ∷ [])))
unfolding variables
all_variables-last [] f = sym (append-nil (variables f))
all_variables-last (g ∷ fs) f = append_assoc (variables g) _ _ ∙ ap (λ xs. variables g ++ xs) (all_variables-last fs f)

all_known-last : (P : Problem) (fs : List Formula) (f : Formula) → (all_known P (parts_of fs) && known P f) ≡ all_known P (parts_of (fs ++ (f ∷ [])))
unfolding known
all_known-last P [] f = sym (and-true (known P f))
all_known-last P (g ∷ fs) f = and_assoc (known P g) _ _ ∙ ap (λ b. known P g && b) (all_known-last P fs f)

pub all_words-last : (ix px : Name → ℕ) (fs : List Formula) (f : Formula)
    → all_words ix px (parts_of fs) ++ words ix px f ≡ all_words ix px (parts_of (fs ++ (f ∷ [])))
unfolding words
all_words-last ix px [] f = sym (append-nil (words ix px f))
all_words-last ix px (g ∷ fs) f = append_assoc (words ix px g) _ _ ∙ ap (λ l. words ix px g ++ l) (all_words-last ix px fs f)

sizes-last : (fs : List Formula) (f : Formula) → sizes (parts_of (fs ++ (f ∷ []))) ≡ sizes (parts_of fs) + size f
unfolding size
sizes-last [] f = omega arith
sizes-last (g ∷ fs) f = omega (arith, sizes-last fs f)

size_some : (f : Formula) → 1 ≤ size f
unfolding size
size_some (truth b) = omega arith
size_some (atom p ts) = omega arith
size_some (equal s t) = omega arith
size_some (connective o fs) = omega arith
size_some (quantifier c x g f) = omega arith

length-sizes : (fs : List Formula) → length fs ≤ sizes (parts_of fs)
unfolding size
length-sizes [] = omega arith
length-sizes (f ∷ fs) = omega (arith, size_some f, length-sizes fs)

module _ (s : Setting) where
  -- there are no more than their size
  pub parts_few : {items : List Formula} {parts : Parts} {old : Memory} {to : ℕ} {new : Memory}
      → PartsTaken s items parts old to new → parts.count ≤ parts.size
  parts_few {items} taken = omega (arith, taken.counted, taken.measured, length-sizes items)

  parts_none : (m : Memory) (to : ℕ) → PartsTaken s [] none_told m to m
  unfolding size variables known words
  parts_none m to =
      record { counted = refl; measured = refl; judged = sym (facts_none s.problem s.bound); entered = entered-none s.text m to }

  parts_more : (items : List Formula) (parts : Parts) (old mid : Memory) (to : ℕ) → PartsTaken s items parts old to mid
      → (r : Reading Formula) (i : ℕ) (one : Read Measured) (new : Memory) (f : Found r s i mid (to + parts.size) one new)
      → PartsTaken s (items ++ (f.formula ∷ [])) (with_told parts one.value) old to new
  parts_more items parts old mid to taken r i one new f =
      record {
        counted = rw (length-append items (f.formula ∷ [])) (omega (arith, taken.counted));
        measured = omega (arith, taken.measured, f.measured, sizes-last items f.formula);
        judged = rw (taken.judged, f.judged) (sym (facts_last s.problem s.bound items f.formula));
        entered = entered_alike s.text (all_variables-last items f.formula) (λ h. all_known-last s.problem items f.formula ∙ h)
            (λ ix. all_words-last ix s.index items f.formula)
            (entered_then s.text taken.entered (all_words_goes s.index (parts_of items))
            (λ ix. all_words-sizes ix s.index (parts_of items) ∙ sym taken.measured) f.entered);
      }

-- some are read by r, and then those from i on, at most so many more
pub record PartsPassed (r : Reading Formula) (s : Setting) (most at : ℕ) (old : Memory) (to i more : ℕ) (parts : Parts) (new : Memory) : Type 0 where
  pub items : List Formula
  pub is : up_to most r (drop at s.text) ≡ prepended items (up_to more r (drop i s.text))
  pub taken : PartsTaken s items parts old to new
  pub few : parts.count ≤ parts.size
  pub after : at + parts.size ≤ i
  pub within : i ≤ length s.text

module _ (r : Reading Formula) (s : Setting) (most at : ℕ) (old : Memory) (to : ℕ) where
  pub parts_first : at ≤ length s.text → (more : ℕ) → more ≡ most → PartsPassed r s most at old to at more none_told old
  parts_first h more e =
      record {
        items = [];
        is = rw e (prepended_none (up_to most r (drop at s.text)));
        taken = parts_none s old to;
        few = omega arith;
        after = omega arith;
        within = h;
      }

  module _ (i more : ℕ) (parts : Parts) (mid : Memory) (p : PartsPassed r s most at old to i more parts mid) where
    pub parts_refused : (number : ℕ) → r (drop i s.text) ≡ refused number → up_to most r (drop at s.text) ≡ refused number
    parts_refused number e = p.is ∙ list-refused r s.text i more p.items number e

    module _ (one : Read Measured) (new : Memory) (f : Found r s i mid (to + parts.size) one new) where
      taken_more : PartsTaken s (p.items ++ (f.formula ∷ [])) (with_told parts one.value) old to new
      taken_more = parts_more s p.items parts old mid to p.taken r i one new f

      abbrev last : Read Parts
      last = record { value = with_told parts one.value; next = one.next }

      parts_end : prepended p.items (up_to more r (drop i s.text)) ≡ done (p.items ++ (f.formula ∷ []), drop one.next s.text)
          → PartsFound (up_to most r) s at old to last new
      parts_end e =
          record {
            items = p.items ++ (f.formula ∷ []);
            is = p.is ∙ e;
            taken = taken_more;
            after = omega (arith, p.after, f.after);
            within = f.within;
          }

      pub parts_last : another_follows more (drop one.next s.text) ≡ false → PartsFound (up_to most r) s at old to last new
      parts_last e = pick (eqb more 0) refl e
        where
          pick : (b : Bool) → eqb more 0 ≡ b → (not b && eqb (next (drop one.next s.text)) 44) ≡ false → PartsFound (up_to most r) s at old to last new
          pick true z e = parts_end (list_full r s.text i more p.items f.formula one.next f.is (eqb-true more 0 z))
          pick false z e = parts_end (list-last r s.text i more p.items f.formula one.next f.is (eqb-false (next (drop one.next s.text)) 44 e))

      pub parts_on : another_follows more (drop one.next s.text) ≡ true → (left : ℕ) → left ≡ more - 1
          → PartsPassed r s most at old to (one.next + 1) left (with_told parts one.value) new
      parts_on e left less =
          let some : more ≡ 0 → ⊥ = eqb-false more 0 (not-true (eqb more 0) (and_left (not (eqb more 0)) _ e)) in
          let comma : next (drop one.next s.text) ≡ 44 = eqb-true (next (drop one.next s.text)) 44 (and_right (not (eqb more 0)) _ e) in
          record {
            items = p.items ++ (f.formula ∷ []);
            is = rw less (p.is ∙ list-more r s.text i more p.items f.formula one.next f.is some comma);
            taken = taken_more;
            few = parts_few s taken_more;
            after = omega (arith, p.after, f.after);
            within = (byte_found s.text one.next 44 (omega arith) comma).within;
          }

pub some_more : (more : ℕ) (u : Bytes) → another_follows more u ≡ true → 0 < more
some_more zero u e = absurd (false≢true e)
some_more (suc more) u e = omega arith
