-- A theory's text, line after line: what the whole text comes to is what its rest comes to from the formulas read so far, which are in memory. A line is
-- judged up to 8 by its reader, and for 9 by the totals, whose test is the limits of the formulas so far with one more.
-- Assumes nothing.
use Prim.Native.Nat.{ℕ, ◌+◌, ◌≤◌, ◌<◌}
use native.Mathlib.Nat.{zero-add}
use native.Mathlib.Omega.{arith}
use mathlib.Core.Path.{◌≡◌, refl, sym, ap, ap₂, ◌∙◌}
use mathlib.Core.List.{List, [], ◌∷◌, ◌++◌}
use mathlib.Core.Bool.{Bool, true, false, ◌&&◌, and-true}
use lib.Dec.{leb}
use lib.ListN.{length, take, drop, length-append}
use lib.Seq.{sets-eq, take_at}
use borrow.Author.Tests.{leb-true}
use Rattle.grammar.specs.Sizes.{variable_count, guard_quantifier_count, formula_count, theory_size}
use Rattle.grammar.specs.Bytes.{Bytes}
use Rattle.grammar.specs.Outcome.{done, refused}
use Rattle.grammar.specs.Outcome as outcome
use Rattle.grammar.specs.Reading.{give, require}
use Rattle.grammar.specs.Reading as reading
use Rattle.grammar.specs.Lines.{refusal}
use Rattle.grammar.specs.Problem.{Name, Problem}
use Rattle.grammar.proofs.Laws.{and_left, and_right}
use Rattle.logic.specs.Formula.{Formula, parts_of, size}
use Rattle.logic.specs.Limits.{different_count, names_short, guard_quantifiers, theory_variables, guards_fit, size_total, sizes_fit, limits_fit}
use Rattle.logic.proofs.Limits.{size_total-append}
use Rattle.demands.specs.TheoryText.{theory_line, theory_of}
use Rattle.text.specs.memory.Going.{Going}
use Rattle.text.proofs.Going.{going_first, going_on, going_refused, going_end}
use Rattle.words.specs.memory.Words.{all_words}
use Rattle.words.proofs.memory.Words.{all_words-sizes}
use Rattle.terms.specs.declared.name_table.NameTable.{NameTable}
use Rattle.terms.specs.memory.NameTable.{extended_by, index_in, names_in, list_fits}
use Rattle.terms.specs.memory.Entries.{Memory}
use Rattle.terms.proofs.memory.Variables.{fits-variables}
use Rattle.text.specs.declared.read.Read.{Read}
use Rattle.reading.specs.declared.theory_line.TheoryLine.{TheoryLine}
use Rattle.reading.specs.memory.TheoryLines.{read_theory_line, TheoryLineFound}
use Rattle.reading.proofs.memory.TheoryLines.{line_then, TheoryEntered, theory_none, theory_more, sizes-total}
use Rattle.theory.specs.memory.TheoryReads.{totals_fit, TheoryFound}

-- The totals.

module _ (full count guarded : ℕ) (names : List Name) where
  pub totals_small : totals_fit full count guarded names ≡ true → (full ≤ 4096) × (count ≤ 1024)
  unfolding theory_size formula_count
  totals_small e =
      (leb-true full 4096 (and_left _ _ e), leb-true count 1024 (and_left _ _ (and_right (leb full 4096) _ e)))

-- With one formula more.

guards_more : (fs : List Formula) (f : Formula) → guards_fit fs ≡ true → guards_fit (fs ++ (f ∷ [])) ≡ leb (guard_quantifiers f) guard_quantifier_count
guards_more [] f e = and-true (leb (guard_quantifiers f) guard_quantifier_count)
guards_more (g ∷ fs) f e =
    rw (and_left (leb (guard_quantifiers g) guard_quantifier_count) _ e) (guards_more fs f (and_right (leb (guard_quantifiers g) guard_quantifier_count) _ e))

regrouped : (a b c d e : Bool) → ((a && b) && (c && (d && e))) ≡ (a && (b && (e && (c && d))))
regrouped false b c d e = refl
regrouped true false c d e = refl
regrouped true true false d false = refl
regrouped true true false d true = refl
regrouped true true true false false = refl
regrouped true true true false true = refl
regrouped true true true true false = refl
regrouped true true true true true = refl

module _ (fs : List Formula) (f : Formula) where
  abbrev longer : List Formula
  longer = fs ++ (f ∷ [])

  size-more : size_total longer ≡ size_total fs + size f
  size-more = size_total-append fs (f ∷ []) ∙ omega arith

  length_more : length longer ≡ length fs + 1
  length_more = length-append fs (f ∷ [])

  limits_more : limits_fit fs ≡ true → limits_fit longer ≡ totals_fit (size_total fs + size f) (length fs + 1) (guard_quantifiers f) (extended_by [] (theory_variables longer))
  limits_more e =
      let before = and_right (names_short (theory_variables fs)) _ (and_right (leb (different_count (theory_variables fs)) variable_count) _ (and_right (sizes_fit fs) _ e)) in
      rw (guards_more fs f before, fits-variables (theory_variables longer), size-more, length_more)
      (regrouped (leb (size_total fs + size f) theory_size) (leb (length fs + 1) formula_count) (leb (different_count (theory_variables longer)) variable_count)
      (names_short (theory_variables longer)) (leb (guard_quantifiers f) guard_quantifier_count))

-- the variables of a theory within its limits
limits_names : (fs : List Formula) → limits_fit fs ≡ true → (leb (different_count (theory_variables fs)) variable_count && names_short (theory_variables fs)) ≡ true
limits_names fs e =
    let rest = and_right (sizes_fit fs) _ e in
    ap₂ ◌&&◌ (and_left (leb (different_count (theory_variables fs)) variable_count) _ rest)
    (and_left (names_short (theory_variables fs)) _ (and_right (leb (different_count (theory_variables fs)) variable_count) _ rest))

-- The lines.

-- a line does what its reader tells, and then 9
theory_line_lem : (P : Problem) (fs : List Formula) (s : Bytes)
    → theory_line P fs s
    ≡ (outcome.◌>>=◌ (read_theory_line P s) λ p. reading.◌>>◌ (require 9 (limits_fit (fs ++ (p.0 ∷ [])))) (give (fs ++ (p.0 ∷ []))) p.1)
unfolding theory_line
theory_line_lem P fs s = line_then P (λ f. reading.◌>>◌ (require 9 (limits_fit (fs ++ (f ∷ [])))) (give (fs ++ (f ∷ [])))) s

-- the formulas read so far, and what is left from a place on
pub record TheoryGoing (P : Problem) (text : Bytes) (index : Name → ℕ) (old : Memory) (at count full : ℕ) (new : Memory) : Type 0 where
  pub formulas : List Formula
  pub going : Going 2 (theory_line P) done (theory_of P text) text at (count + 1) formulas
  pub counted : count ≡ length formulas
  pub measured : full ≡ size_total formulas
  pub fits : limits_fit formulas ≡ true
  pub entered : TheoryEntered text index old 0 formulas new

-- a table without names
pub names-none : (text : Bytes) (names : NameTable) → names.count ≡ 0 → names_in text names ≡ []
unfolding names_in
names-none text names e = rw e

module _ (P : Problem) (text : Bytes) (index : Name → ℕ) (old : Memory) where
  pub theory_first : TheoryGoing P text index old 0 0 0 old
  unfolding theory_of theory_size formula_count variable_count
  theory_first =
      record {
        formulas = [];
        going = going_first 2 (theory_line P) done text [];
        counted = refl;
        measured = refl;
        fits = refl;
        entered = theory_none text index old 0;
      }

-- from those formulas on
module _ {P : Problem} {text : Bytes} {index : Name → ℕ} {old : Memory} (empty : names_in text old.names ≡ []) {at count full : ℕ} {mid : Memory}
    (g : TheoryGoing P text index old at count full mid) where
  module _ (more : at < length text) where
    pub theory_refused : (number : ℕ) → read_theory_line P (drop at text) ≡ refused number → theory_of P text ≡ refused (refusal number 2 (count + 1))
    theory_refused number e =
        going_refused 2 (theory_line P) done text (theory_of P text) at (count + 1) g.formulas g.going more number
        (theory_line_lem P g.formulas (drop at text) ∙ rw e)

    module _ {r : Read TheoryLine} {new : Memory} (f : TheoryLineFound P text index at mid full r new) where
      abbrev later : List Formula
      later = g.formulas ++ (f.formula ∷ [])

      entered-more : TheoryEntered text index old 0 later new
      entered-more =
          theory_more text index old 0 g.formulas mid g.entered f.formula new
          (rw (g.measured, ← zero-add (size_total g.formulas)) at f.entered)

      totals : limits_fit later ≡ totals_fit (full + r.value.size) (count + 1) r.value.guarded (names_in text new.names)
      totals =
          limits_more g.formulas f.formula g.fits
          ∙ rw (g.measured, g.counted, f.measured, f.counted, entered-more.names, empty)

      read : (b : Bool) → limits_fit later ≡ b
          → theory_line P g.formulas (drop at text) ≡ reading.◌>>◌ (require 9 b) (give later) (drop r.next text)
      read b e = theory_line_lem P g.formulas (drop at text) ∙ rw (f.is, e)

      pub theory_over : totals_fit (full + r.value.size) (count + 1) r.value.guarded (names_in text new.names) ≡ false → theory_of P text ≡ refused (refusal 9 2 (count + 1))
      theory_over e =
          going_refused 2 (theory_line P) done text (theory_of P text) at (count + 1) g.formulas g.going more 9 (read false (totals ∙ e))

      pub theory_on : totals_fit (full + r.value.size) (count + 1) r.value.guarded (names_in text new.names) ≡ true → TheoryGoing P text index old r.next (count + 1) (full + r.value.size) new
      theory_on e =
          record {
            formulas = later;
            going = going_on 2 (theory_line P) done text (theory_of P text) at (count + 1) g.formulas g.going more r.next later (read true (totals ∙ e))
                (omega (arith, f.after)) f.within;
            counted = rw g.counted (sym (length_more g.formulas f.formula));
            measured = rw (g.measured, f.measured) (sym (size-more g.formulas f.formula));
            fits = totals ∙ e;
            entered = entered-more;
          }

  -- the words stand at the front
  stored_front : full ≤ length old.work → take full mid.work ≡ all_words (index_in (names_in text mid.names)) index (parts_of g.formulas)
  stored_front room =
      let all = all_words (index_in (names_in text mid.names)) index (parts_of g.formulas) in
      let long : length all ≡ full = all_words-sizes (index_in (names_in text mid.names)) index (parts_of g.formulas) ∙ sizes-total g.formulas ∙ sym g.measured in
      ap (take full) (g.entered.work refl ∙ sets-eq all old.work 0 (omega arith))
      ∙ take_at all (drop (0 + length all) old.work) full long

  pub theory_end : length text ≤ at → full ≤ length old.work → TheoryFound P text index count full mid.names mid.work
  theory_end h room =
      let listed : names_in text mid.names ≡ extended_by [] (theory_variables g.formulas) = g.entered.names ∙ rw empty in
      record {
        formulas = g.formulas;
        is = going_end 2 (theory_line P) done text (theory_of P text) at (count + 1) g.formulas g.going h;
        counted = g.counted;
        measured = g.measured;
        fits = g.fits;
        listed = listed;
        short = ap list_fits listed ∙ fits-variables (theory_variables g.formulas) ∙ limits_names g.formulas g.fits;
        stored = stored_front room;
      }
