-- Lines of the theory's text: by what the reader tells of a formula a line is judged up to number 8, and the words of the lines read so far are those
-- of one table, the last: an index does not change when later lines bring names.
-- Assumes nothing.
use Prim.Native.Nat.{ℕ, ◌+◌, ◌≤◌}
use native.Mathlib.Omega.{arith}
use mathlib.Core.Path.{◌≡◌, refl, sym, ap, ◌∙◌}
use mathlib.Core.List.{List, [], ◌∷◌, ◌++◌}
use mathlib.Core.Bool.{Bool, true, false, ◌||◌, false≢true}
use lib.Dec.{leb}
use lib.ListN.{length, drop}
use borrow.Author.Tests.{leb-true, lt-leb}
use Rattle.grammar.specs.Sizes.{level_count, variable_count}
use Rattle.grammar.specs.Bytes.{Bytes, bytes, next, member}
use Rattle.grammar.specs.Outcome.{Outcome, done, refused}
use Rattle.grammar.specs.Outcome as outcome
use Rattle.grammar.specs.Reading.{Reading, require, ◌>>=◌, ◌>>◌, word}
use Rattle.grammar.specs.Problem.{Name, Problem}
use Rattle.grammar.specs.Each.{Each}
use Rattle.grammar.proofs.Laws.{and_left, each_weaken}
use Rattle.logic.specs.Formula.{Formula, parts_of, size, sizes}
use Rattle.logic.specs.Reading.{read_formula}
use Rattle.logic.specs.Names.{known, none, closed, names_fit}
use Rattle.logic.specs.Normal.{is_gnf}
use Rattle.logic.specs.Limits.{guard_quantifiers, variables, all_variables, theory_variables, size_total, names_short}
use Rattle.text.proofs.FoundBytes.{byte_found}
use Rattle.table.specs.memory.Table.{problem_in}
use Rattle.table.specs.declared.table.Table.{Table}
use Rattle.words.specs.memory.Words.{words, all_words}
use Rattle.words.proofs.memory.Words.{all_words-sizes}
use Rattle.terms.specs.memory.Facts.{facts_of}
use Rattle.terms.specs.memory.NameTable.{settled, extended_by, list_fits}
use Rattle.terms.specs.memory.Signature.{signature_of}
use Rattle.terms.specs.memory.Entries.{setting, predicate_index, Memory, Entered}
use Rattle.terms.specs.declared.fact.Facts.{Facts}
use Rattle.text.specs.declared.read.Read.{Read}
use Rattle.reading.specs.declared.read.Measured.{Measured}
use Rattle.terms.proofs.memory.Signature.{known_table, normal_table}
use Rattle.terms.proofs.memory.Lists.{byte_read, byte_refused}
use Rattle.terms.proofs.memory.NameTable.{extended_by_settles}
use Rattle.terms.proofs.memory.Entries.{entered-none, entered_alike, entered_then}
use Rattle.reading.specs.memory.FormulaReads.{Found}
use Rattle.reading.specs.memory.TheoryLines.{read_theory_line, TheoryLineFound}
use Rattle.reading.proofs.memory.PartReads.{all_words_goes, all_variables-last, all_words-last}

-- A line.

module _ (problem : Bytes) (table : Table) (rows : List ℕ) (text : Bytes) (at : ℕ) where
  abbrev P : Problem
  P = problem_in problem table rows

  pub line_refused : (number : ℕ) → read_formula 32 (drop at text) ≡ refused number → read_theory_line P (drop at text) ≡ refused number
  unfolding read_theory_line level_count
  line_refused number e = rw e

  module _ (old : Memory) (to : ℕ) (q : Read Measured) (new : Memory)
      (f : Found (read_formula 32) (setting text none (signature_of problem table) (predicate_index problem table)) at old to q new) where
    named-is : q.value.facts.named ≡ names_fit P f.formula
    unfolding facts_of
    named-is = ap (λ (told : Facts). told.named) f.judged ∙ rw (known_table problem table rows f.formula)

    normal-is : q.value.facts.normal ≡ is_gnf P f.formula
    unfolding facts_of
    normal-is = ap (λ (told : Facts). told.normal) f.judged ∙ normal_table problem table rows f.formula

    guarded-is : q.value.facts.guarded ≡ guard_quantifiers f.formula
    unfolding facts_of
    guarded-is = ap (λ (told : Facts). told.guarded) f.judged

    pub line_open : (next (drop q.next text) ≡ 10 → ⊥) → read_theory_line P (drop at text) ≡ refused 5
    unfolding read_theory_line level_count
    line_open h = rw (f.is, byte_refused text q.next 10 (omega arith) 5 h)

    module _ (h : next (drop q.next text) ≡ 10) where
      pub line_unnamed : q.value.facts.named ≡ false → read_theory_line P (drop at text) ≡ refused 7
      unfolding read_theory_line level_count
      line_unnamed e = rw (f.is, byte_read text q.next 10 (omega arith) 5 h, sym named-is ∙ e)

      module _ (named : q.value.facts.named ≡ true) where
        pub line_unnormal : q.value.facts.normal ≡ false → read_theory_line P (drop at text) ≡ refused 8
        unfolding read_theory_line level_count
        line_unnormal e = rw (f.is, byte_read text q.next 10 (omega arith) 5 h, sym named-is ∙ named, sym normal-is ∙ e)

        pub line-found : q.value.facts.normal ≡ true → TheoryLineFound P text (predicate_index problem table) at old to (record { value = record { size = q.value.size; guarded = q.value.facts.guarded }; next = q.next + 1 }) new
        unfolding read_theory_line level_count
        line-found e =
            record {
              formula = f.formula;
              is = rw (f.is, byte_read text q.next 10 (omega arith) 5 h, sym named-is ∙ named, sym normal-is ∙ e);
              measured = f.measured;
              counted = guarded-is;
              after = omega (arith, f.after);
              within = (byte_found text q.next 10 (omega arith) h).within;
              entered = entered_alike text refl
                  (λ k. known_table problem table rows f.formula ∙ and_left (known P f.formula) (closed none f.formula) (sym named-is ∙ named)) (λ ix. refl) f.entered;
            }

-- what is done with the formula of a line
pub line_then : {A : Type 0} (P : Problem) (k : Formula → Reading A) (s : Bytes)
    → (read_formula level_count >>= λ f. word 5 (bytes "\n") >> (require 7 (names_fit P f) >> (require 8 (is_gnf P f) >> k f))) s
    ≡ (outcome.◌>>=◌ (read_theory_line P s) λ p. k p.0 p.1)
unfolding read_theory_line
line_then {A} P k s = read (read_formula level_count s)
  where
    judged : (f : Formula) (u : Bytes) (a b : Bool)
        → (outcome.◌>>=◌ {B = A × Bytes} (require 7 a u) λ y. outcome.◌>>=◌ (require 8 b y.1) λ z. k f z.1)
        ≡ (outcome.◌>>=◌ {A = Formula × Bytes} (outcome.◌>>=◌ (require 7 a u) λ y. outcome.◌>>=◌ (require 8 b y.1) λ z. done (f, z.1)) λ p. k p.0 p.1)
    judged f u true true = refl
    judged f u true false = refl
    judged f u false b = refl

    ended : (f : Formula) (o : Outcome ℕ (Unit {0} × Bytes))
        → (outcome.◌>>=◌ {B = A × Bytes} o λ x. outcome.◌>>=◌ (require 7 (names_fit P f) x.1) λ y. outcome.◌>>=◌ (require 8 (is_gnf P f) y.1) λ z. k f z.1)
        ≡ (outcome.◌>>=◌ {A = Formula × Bytes} (outcome.◌>>=◌ o λ x. outcome.◌>>=◌ (require 7 (names_fit P f) x.1) λ y. outcome.◌>>=◌ (require 8 (is_gnf P f) y.1) λ z. done (f, z.1))
        λ p. k p.0 p.1)
    ended f (done x) = judged f x.1 (names_fit P f) (is_gnf P f)
    ended f (refused number) = refl

    read : (o : Outcome ℕ (Formula × Bytes))
        → (outcome.◌>>=◌ {B = A × Bytes} o λ q. outcome.◌>>=◌ (word 5 (bytes "\n") q.1) λ x. outcome.◌>>=◌ (require 7 (names_fit P q.0) x.1) λ y. outcome.◌>>=◌ (require 8 (is_gnf P q.0) y.1) λ z. k q.0 z.1)
        ≡ (outcome.◌>>=◌ {A = Formula × Bytes} (outcome.◌>>=◌ o λ q. outcome.◌>>=◌ (word 5 (bytes "\n") q.1) λ x. outcome.◌>>=◌ (require 7 (names_fit P q.0) x.1) λ y. outcome.◌>>=◌ (require 8 (is_gnf P q.0) y.1) λ z. done (q.0, z.1))
        λ p. k p.0 p.1)
    read (done q) = ended q.0 (word 5 (bytes "\n") q.1)
    read (refused number) = refl

-- The words of a theory's lines.

theory_variables_parts : (fs : List Formula) → theory_variables fs ≡ all_variables (parts_of fs)
unfolding variables
theory_variables_parts [] = refl
theory_variables_parts (f ∷ fs) = ap (λ xs. variables f ++ xs) (theory_variables_parts fs)

pub sizes-total : (fs : List Formula) → sizes (parts_of fs) ≡ size_total fs
unfolding size
sizes-total [] = refl
sizes-total (f ∷ fs) = rw (sizes-total fs)

-- the formulas read so far are in memory, with their variables in the table
module _ (text : Bytes) (px : Name → ℕ) (old : Memory) (to : ℕ) where
  abbrev pub TheoryEntered : List Formula → Memory → Type 0
  TheoryEntered fs new = Entered text (theory_variables fs) true (λ ix. all_words ix px (parts_of fs)) old to new

  pub theory_none : TheoryEntered [] old
  unfolding words
  theory_none = entered-none text old to

  pub theory_more : (fs : List Formula) (mid : Memory) → TheoryEntered fs mid
      → (f : Formula) (new : Memory) → Entered text (variables f) true (λ ix. words ix px f) mid (to + size_total fs) new → TheoryEntered (fs ++ (f ∷ [])) new
  theory_more fs mid before f new e =
      entered_alike text (all_variables-last fs f ∙ sym (theory_variables_parts (fs ++ (f ∷ [])))) (λ h. h) (λ ix. all_words-last ix px fs f)
      (entered_then text (entered_alike text (theory_variables_parts fs) (λ h. h) (λ ix. refl) before) (all_words_goes px (parts_of fs))
      (λ ix. all_words-sizes ix px (parts_of fs) ∙ sizes-total fs) e)

-- in a table that fits every variable has its place
pub fits-length : (names : List Name) → list_fits names ≡ true → length names ≤ 64
unfolding variable_count
fits-length names fits = leb-true (length names) 64 (and_left (leb (length names) 64) (names_short names) fits)

pub fits_members : (xs names : List Name) → list_fits (extended_by names xs) ≡ true → Each (λ x. member x (extended_by names xs) ≡ true) xs
fits_members xs names fits =
    each_weaken (λ x. settled (extended_by names xs) x ≡ true) _ (λ x h. pick (member x (extended_by names xs)) h) xs (extended_by_settles xs names)
  where
    pick : (b : Bool) → (b || leb 65 (length (extended_by names xs))) ≡ true → b ≡ true
    pick true h = refl
    pick false h = absurd (false≢true (sym (lt-leb 65 (length (extended_by names xs)) (omega (arith, fits-length (extended_by names xs) fits))) ∙ h))
