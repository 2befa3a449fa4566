-- Just the valid theories are read, each from its own text: a line adds a valid formula and its text, and the limits of a theory are those of its
-- first formulas too, so each line of a valid theory's text passes.
-- Assumes nothing.
use Prim.Native.Nat.{◌<◌}
use native.Mathlib.Omega.{arith}
use mathlib.Core.Path.{◌≡◌, refl, ap}
use mathlib.Core.Logic.{◌↔◌}
use mathlib.Core.List.{List, [], ◌∷◌, ◌++◌, append_assoc, append-nil}
use mathlib.Core.Bool.{true}
use lib.ListN.{length, length-append}
use Rattle.grammar.specs.Sizes.{level_count, variable_count, theory_size, formula_count}
use Rattle.grammar.specs.Bytes.{Bytes, bytes}
use Rattle.grammar.specs.Outcome.{done}
use Rattle.grammar.specs.Problem.{Problem}
use Rattle.grammar.specs.Each.{Each}
use Rattle.grammar.proofs.Laws.{each_append}
use Rattle.grammar.proofs.Outcome.{Allowed, allowed_weaken, allowed_done}
use Rattle.grammar.proofs.Reading.{Reads, reads_then, reads-give, reads_weaken, reads_word, reads-require, read_word}
use Rattle.grammar.proofs.Lines.{read_text-reads, Run, rest, run_more, read_text_exactly}
use Rattle.logic.specs.Formula.{Formula}
use Rattle.logic.specs.Text.{text_of}
use Rattle.logic.specs.Names.{names_fit}
use Rattle.logic.specs.Normal.{is_gnf}
use Rattle.logic.specs.Limits.{limits_fit}
use Rattle.logic.proofs.Limits.{limits_front}
use Rattle.logic.proofs.Reading.{reads-formula, read_formula_lem}
use Rattle.demands.specs.TheoryText.{theory_line, theory_of, theory_text}
use Rattle.demands.specs.ValidTheory.{ValidFormula, ValidTheory}

theory_text-append : (fs gs : List Formula) → theory_text (fs ++ gs) ≡ theory_text fs ++ theory_text gs
theory_text-append [] gs = refl
theory_text-append (f ∷ fs) gs = rw (theory_text-append fs gs) (simp append_assoc)

-- one valid formula more, and all within the limits
record Grown (P : Problem) (fs gs : List Formula) : Type 0 where
  formula : Formula
  is : gs ≡ fs ++ (formula ∷ [])
  valid : ValidFormula P formula
  limited : limits_fit gs ≡ true

module _ (P : Problem) where
  -- a line adds its formula, and its text
  reads-theory_line : (fs : List Formula) → Reads (theory_text fs) (Grown P fs) theory_text (theory_line P fs)
  unfolding theory_line
  reads-theory_line fs =
      reads_then (reads-formula level_count) _ λ f fits.
      reads_then (reads_word 5 (bytes "\n")) _ λ _ _.
      reads_then (reads-require 7 (names_fit P f)) _ λ _ named.
      reads_then (reads-require 8 (is_gnf P f)) _ λ _ normal.
      reads_then (reads-require 9 (limits_fit (fs ++ (f ∷ [])))) _ λ _ limited.
      reads-give (record { formula = f; is = refl; valid = record { well_spelled = fits.0; shallow = fits.1; named = named; normal = normal }; limited = limited })
      (rw (theory_text-append fs (f ∷ [])) (simp (append_assoc, append-nil)))

  grown_longer : (fs gs : List Formula) → Grown P fs gs → length (theory_text fs) < length (theory_text gs)
  grown_longer fs gs g =
      rw (g.is, theory_text-append fs (g.formula ∷ []), length-append (theory_text fs), length-append (text_of g.formula)) (omega arith)

  grown_valid : (fs gs : List Formula) → ValidTheory P fs → Grown P fs gs → ValidTheory P gs
  grown_valid fs gs v g =
      record { formulas = rw g.is (each_append (ValidFormula P) fs (g.formula ∷ []) v.formulas (g.valid, tt)); limited = g.limited }

  theory_of-reads : (s : Bytes) → Allowed (λ T. ValidTheory P T × (s ≡ theory_text T)) (theory_of P s)
  unfolding theory_of theory_size formula_count variable_count
  theory_of-reads s =
      read_text-reads 2 (theory_line P) done (ValidTheory P) theory_text (λ t T. ValidTheory P T × (t ≡ theory_text T))
      (λ fs v. reads_weaken (reads-theory_line fs) (λ gs g. ((grown_valid fs gs v g, grown_longer fs gs g), refl)))
      (λ fs v. (v, refl)) [] s
      (record { formulas = tt; limited = refl })

  shrinks : (fs : List Formula) (s : Bytes) → Allowed (λ p. length p.1 < length s) (theory_line P fs s)
  shrinks fs s =
      allowed_weaken _ (λ p. length p.1 < length s)
      (λ p q. omega (arith, grown_longer fs p.0 q.0, simp length-append at (ap length q.1))) (theory_line P fs s) ((reads-theory_line fs).sound s)

  read_theory_line_lem : (fs : List Formula) (f : Formula) (u : Bytes) → ValidFormula P f → limits_fit (fs ++ (f ∷ [])) ≡ true
      → theory_line P fs (text_of f ++ (bytes "\n" ++ u)) ≡ done (fs ++ (f ∷ []), u)
  unfolding theory_line
  read_theory_line_lem fs f u v l =
      rw (read_formula_lem level_count f (v.well_spelled, v.shallow) (bytes "\n" ++ u) refl, read_word 5 (bytes "\n") u, v.named, v.normal, l)

  -- the formulas that are left, after those that are read
  run-text : (fs gs : List Formula) → Each (ValidFormula P) gs → limits_fit (fs ++ gs) ≡ true → Run (theory_line P) fs (theory_text gs) (fs ++ gs)
  run-text fs [] v l = rw (append-nil fs) (rest fs)
  run-text fs (g ∷ gs) v l =
      let longer = fs ++ (g ∷ []) in
      let whole : limits_fit (longer ++ gs) ≡ true = rw (append_assoc fs (g ∷ []) gs) l in
      run_more 2 (theory_line P) done shrinks fs longer (fs ++ (g ∷ gs)) (theory_text (g ∷ gs)) (theory_text gs)
      (read_theory_line_lem fs g (theory_text gs) v.0 (limits_front longer gs whole))
      (rw (append_assoc fs (g ∷ []) gs) at (run-text longer gs v.1 whole))

  read_theory_lem : (T : List Formula) → ValidTheory P T → theory_of P (theory_text T) ≡ done T
  unfolding theory_of
  read_theory_lem T v =
      (read_text_exactly 2 (theory_line P) done shrinks [] (theory_text T) T).1 (record { last = T; run = run-text [] T v.formulas v.limited; answer = refl })

  pub theory_of_exactly : (text : Bytes) (T : List Formula) → (theory_of P text ≡ done T) ↔ (ValidTheory P T × (text ≡ theory_text T))
  theory_of_exactly text T = (allowed_done _ (theory_of P text) T (theory_of-reads text), λ (valid, e). rw e (read_theory_lem T valid))
