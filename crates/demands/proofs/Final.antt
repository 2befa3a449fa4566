-- What a derivation that grounds a valid theory of a valid problem comes to: its final formulas are well formed and plain, every line kept the
-- meaning, and UNSAT stands at the end of the lines exactly if `false` alone is left.
-- Assumes nothing.
use Prim.Native.Nat.{◌≤◌}
use native.Mathlib.Omega.{arith}
use mathlib.Core.Path.{◌≡◌, refl, sym, ap, ap₂, ◌∙◌}
use mathlib.Core.Logic.{◌↔◌}
use mathlib.Core.List.{List, [], ◌∷◌}
use mathlib.Core.Bool.{Bool, true, false, not, ◌&&◌, false≢true}
use lib.ListN.{length}
use Rattle.grammar.specs.Sizes.{text_size, level_count}
use Rattle.grammar.specs.Bytes.{Bytes, bytes, every}
use Rattle.grammar.specs.Outcome.{done}
use Rattle.grammar.specs.Problem.{Name, Problem, is_input, is_output}
use Rattle.grammar.specs.Valid.{Valid}
use Rattle.grammar.specs.Derivation.{Derivation, ends_in_unsat}
use Rattle.grammar.proofs.Laws.{and_left, and_right}
use Rattle.grammar.proofs.Problem.{is_input-not-is_output}
use Rattle.logic.specs.Formula.{Formula, truth}
use Rattle.logic.specs.Text.{text_of}
use Rattle.logic.specs.Meaning.{Structure, Extends, nowhere, holds, satisfies}
use Rattle.logic.specs.Normal.{mentions_only, is_clause}
use Rattle.logic.specs.Limits.{sizes_fit}
use Rattle.logic.proofs.WellFormed.{WellFormed_parts}
use Rattle.logic.proofs.Kept.{MakesAt-kept}
use Rattle.logic.proofs.Soundness.{MakesAt-same}
use Rattle.logic.proofs.Normal.{clause_no_input}
use Rattle.demands.specs.TheoryText.{theory_of, theory_text}
use Rattle.demands.specs.ValidTheory.{ValidTheory}
use Rattle.demands.specs.Theory.{formulas_of, State, live, ended, live_theory, initial, stepped}
use Rattle.demands.specs.Written.{written_of}
use Rattle.demands.specs.Ground.{are_clauses, is_ground}
use Rattle.demands.specs.Accepted.{Grounds, final_formulas, final_text}
use Rattle.demands.proofs.Steps.{has_ended, steps-ended}
use Rattle.demands.proofs.Soundness.{Live, steps_sound}
use Rattle.demands.proofs.Derivation.{moved, steps_moved, written_of_exactly}
use Rattle.demands.proofs.Ground.{formulas-numbered, steps-sized, Well, parts_well, falsity_well, valid_well, steps_well}
use Rattle.demands.proofs.Ground.{Plain, ground_plain, text-short, read_ground, read_false, ground-ended, ended_false}

-- a text is one derivation, and its lines lead to one state
pub final-once : {P : Problem} {T : List Formula} {derivation : Bytes} (g h : Grounds P T derivation) → (g.written ≡ h.written) × (final_formulas g ≡ final_formulas h)
final-once {P} {T} {derivation} g h =
    let written : g.written ≡ h.written = cc ((written_of_exactly derivation g.written).1 (g.fits, g.text), (written_of_exactly derivation h.written).1 (h.fits, h.text)) in
    let last : g.last ≡ h.last = cc (steps_moved P g.steps, steps_moved P h.steps, ap (λ (D : Derivation). moved (stepped P) (initial T) D.lines) written) in
    (written, ap (λ (s : State). formulas_of (live_theory s)) last)

module _ {P : Problem} {T : List Formula} {derivation : Bytes} (valid : Valid P) (valid_theory : ValidTheory P T) (g : Grounds P T derivation) where
  first_well : Live (Well P) (initial T)
  first_well = valid_well P T valid_theory.formulas

  last_well : Live (Well P) g.last
  last_well = steps_well P (initial T) g.last g.written.lines g.steps first_well

  last_plain : Live (Plain P) g.last
  last_plain = ground_plain P valid g.last g.ground last_well

  last-sized : sizes_fit (final_formulas g) ≡ true
  last-sized = steps-sized P (initial T) g.last g.written.lines g.steps (rw (formulas-numbered 1 T) (and_left _ _ valid_theory.limited))

  pub final-short : length (final_text g) ≤ text_size
  final-short = text-short P (final_formulas g) last_plain last-sized

  pub final_read : theory_of P (final_text g) ≡ done (final_formulas g)
  final_read = read_ground P (final_formulas g) last_plain last_well last-sized

  pub final-same : (S : Structure) → Extends P S → satisfies S T ≡ satisfies S (final_formulas g)
  final-same S extends =
      rw (formulas-numbered 1 T) at
      (steps_sound P (Well P) (λ r path f h m w. MakesAt-kept m w) (λ fs w. parts_well P fs (WellFormed_parts {fewer = level_count} (omega arith) w)) (falsity_well P) S
      (λ r path f h m w. MakesAt-same P S extends m w nowhere) (initial T) g.last g.written.lines g.steps first_well)

  -- UNSAT.

  last-ended : has_ended g.last ≡ ends_in_unsat g.written.lines
  last-ended = steps-ended P (initial T) g.last g.written.lines g.steps refl

  unsat_formulas : ends_in_unsat g.written.lines ≡ true → final_formulas g ≡ truth false ∷ []
  unsat_formulas e = ended_false P g.last (last-ended ∙ e)

  pub final_unsat : (ends_in_unsat g.written.lines ≡ true) ↔ (final_text g ≡ bytes "false\n")
  unfolding text_of
  final_unsat = ((λ e. ap theory_text (unsat_formulas e)), back)
    where
      back : final_text g ≡ bytes "false\n" → ends_in_unsat g.written.lines ≡ true
      back e =
          let f : final_formulas g ≡ truth false ∷ [] = cc (final_read, ap (theory_of P) e, read_false P) in
          sym last-ended ∙ ground-ended P g.last g.ground f

  pub final-nowhere : ends_in_unsat g.written.lines ≡ true → (S : Structure) → Extends P S → satisfies S T ≡ false
  unfolding holds
  final-nowhere e S extends = final-same S extends ∙ ap (satisfies S) (unsat_formulas e)

  -- the derivation is the one that its text is read as; `make` says where the final text stands in a job's outcome
  pub final-refuted : (make : Bytes → Bytes) {t : Bytes} → t ≡ make (final_text g) → (D : Derivation) → written_of derivation ≡ done D → ends_in_unsat D.lines ≡ true
      → (t ≡ make (bytes "false\n")) × ((S : Structure) → Extends P S → satisfies S T ≡ false)
  final-refuted make is D written unsat =
      let same : D ≡ g.written = cc ((written_of_exactly derivation g.written).1 (g.fits, g.text)) in
      let e = rw same at unsat in
      (is ∙ ap make (final_unsat.0 e), final-nowhere e)

  -- mentions no input predicate
  abbrev plain : Formula → Bool
  plain f = mentions_only (λ p. not (is_input P p)) f

  clauses_plain : (fs : List Formula) → are_clauses P fs ≡ true → every plain fs ≡ true
  clauses_plain [] e = refl
  clauses_plain (f ∷ fs) e =
      ap₂ ◌&&◌ (clause_no_input P (λ p o. input_free p o) f (and_left _ _ e)) (clauses_plain fs (and_right (is_clause P f) _ e))
    where
      input_free : (p : Name) → is_output P p ≡ true → is_input P p ≡ false
      input_free p o = pick (is_input P p) refl
        where
          pick : (b : Bool) → is_input P p ≡ b → b ≡ false
          pick true i = absurd (false≢true (sym (is_input-not-is_output P valid p i) ∙ o))
          pick false i = refl

  -- no final formula mentions an input predicate
  pub final_plain : every plain (final_formulas g) ≡ true
  unfolding mentions_only
  final_plain = at g.last g.ground
    where
      at : (s : State) → is_ground P s ≡ true → every plain (formulas_of (live_theory s)) ≡ true
      at (live t used) e = clauses_plain (formulas_of t) e
      at (ended n used) e = refl
