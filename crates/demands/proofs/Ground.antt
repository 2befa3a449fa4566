-- The final formulas of a derivation: each is well formed and plain, so their text is short and is itself a theory of the problem.
-- Assumes nothing.
use Prim.Native.Nat.{ℕ, suc, ◌*◌, ◌≤◌, ◌<◌}
use native.Mathlib.Omega.{arith}
use mathlib.Core.Path.{◌≡◌, refl, sym, ap, ap₂, ◌∙◌}
use mathlib.Core.List.{List, [], ◌∷◌, ◌++◌}
use mathlib.Core.Bool.{true, false, ◌&&◌, false≢true}
use lib.ListN.{length, length-append}
use borrow.Author.Tests.{leb-true, le-leb}
use Rattle.grammar.specs.Sizes.{text_size, level_count, variable_count, guard_quantifier_count, formula_count, theory_size}
use Rattle.grammar.specs.Bytes.{bytes}
use Rattle.grammar.specs.Outcome.{done}
use Rattle.grammar.specs.Problem.{Problem}
use Rattle.grammar.specs.Derivation.{RuleLine}
use Rattle.grammar.specs.Each.{Each}
use Rattle.grammar.specs.Valid.{Valid}
use Rattle.grammar.proofs.Laws.{and_left, and_right, each_weaken}
use Rattle.grammar.proofs.Problem.{domain-few, is_output-small}
use Rattle.logic.specs.Formula.{Formula, truth, all, Formulas, no_parts, part, size}
use Rattle.logic.specs.Text.{spelled, text_of}
use Rattle.logic.specs.Names.{none}
use Rattle.logic.specs.Normal.{is_gnf, has_form, is_clause}
use Rattle.logic.specs.Limits.{guard_quantifiers, variables, theory_variables, guards_fit, size_total, sizes_fit, limits_fit}
use Rattle.logic.proofs.WellFormed.{WellFormed, of_truth, AllWellFormed, of_none, of_part, WellFormed_parts, WellFormed_tested, tests_WellFormed}
use Rattle.logic.proofs.Kept.{MakesAt-kept}
use Rattle.logic.proofs.Normal.{is_clause_clause}
use Rattle.logic.proofs.GroundSize.{length-ground}
use Rattle.logic.proofs.Clauses.{clause_variables, clause_guards, clause_form, clause_spelled}
use Rattle.demands.specs.TheoryText.{theory_of, theory_text}
use Rattle.demands.specs.ValidTheory.{ValidFormula}
use Rattle.demands.specs.Theory.{formulas_of, numbered, State, live, ended, live_theory, initial}
use Rattle.demands.specs.Steps.{Step, rewriting, removing, splitting, ending, Steps, stop, go}
use Rattle.demands.specs.Ground.{are_clauses, is_ground}
use Rattle.demands.proofs.Theory.{EachPart}
use Rattle.demands.proofs.Steps.{has_ended}
use Rattle.demands.proofs.Soundness.{Live, steps-every}
use Rattle.demands.proofs.TheoryText.{theory_of_exactly}

pub formulas-numbered : (n : ℕ) (fs : List Formula) → formulas_of (numbered n fs) ≡ fs
formulas-numbered n [] = refl
formulas-numbered n (f ∷ fs) = ap (λ (gs : List Formula). f ∷ gs) (formulas-numbered (suc n) fs)

-- Within the sizes.

step-sized : (P : Problem) (s u : State) (l : RuleLine) → Step P s l u → sizes_fit (formulas_of (live_theory u)) ≡ true
unfolding theory_size formula_count size
step-sized P s u l (rewriting r n path before after f h top a m e) = e
step-sized P s u l (removing n before after top a e) = e
step-sized P s u l (splitting n names before ts after f fs top a c w e) = e
step-sized P s u l (ending n before after top a) = refl

pub steps-sized : (P : Problem) (s u : State) (ls : List RuleLine) → Steps P s ls u → sizes_fit (formulas_of (live_theory s)) ≡ true → sizes_fit (formulas_of (live_theory u)) ≡ true
steps-sized P s u ls (stop v) e = e
steps-sized P s u ls (go t v w l ms a b) e = steps-sized P v w ms b (step-sized P t v l a)

-- Well formed.

module _ (P : Problem) where
  abbrev pub Well : Formula → Type 0
  Well f = WellFormed P false none level_count f

  pub parts_well : (fs : Formulas) → AllWellFormed P false none level_count fs → EachPart Well fs
  parts_well no_parts of_none = tt
  parts_well (part f fs) (of_part w ws) = (w, parts_well fs ws)

  pub falsity_well : Well (truth false)
  unfolding level_count
  falsity_well = let some : 0 < 32 = omega arith in of_truth some

  pub valid_well : (T : List Formula) → Each (ValidFormula P) T → Live Well (initial T)
  valid_well T v =
      rw (formulas-numbered 1 T)
      (each_weaken (ValidFormula P) Well (λ f q. tests_WellFormed P f level_count q.named q.normal q.shallow) T v)

  pub steps_well : (s u : State) (ls : List RuleLine) → Steps P s ls u → Live Well s → Live Well u
  steps_well =
      steps-every P Well (λ r path f h m q. MakesAt-kept m q) (λ fs q. parts_well fs (WellFormed_parts {fewer = level_count} (omega arith) q)) falsity_well

  -- Plain.

  pub record Plain (f : Formula) : Type 0 where
    pub well_spelled : spelled f ≡ true
    pub normal : is_gnf P f ≡ true
    pub unbound : variables f ≡ []
    pub unguarded : guard_quantifiers f ≡ 0
    pub short : suc (length (text_of f)) ≤ 16 * size f

  falsity_plain : Plain (truth false)
  unfolding spelled has_form variables guard_quantifiers text_of size
  falsity_plain = record { well_spelled = refl; normal = refl; unbound = refl; unguarded = refl; short = omega arith }

  clause_plain : Valid P → (f : Formula) → is_clause P f ≡ true → Well f → Plain f
  clause_plain valid f e w =
      let c = is_clause_clause P f e in
      record {
        well_spelled = clause_spelled P (λ p o. (is_output-small P valid p o).0) c;
        normal = clause_form P c all;
        unbound = clause_variables P c;
        unguarded = clause_guards P c;
        short = length-ground P (domain-few valid) (λ p o. (is_output-small P valid p o).1) f e (WellFormed_tested w).is_known;
      }

  clauses_plain : Valid P → (fs : List Formula) → are_clauses P fs ≡ true → Each Well fs → Each Plain fs
  clauses_plain valid [] e w = tt
  clauses_plain valid (f ∷ fs) e w = (clause_plain valid f (and_left _ _ e) w.0, clauses_plain valid fs (and_right (is_clause P f) _ e) w.1)

  pub ground_plain : Valid P → (s : State) → is_ground P s ≡ true → Live Well s → Live Plain s
  ground_plain valid (live t top) e w = clauses_plain valid (formulas_of t) e w
  ground_plain valid (ended n top) e w = (falsity_plain, tt)

  -- The limits.

  plain_variables : (fs : List Formula) → Each Plain fs → theory_variables fs ≡ []
  plain_variables [] p = refl
  plain_variables (f ∷ fs) p = ap₂ ◌++◌ p.0.unbound (plain_variables fs p.1)

  plain_guards : (fs : List Formula) → Each Plain fs → guards_fit fs ≡ true
  unfolding guard_quantifier_count
  plain_guards [] p = refl
  plain_guards (f ∷ fs) p = ap₂ ◌&&◌ (le-leb (guard_quantifiers f) 3 (omega (arith, p.0.unguarded))) (plain_guards fs p.1)

  plain_limits : (fs : List Formula) → Each Plain fs → sizes_fit fs ≡ true → limits_fit fs ≡ true
  unfolding variable_count
  plain_limits fs p e = rw (plain_variables fs p, plain_guards fs p, e)

  plain_valid : (fs : List Formula) → Each Plain fs → Each Well fs → Each (ValidFormula P) fs
  plain_valid [] p w = tt
  plain_valid (f ∷ fs) p w =
      let t = WellFormed_tested w.0 in
      (record { well_spelled = p.0.well_spelled; shallow = t.is_shallow; named = ap₂ ◌&&◌ t.is_known t.is_closed; normal = p.0.normal }, plain_valid fs p.1 w.1)

  -- The text.

  plain_short : (fs : List Formula) → Each Plain fs → length (theory_text fs) ≤ 16 * size_total fs
  plain_short [] p = omega arith
  plain_short (f ∷ fs) p = rw (length-append (text_of f)) (omega (arith, p.0.short, plain_short fs p.1))

  pub text-short : (fs : List Formula) → Each Plain fs → sizes_fit fs ≡ true → length (theory_text fs) ≤ text_size
  unfolding text_size theory_size
  text-short fs p e = omega (arith, plain_short fs p, leb-true (size_total fs) 4096 (and_left _ _ e))

  pub read_ground : (fs : List Formula) → Each Plain fs → Each Well fs → sizes_fit fs ≡ true → theory_of P (theory_text fs) ≡ done fs
  read_ground fs p w e = (theory_of_exactly P (theory_text fs) fs).1 (record { formulas = plain_valid fs p w; limited = plain_limits fs p e }, refl)

  -- After UNSAT.

  pub read_false : theory_of P (bytes "false\n") ≡ done (truth false ∷ [])
  unfolding text_of size theory_size formula_count
  read_false = read_ground (truth false ∷ []) (falsity_plain, tt) (falsity_well, tt) refl

  -- `false` alone is no ground clause, so it stands after UNSAT only
  pub ground-ended : (s : State) → is_ground P s ≡ true → formulas_of (live_theory s) ≡ truth false ∷ [] → has_ended s ≡ true
  unfolding is_clause
  ground-ended (live t used) e f = sym (ap (are_clauses P) f) ∙ e
  ground-ended (ended n used) e f = refl

  pub ended_false : (s : State) → has_ended s ≡ true → formulas_of (live_theory s) ≡ truth false ∷ []
  ended_false (live t used) e = absurd (false≢true e)
  ended_false (ended n used) e = refl
