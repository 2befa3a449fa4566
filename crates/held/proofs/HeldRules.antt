-- A rule at a place of memory, where a formula's words stand: it is refused with the rule's own number, or the words of what the rule makes stand in
-- the formula's place. By what is decided of the formula.
-- Assumes nothing.
use Prim.Native.Nat.{ℕ, suc, ◌+◌, ◌≤◌}
use native.Mathlib.Omega.{arith}
use mathlib.Core.Path.{◌≡◌, refl, sym, ap, subst, ◌∙◌}
use mathlib.Core.List.{List, ◌++◌}
use mathlib.Core.Bool.{Bool, true, false, cond}
use lib.Dec.{leb}
use Rattle.std.specs.Prelude.{Option, Some, None}
use lib.ListN.{length, drop, length-append}
use lib.Seq.{take-length, drop-append_seam}
use Rattle.grammar.specs.Bytes.{Bytes}
use Rattle.grammar.specs.Outcome.{Outcome, done, refused, provided, ◌>>=◌, ◌>>◌}
use Rattle.grammar.specs.Problem.{Name, Problem}
use Rattle.grammar.specs.Valid.{Valid}
use Rattle.logic.specs.Formula.{Side, Formula, truth, quantifier, size, depth}
use Rattle.logic.specs.Names.{known, closed_but}
use Rattle.logic.specs.Normal.{inputs_only}
use Rattle.logic.specs.Rules.{simplified, instantiated, apply}
use Rattle.logic.proofs.WellFormed.{of_quantifier, WellFormed_tested}
use Rattle.table.specs.memory.Table.{position, table_names, problem_in}
use Rattle.table.specs.declared.table.Table.{Table}
use Rattle.derivation.specs.memory.RuleLines.{rule_of}
use Rattle.derivation.specs.declared.rule_line.Rule.{Rule}
use Rattle.words.proofs.memory.Naming.{Naming, words_in, Storable}
use Rattle.words.proofs.memory.Words.{length-words, skip_first}
use Rattle.words.proofs.memory.Inner.{Well, well}
use Rattle.guards.specs.memory.Admitted.{guard_closed, admitted_flags}
use Rattle.guards.proofs.memory.Admitted.{guard_closed-words, admitted_flags-words}
use Rattle.formula.specs.memory.Rewriting.{end_within, rewritten_words}
use Rattle.formula.specs.memory.Deciding.{rule_fit}
use Rattle.formula.specs.declared.decide.Fit.{Fit}
use Rattle.formula.specs.declared.decide.Fit.TheVariants as fit
use Rattle.formula.proofs.memory.Decided.{QuantifierFits, Told, rule_told}
use Rattle.formula.proofs.memory.Rewriting.{Admitted, spliced_middle, rule-words}
use Rattle.steps.specs.memory.Held.{Held, held, misfit, unless_refused, exchanged, sized_in, made_in}

-- another formula's words between those before and after: 15
abbrev pub put_in : Naming → List ℕ → List ℕ → List ℕ → ℕ → Formula → Outcome ℕ Held
put_in N before after names top h =
    let made = before ++ (words_in N h ++ after) in
    provided (leb (length made) 4096) 15 >> done (held made names top false)

-- what a rule makes, and the number that memory refuses it with
data Ruled (made : Outcome ℕ Formula) (number : ℕ) : Type 0 where
  makes : (h : Formula) → made ≡ done h → number ≡ 0 → Ruled made number
  fails : (m : ℕ) → made ≡ refused (suc m) → number ≡ suc m → Ruled made number

well_known : {P : Problem} {f : Formula} → Well P f → known P f ≡ true
well_known (well w) = (WellFormed_tested w).is_known

guard_tested : {P : Problem} {c : Side} {x : Name} {g f : Formula} → Well P (quantifier c x g f) → (known P g ≡ true) × (inputs_only P g ≡ true)
guard_tested (well (of_quantifier l v u)) = let t = WellFormed_tested v in (t.is_known, t.is_inputs refl)

module _ (N : Naming) (text : Bytes) (table : Table) (rows : List ℕ) (inside : table.inputs ≤ table.count)
    (valid : Valid (problem_in text table rows)) (index : (p : Name) → N.predicate_index p ≡ position p (table_names text table)) where
  abbrev P : Problem
  P = problem_in text table rows

  module _ (f : Formula) (storable : Storable N f) (is_well : Well P f) (low : depth f ≤ 32) (rest : List ℕ) where
    guard_closed_lem : {made : Outcome ℕ Formula} (t : QuantifierFits P f made) → guard_closed 32 (words_in N f ++ rest) ≡ closed_but t.name t.guard
    unfolding depth
    guard_closed_lem t =
        let can : Storable N (quantifier t.side t.name t.guard t.body) = subst (Storable N) t.is storable in
        let less : depth (quantifier t.side t.name t.guard t.body) ≤ 32 = rw t.is at low in
        rw t.is (guard_closed-words N t.side t.name t.guard t.body rest can.0 32 (omega arith) can.1)

    ruled : (made : Outcome ℕ Formula) (decided : Option Fit) → Told P f made decided → Ruled made (misfit decided (words_in N f ++ rest))
    ruled made (Some (fit.Value b)) t = makes (truth b) t refl
    ruled made (Some (fit.Junction every)) t = makes (simplified t.side t.parts) t.makes refl
    ruled made (Some fit.Quantifier) t = rw (guard_closed_lem t) (pick (closed_but t.name t.guard) t.makes)
      where
        pick : (b : Bool) → made ≡ cond b (done (instantiated P t.side t.name t.guard t.body)) (refused 14) → Ruled made (cond b 0 14)
        pick true e = makes (instantiated P t.side t.name t.guard t.body) e refl
        pick false e = fails 13 e refl
    ruled made None t = fails 12 t refl

    flags_admitted : Admitted N text table rows inside valid index (admitted_flags table rows 32 (words_in N f ++ rest)) f
    unfolding depth
    flags_admitted c x g h e =
        let can : Storable N (quantifier c x g h) = subst (Storable N) e storable in
        let less : depth (quantifier c x g h) ≤ 32 = rw e at low in
        let t = guard_tested (subst (Well P) e is_well) in
        rw e (admitted_flags-words N c x g h rest can.0 32 (omega arith) can.1 text table rows inside valid index t.0 t.1)

  -- a formula's words, and what stands before and after them
  module _ (f : Formula) (storable : Storable N f) (is_well : Well P f) (low : depth f ≤ 32)
      (work before after : List ℕ) (is : work ≡ before ++ (words_in N f ++ after)) (rule : Rule) where
    stands : drop (length before) work ≡ words_in N f ++ after
    stands = rw is (drop-append_seam before (words_in N f ++ after))

    ends : end_within work (length before) (length work) ≡ length before + length (words_in N f)
    ends = rw (take-length work, stands, skip_first N f after)

    abbrev decided : Option Fit
    decided = rule_fit table rows rule (drop (length before) work)

    abbrev flags : List Bool
    flags = admitted_flags table rows 32 (drop (length before) work)

    exchanged-rule : (h : Formula) → apply P (rule_of rule) f ≡ done h
        → exchanged work (length before) (end_within work (length before) (length work)) (rewritten_words decided work (length before) (length work) flags)
        ≡ before ++ (words_in N h ++ after)
    exchanged-rule h e =
        let long = ap length is ∙ length-append before (words_in N f ++ after) ∙ ap (λ (n : ℕ). length before + n) (length-append (words_in N f) after) in
        let within : length before + size f ≤ length work = omega (arith, length-words N f) in
        let admitted : Admitted N text table rows inside valid index flags f =
        subst (λ (s : List ℕ). Admitted N text table rows inside valid index (admitted_flags table rows 32 s) f) (sym stands) (flags_admitted f storable is_well low after) in
        rw (
          rule-words N text table rows inside valid index f h storable (well_known is_well) work (length before) (length work) after stands within flags admitted rule e,
          ends,
        ) (spliced_middle work (length work) before (words_in N f) after (take-length work ∙ is) (words_in N h))

    -- 13, 14, 15
    pub made_held : (names : List ℕ) (top : ℕ) (over : Bool)
        → made_in table rows rule (held work names top over) (length before) ≡ (apply P (rule_of rule) f >>= put_in N before after names top)
    unfolding made_in sized_in
    made_held names top over = pick (ruled f storable is_well low after (apply P (rule_of rule) f) decided
        (rw stands (rule_told N text table rows inside valid index rule f after storable (well_known is_well))))
      where
        pick : Ruled (apply P (rule_of rule) f) (misfit decided (words_in N f ++ after))
            → unless_refused (misfit decided (drop (length before) work)) (sized_in (held work names top over) (length before) decided flags)
            ≡ (apply P (rule_of rule) f >>= put_in N before after names top)
        pick (makes h e z) =
            let number : misfit decided (drop (length before) work) ≡ 0 = ap (misfit decided) stands ∙ z in
            rw (number, e, exchanged-rule h e)
        pick (fails m e z) =
            let number : misfit decided (drop (length before) work) ≡ suc m = ap (misfit decided) stands ∙ z in
            rw (number, e)
