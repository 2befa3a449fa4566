-- A rule at a place of memory: what is stored for each decision, and that it is the words of the theory with what the rule makes in the formula's place.
-- Assumes nothing.
use Prim.Native.Nat.{ℕ, ◌+◌, ◌-◌, ◌*◌, ◌/◌, ◌≤◌, ◌<◌}
use native.Mathlib.Omega.{arith}
use mathlib.Core.Path.{◌≡◌, sym, ap, subst, ◌∙◌}
use mathlib.Core.List.{List, ◌++◌, map}
use Rattle.std.specs.Prelude.{Option, Some, None}
use mathlib.Core.Bool.{Bool, true, false, cond}
use lib.ListN.{length, get_or, take, drop, length-take, length-drop, length-append}
use lib.Seq.{slice, length-take-le, take-take, take-append_seam, take-append-add, drop-append_seam, drop-append-add}
use Rattle.grammar.specs.Bytes.{Bytes}
use Rattle.grammar.specs.Outcome.{Outcome, done, refused}
use Rattle.grammar.specs.Problem.{Name, Problem}
use Rattle.grammar.specs.Valid.{Valid}
use Rattle.logic.specs.Formula.{Side, Formula, truth, quantifier, size}
use Rattle.logic.specs.Names.{known, closed_but}
use Rattle.logic.specs.Meaning.{elements_to}
use Rattle.logic.specs.Rules.{simplified, admits, instantiated, apply}
use Rattle.table.specs.memory.Table.{position, table_names, problem_in}
use Rattle.table.specs.declared.table.Table.{Table}
use Rattle.derivation.specs.memory.RuleLines.{rule_of}
use Rattle.derivation.specs.declared.rule_line.Rule.{Rule}
use Rattle.words.specs.memory.Kinds.{skip}
use Rattle.words.specs.memory.Words.{words}
use Rattle.words.specs.memory.Storing.{Stores, spliced, Rewritten}
use Rattle.words.proofs.memory.Kinds.{skip_turn}
use Rattle.words.proofs.memory.Naming.{Naming, words_in, Storable}
use Rattle.words.proofs.memory.Words.{length-words, skip_first}
use Rattle.words.proofs.memory.Standing.{drop-take}
use Rattle.words.proofs.memory.Storing.{Ahead, ahead_read, ahead_slice}
use Rattle.formula.specs.memory.Instances.{instantiated_words}
use Rattle.formula.specs.memory.Rewriting.{end_within, fit_words, rewritten_words, Standing}
use Rattle.formula.specs.memory.Deciding.{rule_fit}
use Rattle.formula.specs.declared.decide.Fit.{Fit}
use Rattle.formula.specs.declared.decide.Fit.TheVariants as fit
use Rattle.formula.proofs.memory.Simplified.{simplified-near}
use Rattle.formula.proofs.memory.Instances.{instantiated-near}
use Rattle.formula.proofs.memory.Simplification.{simplified-stands}
use Rattle.formula.proofs.memory.Instantiated.{instantiated-stands}
use Rattle.formula.proofs.memory.Decided.{QuantifierFits, Told, rule_told}

-- what is decided takes no more room than memory for each element
pub decided_near : (decided : Option Fit) (word : ℕ) (work : List ℕ) (at end : ℕ) (flags : List Bool) → length work ≤ 16384
    → length (fit_words decided word (slice at end work) flags) ≤ 16385 + length flags * 16384
decided_near (Some (fit.Value b)) word work at end flags h = omega arith
decided_near (Some (fit.Junction every)) word work at end flags h =
    let l : length (slice at end work) ≤ 16384 = simp (length-drop, length-take) (omega arith) in
    omega (arith, simplified-near every (word / 16) (slice at end work))
decided_near (Some fit.Quantifier) word work at end flags h = omega (arith, instantiated-near word work at end flags h)
decided_near None word work at end flags h =
    let l : length (slice at end work) ≤ 16384 = simp (length-drop, length-take) (omega arith) in
    omega arith

-- the formula stands as it stood while what precedes it was copied
pub decided_kept : {old : List ℕ} {to : ℕ} {whole work : List ℕ} {place : ℕ} {rest : List ℕ} → Ahead old to whole work place rest
    → (decided : Option Fit) (at end : ℕ) (flags : List Bool) {next : ℕ} {later : List ℕ} → at < to → end ≤ to
    → Stores work place (fit_words decided (get_or work at 0) (slice (at + 1) end work) flags) next later
    → Stores work place (fit_words decided (get_or old at 0) (slice (at + 1) end old) flags) next later
decided_kept a decided at end flags h k s = rw (ahead_read a at h, ahead_slice a (at + 1) end k) at s

module _ (old : List ℕ) (at full to : ℕ) (p : Standing old at full to) (end : ℕ) (ends : end ≡ end_within old at full) where
  pub end_after : at < end
  end_after =
      let l = length-take-le full old (omega (arith, p)) in
      let z = skip_turn (take full old) at 1 (omega (arith, p.here)) (omega arith) in
      omega arith

  -- what is stored for a decision
  pub stored_as : (flags : List Bool) (decided : Option Fit) {work : List ℕ} {total : ℕ}
      → Rewritten old at end full to (fit_words decided (get_or old at 0) (slice (at + 1) end old) flags) total work
      → Rewritten old at (end_within old at full) full to (rewritten_words decided old at full flags) total work
  unfolding rewritten_words
  stored_as flags decided s = rw (← ends) s

-- A theory's words, among them some in the middle: these give way to others in their place.
module _ (old : List ℕ) (full : ℕ) (before middle after : List ℕ) (theory : take full old ≡ before ++ (middle ++ after)) where
  pub spliced_middle : (new : List ℕ) → spliced old (length before) (length before + length middle) full new ≡ before ++ (new ++ after)
  spliced_middle new =
      let long = sym (length-take full old) ∙ ap length theory ∙ length-append before (middle ++ after) in
      let first : take (length before) old ≡ before =
      sym (take-take (length before) full old (omega arith)) ∙ ap (take (length before)) theory ∙ take-append_seam before (middle ++ after) in
      let last : slice (length before + length middle) full old ≡ after =
      ap (drop (length before + length middle)) theory ∙ drop-append-add before (middle ++ after) (length middle) ∙ drop-append_seam middle after in
      rw (first, last)

-- where the words of f stand, and f ends within the theory
end-words : (N : Naming) (f : Formula) (old : List ℕ) (at full : ℕ) (rest : List ℕ) → drop at old ≡ words_in N f ++ rest → at + size f ≤ full
    → end_within old at full ≡ at + size f
end-words N f old at full rest stands h =
    let n = full - at - size f in
    let e : full ≡ at + (size f + n) = omega arith in
    ap (λ (k : ℕ). at + skip (slice at k old) 1) e ∙ ap (λ (s : List ℕ). at + skip s 1) (range n) ∙ rw (skip_first N f (take n rest), length-words N f)
  where
    range : (n : ℕ) → slice at (at + (size f + n)) old ≡ words_in N f ++ take n rest
    range n = rw (drop-take at (size f + n) old, stands, ← length-words N f) (take-append-add (words_in N f) rest n)

module _ (N : Naming) (text : Bytes) (table : Table) (rows : List ℕ) (inside : table.inputs ≤ table.count)
    (valid : Valid (problem_in text table rows)) (index : (p : Name) → N.predicate_index p ≡ position p (table_names text table)) where
  abbrev P : Problem
  P = problem_in text table rows

  -- the flags are those of the guard, if f is a quantifier
  abbrev pub Admitted : List Bool → Formula → Type 0
  Admitted flags f = (c : Side) (x : Name) (g h : Formula) → f ≡ quantifier c x g h → flags ≡ map (admits P x g) (elements_to P.domain)

  module _ (f h : Formula) (storable : Storable N f) (is_known : known P f ≡ true) (old : List ℕ) (at full : ℕ) (rest : List ℕ)
      (stands : drop at old ≡ words_in N f ++ rest) (within : at + size f ≤ full) (flags : List Bool) (admitted : Admitted flags f) where
    instantiated-fits : (t : QuantifierFits P f (done h)) → instantiated_words (get_or old at 0) (slice (at + 1) (at + size f) old) flags ≡ words_in N h
    instantiated-fits t = pick (closed_but t.name t.guard) t.makes
      where
        can : Storable N (quantifier t.side t.name t.guard t.body)
        can = subst (Storable N) t.is storable

        pick : (b : Bool) → ◌≡◌ {A = Outcome ℕ Formula} (done h) (cond b (done (instantiated P t.side t.name t.guard t.body)) (refused 14))
            → instantiated_words (get_or old at 0) (slice (at + 1) (at + size f) old) flags ≡ words_in N h
        pick true e =
            let same : h ≡ instantiated P t.side t.name t.guard t.body = cc in
            rw same
            (instantiated-stands N P t.name can.0 t.guard t.body can.2 t.side old at (at + size f) rest flags (rw t.is at stands) (rw t.is)
            (admitted t.side t.name t.guard t.body t.is))
        pick false e = let z : ◌≡◌ {A = ℕ} 0 1 = cc in absurd (omega arith)

    fit_words_lem : (decided : Option Fit) → Told P f (done h) decided → fit_words decided (get_or old at 0) (slice (at + 1) (at + size f) old) flags ≡ words_in N h
    unfolding words
    fit_words_lem (Some (fit.Value b)) told = let same : truth b ≡ h = cc in rw (← same)
    fit_words_lem (Some (fit.Junction every)) told =
        let same : simplified told.side told.parts ≡ h = cc in
        rw (← told.sided, ← same)
        (simplified-stands N told.side told.parts old at (at + size f) rest (rw told.is at stands) (rw told.is))
    fit_words_lem (Some fit.Quantifier) told = instantiated-fits told
    fit_words_lem None told = let z : ◌≡◌ {A = ℕ} 0 1 = cc in absurd (omega arith)

    -- what is stored for a rule that makes h of f is the words of h
    pub rule-words : (rule : Rule) → apply P (rule_of rule) f ≡ done h → rewritten_words (rule_fit table rows rule (drop at old)) old at full flags ≡ words_in N h
    unfolding rewritten_words
    rule-words rule e =
        rw (end-words N f old at full rest stands within)
        (fit_words_lem (rule_fit table rows rule (drop at old)) (rw (stands, ← e) (rule_told N text table rows inside valid index rule f rest storable is_known)))
