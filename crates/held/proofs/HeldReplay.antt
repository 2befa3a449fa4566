-- A derivation in memory is the definition's derivation, and what is judged at the end is what the definition judges: by the laws of a rule line, line after line.
-- Assumes nothing.
use Prim.Native.Nat.{ℕ, ◌+◌, ◌≤◌}
use native.Mathlib.Omega.{arith}
use mathlib.Core.Path.{◌≡◌, refl, sym, ap, ◌∙◌}
use mathlib.Core.List.{List}
use mathlib.Core.Bool.{Bool, true, false, cond}
use lib.ListN.{length}
use Rattle.grammar.specs.Bytes.{Bytes, same}
use Rattle.grammar.specs.Outcome.{done, refused, mapped}
use Rattle.grammar.specs.Problem.{Name, Problem}
use Rattle.grammar.specs.Lines.{Judged, Refusal, refusal}
use Rattle.grammar.specs.Derivation.{Rule, SNAND, SNOR, STN, EPRED, EPROP, IQ, RuleLine, rewrite, unsat, trivial, splitc}
use Rattle.grammar.specs.Valid.{Valid}
use Rattle.grammar.proofs.Outcome.{Allowed, allowed_done}
use Rattle.demands.specs.Theory.{formulas_of, names_of, State, live, ended, live_theory, stepped}
use Rattle.demands.specs.Replay.{Replayed, derivation_from}
use Rattle.demands.specs.Ground.{is_ground, ground_of}
use Rattle.table.specs.memory.Table.{position, table_names, problem_in}
use Rattle.table.specs.declared.table.Table.{Table}
use Rattle.derivation.specs.memory.RuleLines.{rule_of}
use Rattle.words.proofs.memory.Naming.{Naming}
use Rattle.clauses.specs.memory.Clauses.{all_at, clause_at}
use Rattle.steps.specs.memory.Held.{Held, rule_name, stepped_in, end_in}
use Rattle.held.proofs.Simulation.{replayed_with, derivation_alike, derivation_keeps}
use Rattle.held.proofs.HeldWords.{held_of}
use Rattle.held.proofs.Held.{Sound, rewritten_held, removed-held, split-held, refuted-held, stepped_sound}
use Rattle.held.proofs.HeldEnd.{clauses_held}

rule-named : (r : Rule) → rule_of (rule_name r) ≡ r
rule-named SNAND = refl
rule-named SNOR = refl
rule-named STN = refl
rule-named EPRED = refl
rule-named EPROP = refl
rule-named IQ = refl

module _ (N : Naming) (text : Bytes) (table : Table) (rows : List ℕ) (inside : table.inputs ≤ table.count)
    (valid : Valid (problem_in text table rows)) (index : (p : Name) → N.predicate_index p ≡ position p (table_names text table)) where
  abbrev P : Problem
  P = problem_in text table rows

  abbrev IsSound : State → Type 0
  IsSound = Sound N text table rows inside valid index

  step-held : (s : State) (l : RuleLine) → IsSound s → stepped_in table rows (held_of N s) l ≡ mapped (held_of N) (stepped P s l)
  unfolding stepped_in
  step-held s (rewrite r p) sound =
      rewritten_held N text table rows inside valid index s sound (rule_name r) p ∙ ap (λ (q : Rule). mapped (held_of N) (stepped P s (rewrite q p))) (rule-named r)
  step-held s (unsat p) sound = refuted-held N text table rows inside valid index s sound p
  step-held s (trivial p) sound = removed-held N text table rows inside valid index s sound p
  step-held s (splitc p names) sound = split-held N text table rows inside valid index s sound p names

  -- a derivation in memory, from sound formulas on
  module _ (first : State) (sound : IsSound first) (derivation : Bytes) where
    abbrev judged : Judged (Replayed State)
    judged = derivation_from (stepped P) first derivation

    derivation_held : derivation_from (stepped_in table rows) (held_of N first) derivation ≡ mapped (replayed_with (held_of N)) judged
    derivation_held =
        derivation_alike (stepped P) (stepped_in table rows) (held_of N) IsSound (λ s l q. stepped_sound N text table rows inside valid index s q l) step-held first sound derivation

    derivation_sound : Allowed (λ R. IsSound R.last) judged
    derivation_sound =
        derivation_keeps (stepped P) (stepped_in table rows) (held_of N) IsSound (λ s l q. stepped_sound N text table rows inside valid index s q l) step-held first sound derivation

    -- what it comes to
    pub record Ends (R : Replayed Held) : Type 0 where
      pub last : State
      pub is : judged ≡ done (record { last = last; rules = R.rules; final = R.final })
      pub holds : R.last ≡ held_of N last
      pub is_sound : IsSound last

    pub held-ends : (R : Replayed Held) → derivation_from (stepped_in table rows) (held_of N first) derivation ≡ done R → Ends R
    held-ends R e = pick judged refl (sym e ∙ derivation_held)
      where
        pick : (o : Judged (Replayed State)) → judged ≡ o → done R ≡ mapped (replayed_with (held_of N)) o → Ends R
        pick (done D) f g =
            let h : R ≡ replayed_with (held_of N) D = cc in
            record {
              last = D.last;
              is = f ∙ rw h;
              holds = ap (λ (Q : Replayed Held). Q.last) h;
              is_sound = allowed_done (λ (Q : Replayed State). IsSound Q.last) judged D derivation_sound f;
            }
        pick (refused r) f g = let z : ◌≡◌ {A = ℕ} 0 1 = cc in absurd (omega arith)

    pub held-refused : (r : Refusal) → derivation_from (stepped_in table rows) (held_of N first) derivation ≡ refused r → judged ≡ refused r
    held-refused r e = pick judged refl (sym e ∙ derivation_held)
      where
        pick : (o : Judged (Replayed State)) → judged ≡ o → refused r ≡ mapped (replayed_with (held_of N)) o → judged ≡ refused r
        pick (done D) f g = let z : ◌≡◌ {A = ℕ} 0 1 = cc in absurd (omega arith)
        pick (refused q) f g = let h : r ≡ q = cc in f ∙ rw h

  -- The end.
  module _ (s : State) (sound : IsSound s) (rules : ℕ) (final : List ℕ) where
    abbrev D : Replayed State
    D = record { last = s; rules = rules; final = final }

    ground-held : (u : State) → IsSound u
        → ◌≡◌ {A = ℕ} (cond (held_of N u).ended 0 (cond (all_at (clause_at table 32) (length (held_of N u).names) (held_of N u).words) 0 17)) (cond (is_ground P u) 0 17)
    ground-held (live t top) q = ap (λ (b : Bool). cond {A = ℕ} b 0 17) (clauses_held N text table rows inside valid index (live t top) q)
    ground-held (ended n top) q = refl

    end_is : end_in table (held_of N s) final ≡ cond (same final (names_of (live_theory s))) (cond (is_ground P s) 0 17) 16
    unfolding end_in
    end_is = ap (λ (n : ℕ). cond (same final (names_of (live_theory s))) n 16) (ground-held s sound)

    pub record Accepted : Type 0 where
      pub is_done : ground_of P D ≡ done (record { formulas = formulas_of (live_theory s); rules = rules })
      pub ground : is_ground P s ≡ true

    pub end-accepted : end_in table (held_of N s) final ≡ 0 → Accepted
    unfolding ground_of
    end-accepted e = pick (same final (names_of (live_theory s))) (is_ground P s) refl refl (sym end_is ∙ e)
      where
        pick : (a b : Bool) → same final (names_of (live_theory s)) ≡ a → is_ground P s ≡ b → ◌≡◌ {A = ℕ} (cond a (cond b 0 17) 16) 0 → Accepted
        pick true true f g h = record { is_done = rw (f, g); ground = g }
        pick true false f g h = absurd (omega arith)
        pick false b f g h = absurd (omega arith)

    pub end_refused : (n : ℕ) → n ≡ end_in table (held_of N s) final → (n ≡ 0 → ⊥) → ground_of P D ≡ refused (refusal n 3 (rules + 3))
    unfolding ground_of
    end_refused n e some = pick (same final (names_of (live_theory s))) (is_ground P s) refl refl (e ∙ end_is)
      where
        pick : (a b : Bool) → same final (names_of (live_theory s)) ≡ a → is_ground P s ≡ b → n ≡ cond a (cond b 0 17) 16 → ground_of P D ≡ refused (refusal n 3 (rules + 3))
        pick true true f g h = absurd (some h)
        pick true false f g h = rw (f, g, h)
        pick false b f g h = rw (f, h)
