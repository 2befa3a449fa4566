-- The demands, on one page: every name in a statement is a definition of grammar/specs, logic/specs or demands/specs, and each proof cites what is proved beside
-- this module. Of a job's outcome, which is its answer `r`, the output `new` and working memory `left`, nothing is assumed but the job's `Promise`, as its contract has it.
-- Assumes nothing.
use Prim.Native.Nat.{ℕ, ◌≤◌}
use mathlib.Core.Path.{◌≡◌, sym, ◌∙◌}
use mathlib.Core.Logic.{◌↔◌}
use mathlib.Core.List.{List, [], ◌++◌}
use mathlib.Core.Bool.{true, false, not}
use lib.ListN.{length, drop}
use Rattle.grammar.specs.Sizes.{text_size, work_size}
use Rattle.grammar.specs.Bytes.{Bytes, bytes, every}
use Rattle.grammar.specs.Outcome.{done}
use Rattle.grammar.specs.Problem.{Problem, problem_of, is_input}
use Rattle.grammar.specs.ProblemText.{problem_text}
use Rattle.grammar.specs.Valid.{Valid}
use Rattle.grammar.specs.Derivation.{Derivation, derivation_fits, derivation_text, ends_in_unsat}
use Rattle.grammar.specs.HandedBack.{Lent, block, offset, HandedBack}
use Rattle.grammar.proofs.ProblemRead.{problem_of_exactly}
use Rattle.grammar.proofs.HandedBack.{HandedBack-once}
use Rattle.logic.specs.Formula.{Formula, depth}
use Rattle.logic.specs.Text.{text_of, spelled}
use Rattle.logic.specs.Reading.{read_formula}
use Rattle.logic.specs.Normal.{mentions_only}
use Rattle.logic.specs.Meaning.{Structure, Extends, satisfies}
use Rattle.logic.proofs.Reading.{read_formula_exactly}
use Rattle.demands.specs.TheoryText.{theory_of, theory_text}
use Rattle.demands.specs.ValidTheory.{ValidTheory}
use Rattle.demands.specs.Written.{written_of}
use Rattle.demands.specs.Ground.{Ground, ground_text}
use Rattle.demands.specs.Answer.{grounded, replayed, checked, Result, replay_result, check_result}
use Rattle.demands.specs.Accepted.{Grounds, final_formulas, final_text, accepts, Fits}
use Rattle.demands.specs.Refused.{Refused}
use Rattle.demands.specs.Promise.{Promise}
use Rattle.demands.specs.declared.answer.Answer.{Answer}
use Rattle.demands.proofs.TheoryText.{theory_of_exactly}
use Rattle.demands.proofs.Derivation.{written_of_exactly}
use Rattle.demands.proofs.Refusals.{replayed-refuses, checked-refuses}
use Rattle.demands.proofs.Final.{final-once, final_read, final-same, final_unsat, final-nowhere, final-refuted, final_plain}
use Rattle.demands.proofs.Accepted.{grounded-short, check_reads, check_grounds, demand_two, demand_two_result, replay_reads, replay_grounds, replay_two, replay_two_result}
use Rattle.demands.proofs.Promises.{promised_number, promised_exactly, promised_as, promised_refused, promised_unseen}

-- ONE READING, ONE TEXT: a text is read as a thing exactly if the thing is valid and the text is its text.

pub problem_text_lem : (text : Bytes) (P : Problem) → (problem_of text ≡ done P) ↔ (Valid P × (text ≡ problem_text P))
problem_text_lem = problem_of_exactly

pub theory_text_lem : (P : Problem) (text : Bytes) (T : List Formula) → (theory_of P text ≡ done T) ↔ (ValidTheory P T × (text ≡ theory_text T))
theory_text_lem = theory_of_exactly

-- read to the text's end, with so many levels left
pub formula-text : (levels : ℕ) (text : Bytes) (f : Formula)
    → (read_formula levels text ≡ done (f, [])) ↔ ((spelled f ≡ true) × (depth f ≤ levels) × (text ≡ text_of f))
formula-text = read_formula_exactly

pub derivation_text_lem : (text : Bytes) (D : Derivation) → (written_of text ≡ done D) ↔ ((derivation_fits D ≡ true) × (text ≡ derivation_text D))
derivation_text_lem = written_of_exactly

-- DEMAND 3, of every derivation that grounds a valid theory of a valid problem.

-- A text is one derivation, and that leads to one list of final formulas.
pub grounds_once : {P : Problem} {T : List Formula} {derivation : Bytes} (g h : Grounds P T derivation) → (g.written ≡ h.written) × (final_formulas g ≡ final_formulas h)
grounds_once = final-once

module _ {P : Problem} {T : List Formula} {derivation : Bytes} (valid : Valid P) (valid_theory : ValidTheory P T) (g : Grounds P T derivation) where
  -- In every structure that extends the input structure the theory holds exactly if the final formulas do.
  pub demand_three : (S : Structure) → Extends P S → satisfies S T ≡ satisfies S (final_formulas g)
  demand_three = final-same valid valid_theory g

  -- Their text is read as these formulas, and so means what they mean.
  pub demand_three_text : theory_of P (final_text g) ≡ done (final_formulas g)
  demand_three_text = final_read valid valid_theory g

  -- None of them mentions an input predicate, which a solver could choose freely.
  pub demand_three_outputs : every (mentions_only (λ p. not (is_input P p))) (final_formulas g) ≡ true
  demand_three_outputs = final_plain valid valid_theory g

  -- The derivation ends in UNSAT exactly if their text is `false` alone;
  pub demand_three_false : (ends_in_unsat g.written.lines ≡ true) ↔ (final_text g ≡ bytes "false\n")
  demand_three_false = final_unsat valid valid_theory g

  -- then no structure that extends the input structure satisfies the theory.
  pub demand_three_unsat : ends_in_unsat g.written.lines ≡ true → (S : Structure) → Extends P S → satisfies S T ≡ false
  demand_three_unsat = final-nowhere valid valid_theory g

-- Under the limits a ground text has at most 65,536 bytes.
pub ground-short : (problem theory derivation : Bytes) (G : Ground) → grounded problem theory derivation ≡ done G → length (ground_text G) ≤ text_size
ground-short = grounded-short

-- THE JOB CHECK, of every outcome that its promise allows.

module _ (problem theory derivation claim : Bytes) (output work : List ℕ) {r : Answer} {new left : List ℕ}
    (promise : Promise (check_result problem theory derivation claim output work) r new left) where
  -- Demand 1: a refusal has a number of the table, its file and line, no counts, and keeps the output.
  pub check_one : (r.number ≡ 0 → ⊥) → Refused 19 output r new
  check_one = promised_refused (checked-refuses problem theory derivation claim output work) output work promise

  -- Nothing is accepted but texts within their sizes that are a problem and a theory, with working memory long enough.
  pub check_valid : r.number ≡ 0
      → Fits problem theory derivation claim work × ((P : Problem) × (T : List Formula) × (problem_of problem ≡ done P) × (theory_of P theory ≡ done T))
  check_valid e = check_reads problem theory derivation claim output work (sym (promised_number promise) ∙ e)

  module _ (P : Problem) (T : List Formula) (read_problem : problem_of problem ≡ done P) (read_theory : theory_of P theory ≡ done T) where
    module _ (fits : Fits problem theory derivation claim work) where
      -- Demand 2: these are accepted exactly if a derivation grounds the theory, the claim is its final formulas' text, and that has room in the output;
      pub check_two : (r.number ≡ 0) ↔ ((g : Grounds P T derivation) × (claim ≡ final_text g) × (length (final_text g) ≤ length output))
      check_two = promised_exactly promise (demand_two problem theory derivation claim output work P T read_problem read_theory fits)

      -- then the answer, the output and working memory are what that derivation asks for.
      pub check_two_result : (g : Grounds P T derivation) → claim ≡ final_text g → length (final_text g) ≤ length output → Promise (accepts g output work) r new left
      check_two_result g e long = promised_as promise (demand_two_result problem theory derivation claim output work P T read_problem read_theory fits g e long)

    -- Demand 3: what is accepted is the text of the derivation's own final formulas, and they hold where the theory does.
    pub check_three : r.number ≡ 0
        → (g : Grounds P T derivation) × (claim ≡ final_text g) × ((S : Structure) → Extends P S → satisfies S T ≡ satisfies S (final_formulas g))
    check_three e =
        let (g, is, long, result) = check_grounds problem theory derivation claim output work P T read_problem read_theory (sym (promised_number promise) ∙ e) in
        (g, is, demand_three ((problem_text_lem problem P).0 read_problem).0 ((theory_text_lem P theory T).0 read_theory).0 g)

    -- If the derivation ends in UNSAT, the claim is `false` alone, and no structure that extends the input structure satisfies the theory.
    pub check_three_unsat : r.number ≡ 0 → (D : Derivation) → written_of derivation ≡ done D → ends_in_unsat D.lines ≡ true
        → (claim ≡ bytes "false\n") × ((S : Structure) → Extends P S → satisfies S T ≡ false)
    check_three_unsat e =
        let (g, is, same) = check_three e in
        final-refuted ((problem_text_lem problem P).0 read_problem).0 ((theory_text_lem P theory T).0 read_theory).0 g (λ text. text) is

-- THE JOB REPLAY, of every outcome that its promise allows: the same, with the output for the claim.

module _ (problem theory derivation : Bytes) (output work : List ℕ) {r : Answer} {new left : List ℕ}
    (promise : Promise (replay_result problem theory derivation output work) r new left) where
  -- Demand 1.
  pub replayed_one : (r.number ≡ 0 → ⊥) → Refused 18 output r new
  replayed_one = promised_refused (replayed-refuses problem theory derivation output work) output work promise

  pub replayed_valid : r.number ≡ 0
      → Fits problem theory derivation [] work × ((P : Problem) × (T : List Formula) × (problem_of problem ≡ done P) × (theory_of P theory ≡ done T))
  replayed_valid e = replay_reads problem theory derivation output work (sym (promised_number promise) ∙ e)

  module _ (P : Problem) (T : List Formula) (read_problem : problem_of problem ≡ done P) (read_theory : theory_of P theory ≡ done T) where
    module _ (fits : Fits problem theory derivation [] work) where
      -- Demand 2.
      pub replayed_two : (r.number ≡ 0) ↔ ((g : Grounds P T derivation) × (length (final_text g) ≤ length output))
      replayed_two = promised_exactly promise (replay_two problem theory derivation output work P T read_problem read_theory fits)

      pub replayed_two_result : (g : Grounds P T derivation) → length (final_text g) ≤ length output → Promise (accepts g output work) r new left
      replayed_two_result g long = promised_as promise (replay_two_result problem theory derivation output work P T read_problem read_theory fits g long)

    -- Demand 3.
    pub replayed_three : r.number ≡ 0
        → (g : Grounds P T derivation) × (new ≡ final_text g ++ drop (length (final_text g)) output)
        × ((S : Structure) → Extends P S → satisfies S T ≡ satisfies S (final_formulas g))
    replayed_three e =
        let (g, long, result) = replay_grounds problem theory derivation output work P T read_problem read_theory (sym (promised_number promise) ∙ e) in
        (g, (promised_as promise result).written, demand_three ((problem_text_lem problem P).0 read_problem).0 ((theory_text_lem P theory T).0 read_theory).0 g)

    pub replayed_three_unsat : r.number ≡ 0 → (D : Derivation) → written_of derivation ≡ done D → ends_in_unsat D.lines ≡ true
        → (new ≡ bytes "false\n" ++ drop 6 output) × ((S : Structure) → Extends P S → satisfies S T ≡ false)
    replayed_three_unsat e =
        let (g, is, same) = replayed_three e in
        final-refuted ((problem_text_lem problem P).0 read_problem).0 ((theory_text_lem P theory T).0 read_theory).0 g (λ text. text ++ drop (length text) output) is

-- What stood in working memory before never shows in an answer: two memories, of which both are long enough or neither is.

module _ (problem theory derivation : Bytes) (output work other : List ℕ) (alike : (work_size ≤ length work) ↔ (work_size ≤ length other))
    {r s : Answer} {new written left rest : List ℕ} where
  pub check_unseen : (claim : Bytes) → Promise (check_result problem theory derivation claim output work) r new left
      → Promise (check_result problem theory derivation claim output other) s written rest → (r ≡ s) × (new ≡ written)
  unfolding checked
  check_unseen claim = promised_unseen true problem theory derivation claim output work other alike

  pub replay_unseen : Promise (replay_result problem theory derivation output work) r new left
      → Promise (replay_result problem theory derivation output other) s written rest → (r ≡ s) × (new ≡ written)
  unfolding replayed text_size
  replay_unseen = promised_unseen false problem theory derivation [] output work other alike

-- ANY TWO OUTCOMES ARE EQUAL: of check and of replay, and of the refused line.

pub promise_once : {result : Result} {r s : Answer} {output written work left : List ℕ} → Promise result r output work → Promise result s written left
    → (r ≡ s) × (output ≡ written) × (work ≡ left)
promise_once p q = (p.is ∙ sym q.is, p.written ∙ sym q.written, p.left ∙ sym q.left)

-- The refused line is one part of the lent text: its block, its place in it, its bytes.
pub refused_line-once : {text part other : Lent} {line : ℕ} → HandedBack text line part → HandedBack text line other
    → (block part ≡ block other) × (offset part ≡ offset other) × (part.now ≡ other.now)
refused_line-once = HandedBack-once
