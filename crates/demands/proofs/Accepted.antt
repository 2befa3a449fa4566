-- What the jobs accept is what the relations allow: from the texts to a derivation that grounds the theory, and back. Check and replay are one proof,
-- with a claim to compare or without.
-- Assumes nothing.
use Prim.Native.Nat.{ℕ, ◌≤◌}
use mathlib.Core.Path.{◌≡◌, refl, sym, ap, subst, ◌∙◌}
use mathlib.Core.Logic.{◌↔◌}
use mathlib.Core.List.{List, []}
use mathlib.Core.Bool.{Bool, true, false}
use lib.Dec.{leb}
use lib.ListN.{length}
use borrow.Author.Tests.{leb-true, le-leb}
use Rattle.grammar.specs.Sizes.{text_size, work_size}
use Rattle.grammar.specs.Bytes.{Bytes, same}
use Rattle.grammar.specs.Outcome.{done, provided, ◌>>=◌, ◌>>◌}
use Rattle.grammar.specs.Lines.{Refusal, Judged, refusal}
use Rattle.grammar.specs.Problem.{Problem, problem_of}
use Rattle.grammar.proofs.Laws.{same_refl, same_true}
use Rattle.grammar.proofs.ProblemRead.{problem_of_exactly}
use Rattle.grammar.proofs.Outcome.{Allowed, allowed_bind, allowed_weaken, allowed_provided, allowed_done, allowed_itself}
use Rattle.logic.specs.Formula.{Formula}
use Rattle.demands.specs.TheoryText.{theory_of}
use Rattle.demands.specs.Theory.{formulas_of, names_of, State, live_theory, initial, stepped}
use Rattle.demands.specs.Replay.{Replayed, derivation_of}
use Rattle.demands.specs.Ground.{is_ground, Ground, ground_text, ground_of, footer_line}
use Rattle.demands.specs.Answer.{difference_line, grounded, replayed, checked, Result, result_of, replay_result, check_result}
use Rattle.demands.specs.Accepted.{Grounds, final_formulas, final_text, accepts, Fits}
use Rattle.demands.specs.memory.Conclusions.{agreed, concluded_of, answered_of}
use Rattle.demands.proofs.Theory.{length-names, length-formulas}
use Rattle.demands.proofs.TheoryText.{theory_of_exactly}
use Rattle.demands.proofs.Refusals.{replayed-accepts, checked-accepts}
use Rattle.demands.proofs.Derivation.{Derived, derivation_from_exactly, moved_steps, steps_moved}
use Rattle.demands.proofs.Final.{final-short}

-- Acceptance by the relations.

-- the ground theory of a derivation, with the count of its rule lines
abbrev ground_by : {P : Problem} {T : List Formula} {derivation : Bytes} → Grounds P T derivation → Ground
ground_by g = record { formulas = final_formulas g; rules = length g.written.lines }

module _ (P : Problem) (T : List Formula) (derivation : Bytes) where
  abbrev GroundedBy : Ground → Type 0
  GroundedBy G = (g : Grounds P T derivation) × (G ≡ ground_by g)

  ground_says : (D : Replayed State) → Derived (stepped P) (initial T) derivation D → Allowed GroundedBy (ground_of P D)
  unfolding ground_of
  ground_says D d =
      allowed_bind _ GroundedBy _
      (λ u listed. allowed_bind _ GroundedBy _
      (λ v ground. (
        record {
          written = d.derivation;
          last = D.last;
          fits = d.fits;
          text = d.text;
          steps = moved_steps P d.derivation.lines (initial T) D.last d.leads;
          listed = sym d.listed ∙ same_true D.final (names_of (live_theory D.last)) listed;
          ground = ground;
        },
        ap (λ (n : ℕ). record { formulas = formulas_of (live_theory D.last); rules = n }) d.counted,
      ))
      (provided (is_ground P D.last) (refusal 17 3 (footer_line D))) (allowed_provided (is_ground P D.last) (refusal 17 3 (footer_line D))))
      (provided (same D.final (names_of (live_theory D.last))) (refusal 16 3 (footer_line D)))
      (allowed_provided (same D.final (names_of (live_theory D.last))) (refusal 16 3 (footer_line D)))

  derivation_says : Allowed GroundedBy (derivation_of P T derivation >>= ground_of P)
  derivation_says =
      allowed_bind _ GroundedBy (ground_of P) (λ D e. ground_says D ((derivation_from_exactly (stepped P) (initial T) derivation D).0 e)) (derivation_of P T derivation) (allowed_itself (derivation_of P T derivation))

  derivation_grounds : (g : Grounds P T derivation) → (derivation_of P T derivation >>= ground_of P) ≡ done (ground_by g)
  unfolding ground_of
  derivation_grounds g =
      let D : Replayed State = record { last = g.last; rules = length g.written.lines; final = g.written.final } in
      let e = (derivation_from_exactly (stepped P) (initial T) derivation D).1
      (record { derivation = g.written; fits = g.fits; text = g.text; leads = steps_moved P g.steps; counted = refl; listed = refl }) in
      rw (e, g.listed, same_refl (names_of (live_theory g.last)), g.ground)

-- From the texts.

-- problem and theory are read, and a derivation grounds the theory
record Judges (problem theory derivation : Bytes) (G : Ground) : Type 0 where
  pub P : Problem
  pub T : List Formula
  pub read_problem : problem_of problem ≡ done P
  pub read_theory : theory_of P theory ≡ done T
  pub grounds : Grounds P T derivation
  pub is : G ≡ ground_by grounds

grounded_judges : (problem theory derivation : Bytes) → Allowed (Judges problem theory derivation) (grounded problem theory derivation)
grounded_judges problem theory derivation =
    allowed_bind _ (Judges problem theory derivation) _
    (λ P read_problem. allowed_bind _ (Judges problem theory derivation) _
    (λ T read_theory. allowed_weaken (GroundedBy P T derivation) (Judges problem theory derivation)
    (λ G q. record { P = P; T = T; read_problem = read_problem; read_theory = read_theory; grounds = q.0; is = q.1 })
    (derivation_of P T derivation >>= ground_of P) (derivation_says P T derivation))
    (theory_of P theory) (allowed_itself (theory_of P theory)))
    (problem_of problem) (allowed_itself (problem_of problem))

-- texts are read as one problem and one theory
judges_grounds : (problem theory derivation : Bytes) (P : Problem) (T : List Formula) → problem_of problem ≡ done P → theory_of P theory ≡ done T
    → (G : Ground) → Judges problem theory derivation G → GroundedBy P T derivation G
judges_grounds problem theory derivation P T read_problem read_theory G j =
    let p : j.P ≡ P = cc (j.read_problem, read_problem) in
    let t : j.T ≡ T = cc (j.read_theory, read_theory, p) in
    subst (λ q. GroundedBy q T derivation G) p (subst (λ u. GroundedBy j.P u derivation G) t (j.grounds, j.is))

pub grounded-short : (problem theory derivation : Bytes) (G : Ground) → grounded problem theory derivation ≡ done G → length (ground_text G) ≤ text_size
grounded-short problem theory derivation G e =
    let j = allowed_done _ (grounded problem theory derivation) G (grounded_judges problem theory derivation) e in
    rw j.is (final-short ((problem_of_exactly problem j.P).0 j.read_problem).0 ((theory_of_exactly j.P theory j.T).0 j.read_theory).0 j.grounds)

-- Either job, with a claim to compare or without.

-- what follows a test, which may refuse
allowed_after : {A : Type 0} (Q : A → Type 0) (b : Bool) (r : Refusal) (o : Judged A) → (b ≡ true → Allowed Q o) → Allowed Q (provided b r >> o)
allowed_after Q true r o h = h refl
allowed_after Q false r o h = tt

-- as many names are listed as formulas are left
listed-count : {P : Problem} {T : List Formula} {derivation : Bytes} (g : Grounds P T derivation) → length (final_formulas g) ≡ length g.written.final
listed-count g = rw g.listed (length-formulas (live_theory g.last) ∙ sym (length-names (live_theory g.last)))

module _ (compare : Bool) (problem theory derivation claim : Bytes) (output work : List ℕ) where
  -- what a job accepts: all fits, and the ground text has room, and is the claim where there is one to compare with
  record Answered (G : Ground) : Type 0 where
    pub fits : Fits problem theory derivation claim work
    pub judges : Judges problem theory derivation G
    pub room : length (ground_text G) ≤ length output
    pub agrees : agreed compare claim (ground_text G) ≡ true

  answered_says : Allowed Answered (answered_of compare problem theory derivation claim output work)
  answered_says =
      allowed_after Answered (leb work_size (length work)) (refusal 1 0 0) _ λ long_work.
      allowed_after Answered (leb (length problem) text_size) (refusal 2 0 0) _ λ short_problem.
      allowed_after Answered (leb (length theory) text_size) (refusal 2 0 0) _ λ short_theory.
      allowed_after Answered (leb (length derivation) text_size) (refusal 2 0 0) _ λ short_derivation.
      allowed_after Answered (leb (length claim) text_size) (refusal 2 0 0) _ λ short_claim.
      allowed_bind (Judges problem theory derivation) Answered (concluded_of compare claim output)
      (λ G j.
      allowed_after Answered (leb (length (ground_text G)) (length output)) (refusal 18 0 0) _ λ room.
      allowed_after Answered (agreed compare claim (ground_text G)) (refusal 19 4 (difference_line claim (ground_text G))) (done G) λ agrees.
      record {
        fits = record {
          short_problem = leb-true _ _ short_problem;
          short_theory = leb-true _ _ short_theory;
          short_derivation = leb-true _ _ short_derivation;
          short_claim = leb-true _ _ short_claim;
          long_work = leb-true _ _ long_work;
        };
        judges = j;
        room = leb-true _ _ room;
        agrees = agrees;
      })
      (grounded problem theory derivation) (grounded_judges problem theory derivation)

  answered : (G : Ground) → answered_of compare problem theory derivation claim output work ≡ done G → Answered G
  answered G = allowed_done Answered (answered_of compare problem theory derivation claim output work) G answered_says

  module _ (P : Problem) (T : List Formula) (read_problem : problem_of problem ≡ done P) (read_theory : theory_of P theory ≡ done T) where
    grounds_result : Fits problem theory derivation claim work → (g : Grounds P T derivation) → agreed compare claim (final_text g) ≡ true
        → length (final_text g) ≤ length output → result_of (answered_of compare problem theory derivation claim output work) output work ≡ accepts g output work
    grounds_result fits g agrees long =
        rw (
          le-leb _ _ fits.long_work,
          le-leb _ _ fits.short_problem,
          le-leb _ _ fits.short_theory,
          le-leb _ _ fits.short_derivation,
          le-leb _ _ fits.short_claim,
          read_problem,
          read_theory,
          derivation_grounds P T derivation g,
          le-leb _ _ long,
          agrees,
          ← listed-count g,
        )

    -- what is accepted is some derivation's own final formulas, and answered and left is what they ask for
    answered_grounds : (G : Ground) → Answered G
        → (g : Grounds P T derivation) × (agreed compare claim (final_text g) ≡ true) × (length (final_text g) ≤ length output)
        × (result_of (answered_of compare problem theory derivation claim output work) output work ≡ accepts g output work)
    answered_grounds G a =
        let (g, is) = judges_grounds problem theory derivation P T read_problem read_theory G a.judges in
        let agrees : agreed compare claim (final_text g) ≡ true = rw is at a.agrees in
        let long : length (final_text g) ≤ length output = rw is at a.room in
        (g, agrees, long, grounds_result a.fits g agrees long)

-- The job check.
module _ (problem theory derivation claim : Bytes) (output work : List ℕ) where
  check_answered : (check_result problem theory derivation claim output work).answer.number ≡ 0
      → (G : Ground) × Answered true problem theory derivation claim output work G
  unfolding checked
  check_answered e =
      let (G, is) = (checked-accepts problem theory derivation claim output work).0 e in
      (G, answered true problem theory derivation claim output work G is)

  pub check_reads : (check_result problem theory derivation claim output work).answer.number ≡ 0
      → Fits problem theory derivation claim work × ((P : Problem) × (T : List Formula) × (problem_of problem ≡ done P) × (theory_of P theory ≡ done T))
  check_reads e = let (G, a) = check_answered e in (a.fits, (a.judges.P, a.judges.T, a.judges.read_problem, a.judges.read_theory))

  module _ (P : Problem) (T : List Formula) (read_problem : problem_of problem ≡ done P) (read_theory : theory_of P theory ≡ done T) where
    pub check_grounds : (check_result problem theory derivation claim output work).answer.number ≡ 0
        → (g : Grounds P T derivation) × (claim ≡ final_text g) × (length (final_text g) ≤ length output)
        × (check_result problem theory derivation claim output work ≡ accepts g output work)
    unfolding checked
    check_grounds e =
        let (G, a) = check_answered e in
        let (g, agrees, long, result) = answered_grounds true problem theory derivation claim output work P T read_problem read_theory G a in
        (g, same_true claim (final_text g) agrees, long, result)

    -- Demand 2, on the definitions.
    module _ (fits : Fits problem theory derivation claim work) where
      pub demand_two_result : (g : Grounds P T derivation) → claim ≡ final_text g → length (final_text g) ≤ length output
          → check_result problem theory derivation claim output work ≡ accepts g output work
      unfolding checked
      demand_two_result g e long =
          grounds_result true problem theory derivation claim output work P T read_problem read_theory fits g (rw e (same_refl (final_text g))) long

      pub demand_two : ((check_result problem theory derivation claim output work).answer.number ≡ 0)
          ↔ ((g : Grounds P T derivation) × (claim ≡ final_text g) × (length (final_text g) ≤ length output))
      demand_two = (
        (λ e. let (g, is, long, result) = check_grounds e in (g, is, long)),
        λ (g, e, long). ap (λ (r : Result). r.answer.number) (demand_two_result g e long),
      )

-- The job replay: the same without a claim.
module _ (problem theory derivation : Bytes) (output work : List ℕ) where
  replay_answered : (replay_result problem theory derivation output work).answer.number ≡ 0
      → (G : Ground) × Answered false problem theory derivation [] output work G
  unfolding replayed text_size
  replay_answered e =
      let (G, is) = (replayed-accepts problem theory derivation output work).0 e in
      (G, answered false problem theory derivation [] output work G is)

  pub replay_reads : (replay_result problem theory derivation output work).answer.number ≡ 0
      → Fits problem theory derivation [] work × ((P : Problem) × (T : List Formula) × (problem_of problem ≡ done P) × (theory_of P theory ≡ done T))
  replay_reads e = let (G, a) = replay_answered e in (a.fits, (a.judges.P, a.judges.T, a.judges.read_problem, a.judges.read_theory))

  module _ (P : Problem) (T : List Formula) (read_problem : problem_of problem ≡ done P) (read_theory : theory_of P theory ≡ done T) where
    pub replay_grounds : (replay_result problem theory derivation output work).answer.number ≡ 0
        → (g : Grounds P T derivation) × (length (final_text g) ≤ length output) × (replay_result problem theory derivation output work ≡ accepts g output work)
    unfolding replayed text_size
    replay_grounds e =
        let (G, a) = replay_answered e in
        let (g, agrees, long, result) = answered_grounds false problem theory derivation [] output work P T read_problem read_theory G a in
        (g, long, result)

    -- Demand 2, on the definitions.
    module _ (fits : Fits problem theory derivation [] work) where
      pub replay_two_result : (g : Grounds P T derivation) → length (final_text g) ≤ length output
          → replay_result problem theory derivation output work ≡ accepts g output work
      unfolding replayed text_size
      replay_two_result g long = grounds_result false problem theory derivation [] output work P T read_problem read_theory fits g refl long

      pub replay_two : ((replay_result problem theory derivation output work).answer.number ≡ 0) ↔ ((g : Grounds P T derivation) × (length (final_text g) ≤ length output))
      replay_two = (
        (λ e. let (g, long, result) = replay_grounds e in (g, long)),
        λ (g, long). ap (λ (r : Result). r.answer.number) (replay_two_result g long),
      )
