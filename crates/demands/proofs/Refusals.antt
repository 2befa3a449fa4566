-- Which numbers, files and lines the two jobs refuse with: the statement's table, from what each of their parts refuses with. So an answer's
-- number is 0 exactly if the job accepts.
-- Assumes nothing.
use Prim.Native.Nat.{ℕ, suc, ◌+◌, ◌≤◌}
use native.Mathlib.Omega.{arith}
use mathlib.Core.Path.{◌≡◌, refl, sym}
use mathlib.Core.Logic.{◌↔◌}
use mathlib.Core.List.{List, [], ◌∷◌}
use mathlib.Core.Bool.{Bool, true, false, cond, ◌&&◌}
use lib.Dec.{eqb, leb}
use borrow.Author.Tests.{leb-true, eqb-true}
use Rattle.grammar.specs.Bytes.{Bytes}
use Rattle.grammar.specs.Outcome.{Outcome, done}
use Rattle.grammar.specs.Lines.{Refusal, refusal, Judged, is_lf}
use Rattle.grammar.specs.Problem.{Problem}
use Rattle.grammar.specs.Derivation.{in_bounds, RuleLine, rewrite, unsat, trivial, splitc, Line, step, footer}
use Rattle.grammar.proofs.Laws.{and_left, and_right}
use Rattle.grammar.proofs.Refusals.{Refuses, never, only, refuses-bind, refuses-mapped, refuses_cond, refuses_weaken, outcomes, OnlyRefuses, readers}
use Rattle.grammar.proofs.Refusals.{From, read_text-refuses, problem_of-refuses, read_line-refuses, read_version-refuses, read_grounder-refuses}
use Rattle.logic.specs.Formula.{Formula, Formulas, no_parts, part, Side, all, any}
use Rattle.logic.proofs.Rules.{on_junction_cases}
use Rattle.logic.proofs.Refusals.{read_formula-refuses, apply-refuses, at-refuses}
use Rattle.demands.specs.TheoryText.{theory_line, theory_of}
use Rattle.demands.specs.Theory.{Theory, State, live, ended, initial, in_place, unless_ended, whole_only, named_parts, split_parts, split, stepped}
use Rattle.demands.specs.Replay.{Place, top, heading, among, bottom, Replayed, line_done, derivation_line, whole_derivation, derivation_from, derivation_of}
use Rattle.demands.specs.Ground.{Ground, footer_line, ground_of}
use Rattle.demands.specs.Refused.{file_of, Listed}
use Rattle.demands.specs.Answer.{difference_line, grounded, replayed, checked, answer_of}

-- The theory: 5 to 9.

module _ {N : ℕ → Type 0} (malformed : N 5) (deep : N 6) (unknown : N 7) (irregular : N 8) (large : N 9) (P : Problem) where
  pub theory_line-refuses : (fs : List Formula) → OnlyRefuses N (theory_line P fs)
  unfolding theory_line
  theory_line-refuses fs = search (readers, read_formula-refuses) depth 8

  pub theory_of-refuses : (s : Bytes) → Refuses (From 2 1 N) (theory_of P s)
  unfolding theory_of
  theory_of-refuses s = read_text-refuses 2 theory_line-refuses never [] s

-- A rule line: 11 to 15.

module _ {N : ℕ → Type 0} (misnamed : N 11) (nowhere : N 12) (unfitting : N 13) where
  in_place-refuses : (n : ℕ) {k : Formula → Outcome ℕ Theory} → ((f : Formula) → Refuses N (k f)) → (t : Theory) → Refuses N (in_place n k t)
  in_place-refuses n h [] = only misnamed
  in_place-refuses n h (e ∷ es) = refuses_cond (eqb e.name n) (refuses-mapped _ (h e.formula)) (refuses-mapped _ (in_place-refuses n h es))

  module _ {A : Type 0} {k : Formula → Outcome ℕ A} (inner : (f : Formula) → Refuses N (k f)) where
    unless_ended-refuses : (s : State) (f : Formula) → Refuses N (unless_ended s k f)
    unless_ended-refuses (live t used) f = inner f
    unless_ended-refuses (ended n used) f = only unfitting

    whole_only-refuses : (path : List ℕ) (f : Formula) → Refuses N (whole_only path k f)
    whole_only-refuses [] f = inner f
    whole_only-refuses (i ∷ is) f = refuses-bind (at-refuses nowhere (λ h. only unfitting) (i ∷ is) f) (λ h. only unfitting)

  named_parts-refuses : (names : List ℕ) (fs : Formulas) → Refuses N (named_parts names fs)
  named_parts-refuses [] no_parts = never []
  named_parts-refuses [] (part f fs) = only unfitting
  named_parts-refuses (n ∷ ns) no_parts = only unfitting
  named_parts-refuses (n ∷ ns) (part f fs) = refuses-mapped _ (named_parts-refuses ns fs)

  split_parts-refuses : (names : List ℕ) (c : Side) (fs : Formulas) → Refuses N (split_parts names c fs)
  split_parts-refuses names all no_parts = only unfitting
  split_parts-refuses names all (part f fs) = named_parts-refuses names (part f fs)
  split_parts-refuses names any fs = only unfitting

  split-refuses : (names : List ℕ) (f : Formula) → Refuses N (split names f)
  split-refuses names = on_junction_cases _ (λ f. Refuses N) (λ f. only unfitting) _ (split_parts-refuses names)

  ruleset steps = (outcomes, in_place-refuses, unless_ended-refuses, whole_only-refuses, split-refuses, at-refuses, apply-refuses)

  pub stepped-refuses : N 14 → N 15 → (P : Problem) (s : State) (l : RuleLine) → Refuses N (stepped P s l)
  unfolding stepped
  stepped-refuses free large P s (rewrite r p) = search steps depth 8
  stepped-refuses free large P s (trivial p) = search steps depth 8
  stepped-refuses free large P s (splitc p names) = search steps depth 8
  stepped-refuses free large P s (unsat p) = search steps depth 8

-- The derivation: 10 to 15, and then 16 or 17 at its footer.

module _ {N : ℕ → Type 0} (malformed : N 10) (misnamed : N 11) (nowhere : N 12) (unfitting : N 13) (free : N 14) (large : N 15)
    (P : Problem) (T : List Formula) where
  line_done-refuses : (s : State) (rules : ℕ) (l : Line) → Refuses N (line_done (stepped P) s rules l)
  line_done-refuses s rules (step l) = refuses-mapped _ (stepped-refuses misnamed nowhere unfitting free large P s l)
  line_done-refuses s rules (footer names) = never _

  pub derivation_line-refuses : (place : Place State) → OnlyRefuses N (derivation_line (stepped P) (initial T) place)
  unfolding derivation_line
  derivation_line-refuses top = search (readers, read_version-refuses)
  derivation_line-refuses heading = search (readers, read_grounder-refuses)
  derivation_line-refuses (among s rules) = search (readers, read_line-refuses, line_done-refuses)
  derivation_line-refuses (bottom s rules names) = search readers

  whole_derivation-refuses : (place : Place State) → Refuses N (whole_derivation place)
  whole_derivation-refuses top = only malformed
  whole_derivation-refuses heading = only malformed
  whole_derivation-refuses (among s rules) = only malformed
  whole_derivation-refuses (bottom s rules names) = never _

  pub derivation_of-refuses : (s : Bytes) → Refuses (From 3 1 N) (derivation_of P T s)
  unfolding derivation_from
  derivation_of-refuses s = read_text-refuses 3 derivation_line-refuses whole_derivation-refuses top s

module _ {N : ℕ → Type 0} (mislisted : N 16) (unground : N 17) (P : Problem) (D : Replayed State) where
  pub ground_of-refuses : Refuses (From 3 3 N) (ground_of P D)
  unfolding ground_of
  ground_of-refuses = search (outcomes, at-footer)
    where
      at-footer : (n : ℕ) → N n → From 3 3 N (refusal n 3 (footer_line D))
      at-footer n h = record { numbered = h; filed = refl; lined = omega arith }

-- The table.

-- a number that both jobs refuse with, of that file
abbrev is_of : ℕ → ℕ → Bool
is_of file n = in_bounds 1 18 n && eqb (file_of n) file

module _ {last : ℕ} (shared : 18 ≤ last) where
  listed : (r : Refusal) → is_of r.file r.number ≡ true → (r.line ≡ 0) ↔ (r.file ≡ 0) → Listed last r
  listed r e l =
      let n = r.number in
      let within = and_left (in_bounds 1 18 n) _ e in
      record {
        least = leb-true 1 n (and_left (leb 1 n) _ within);
        greatest = omega (arith, leb-true n 18 (and_right (leb 1 n) _ within));
        filed = sym (eqb-true (file_of n) r.file (and_right (in_bounds 1 18 n) _ e));
        lined = l;
      }

  -- of no file
  unplaced : (n : ℕ) → is_of 0 n ≡ true → Listed last (refusal n 0 0)
  unplaced n e = listed (refusal n 0 0) e ((λ z. z), λ z. z)

  -- at a line of a file
  placed : {A : Type 0} {file line : ℕ} {o : Judged A} → Refuses (From (suc file) (suc line) (λ n. is_of (suc file) n ≡ true)) o → Refuses (Listed last) o
  placed h = refuses_weaken (λ r w. listed r (rw w.filed w.numbered) ((λ e. omega arith), λ e. omega arith)) h

  pub grounded-refuses : (problem theory derivation : Bytes) → Refuses (Listed last) (grounded problem theory derivation)
  grounded-refuses problem theory derivation =
      refuses-bind (placed (problem_of-refuses refl refl problem)) λ P.
      refuses-bind (placed (theory_of-refuses refl refl refl refl refl P theory)) λ T.
      refuses-bind (placed (derivation_of-refuses refl refl refl refl refl refl P T derivation)) λ D.
      placed (ground_of-refuses refl refl P D)

pub replayed-refuses : (problem theory derivation : Bytes) (output work : List ℕ) → Refuses (Listed 18) (replayed problem theory derivation output work)
unfolding replayed
replayed-refuses problem theory derivation output work =
    let shared : 18 ≤ 18 = omega arith in
    search (outcomes, unplaced, grounded-refuses) depth 8

difference_line_positive : (s t : Bytes) → 1 ≤ difference_line s t
difference_line_positive [] t = omega arith
difference_line_positive (a ∷ s) [] = omega arith
difference_line_positive (a ∷ s) (b ∷ t) = pick (eqb a b) (difference_line_positive s t)
  where
    pick : (c : Bool) → 1 ≤ difference_line s t → 1 ≤ cond c (cond (is_lf a) 1 0 + difference_line s t) 1
    pick true h = omega arith
    pick false h = omega arith

-- the one number that the job check alone refuses with
differs : (s t : Bytes) → Listed 19 (refusal 19 4 (difference_line s t))
differs s t =
    let positive = difference_line_positive s t in
    record { least = omega arith; greatest = omega arith; filed = refl; lined = ((λ e. omega arith), λ e. omega arith) }

pub checked-refuses : (problem theory derivation claim : Bytes) (output work : List ℕ) → Refuses (Listed 19) (checked problem theory derivation claim output work)
unfolding checked
checked-refuses problem theory derivation claim output work =
    let shared : 18 ≤ 19 = omega arith in
    search (outcomes, unplaced, grounded-refuses, differs) depth 10

-- No refusal has number 0, so an answer's number is 0 exactly where a job accepts.

abbrev pub ZeroAccepts : Judged Ground → Type 0
ZeroAccepts J = ((answer_of J).number ≡ 0) ↔ ((G : Ground) × (J ≡ done G))

zero_accepts : {last : ℕ} {J : Judged Ground} → Refuses (Listed last) J → ZeroAccepts J
zero_accepts (never G) = ((λ e. (G, refl)), λ w. refl)
zero_accepts (only l) = ((λ e. absurd (omega arith)), λ w. let e = w.1 in cc)

pub replayed-accepts : (problem theory derivation : Bytes) (output work : List ℕ) → ZeroAccepts (replayed problem theory derivation output work)
replayed-accepts problem theory derivation output work = zero_accepts (replayed-refuses problem theory derivation output work)

pub checked-accepts : (problem theory derivation claim : Bytes) (output work : List ℕ) → ZeroAccepts (checked problem theory derivation claim output work)
checked-accepts problem theory derivation claim output work = zero_accepts (checked-refuses problem theory derivation claim output work)
