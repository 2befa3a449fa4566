-- A text is replayed exactly if it is the text of a derivation whose lines lead, one after the other, from the first state to the last: by what a line
-- says of its place, and what is left from each place. So with the rules each line is allowed, and with no rules the derivation itself is read.
-- Assumes nothing.
use Prim.Native.Nat.{ℕ, suc, ◌+◌, ◌<◌}
use native.Mathlib.Omega.{arith}
use mathlib.Core.Path.{◌≡◌, refl, ap, ◌∙◌}
use mathlib.Core.Logic.{◌↔◌}
use mathlib.Core.List.{List, [], ◌∷◌, ◌++◌, append-nil, append_assoc}
use mathlib.Core.Bool.{true}
use lib.ListN.{length, length-append}
use Rattle.grammar.specs.Bytes.{Bytes, bytes}
use Rattle.grammar.specs.Outcome.{Outcome, done, mapped, ◌>>=◌}
use Rattle.grammar.specs.Problem.{Problem}
use Rattle.grammar.specs.Derivation.{Derivation, RuleLine, rewrite, unsat, trivial, splitc, Line, step, footer, is_grounder, rule_line_fits, rule_lines_fit, line_fits, are_names, derivation_fits}
use Rattle.grammar.specs.Derivation.{rule_text, position_text, rule_line_text, line_text, version_text, grounder_text, rule_lines_text, derivation_text, read_line, read_version, read_grounder}
use Rattle.grammar.proofs.Laws.{and_left, and_right}
use Rattle.grammar.proofs.Outcome.{Allowed, allowed_mapped, allowed_bind, allowed_weaken, allowed_done, allowed_itself, bind_done}
use Rattle.grammar.proofs.Derivation.{reads-line, read_line_lem, reads-version, read_version_lem, reads-grounder, read_grounder_lem}
use Rattle.grammar.proofs.Lines.{Run, rest, more, run_more, RunsTo, read_text_exactly}
use Rattle.demands.specs.Theory.{State, stepped}
use Rattle.demands.specs.Steps.{Step, Steps, stop, go}
use Rattle.demands.specs.Replay.{Place, top, heading, among, bottom, Replayed, line_done, derivation_line, whole_derivation, derivation_from}
use Rattle.demands.specs.Written.{noted, grounder_of, written_of}
use Rattle.demands.proofs.Steps.{stepped-step, step-stepped}

-- Whatever a rule line does to a state.
module _ {S : Type 0} (move : S → RuleLine → Outcome ℕ S) where
  -- line after line, up to the first refusal
  abbrev pub moved : S → List RuleLine → Outcome ℕ S
  moved st [] = done st
  moved st (l ∷ ls) = move st l >>= λ u. moved u ls

  -- a derivation of that text, whose lines lead to what is told
  pub record Derived (first : S) (s : Bytes) (R : Replayed S) : Type 0 where
    pub derivation : Derivation
    pub fits : derivation_fits derivation ≡ true
    pub text : s ≡ derivation_text derivation
    pub leads : moved first derivation.lines ≡ done R.last
    pub counted : R.rules ≡ length derivation.lines
    pub listed : R.final ≡ derivation.final

  -- a line among the rule lines: one more, or the footer
  pub data Moves (st : S) (rules : ℕ) : Bytes → Place S → Bytes → Type 0 where
    moves : (l : RuleLine) (u : S) (t : Bytes) → rule_line_fits l ≡ true → move st l ≡ done u → Moves st rules (line_text (step l) ++ t) (among u (suc rules)) t
    closes : (names : List ℕ) (t : Bytes) → are_names names ≡ true → Moves st rules (line_text (footer names) ++ t) (bottom st rules names) t

  -- what is left from among the rule lines
  pub record Left (st : S) (rules : ℕ) (s : Bytes) (R : Replayed S) : Type 0 where
    pub lines : List RuleLine
    pub fits : rule_lines_fit lines ≡ true
    pub named : are_names R.final ≡ true
    pub text : s ≡ rule_lines_text lines (line_text (footer R.final))
    pub leads : moved st lines ≡ done R.last
    pub counted : R.rules ≡ rules + length lines

module _ {S : Type 0} (move : S → RuleLine → Outcome ℕ S) (first : S) where
  -- what a line says, by its place
  abbrev Says : Place S → Bytes → Place S → Bytes → Type 0
  Says top s u t = (u ≡ heading) × (s ≡ version_text ++ t)
  Says heading s u t = (g : Bytes) × (is_grounder g ≡ true) × (u ≡ among first 0) × (s ≡ grounder_text g ++ t)
  Says (among st rules) s u t = Moves move st rules s u t
  Says (bottom st rules names) s u t = ⊥

  line_done_lem : (st : S) (rules : ℕ) (l : Line) (t : Bytes) → line_fits l ≡ true → Allowed (λ u. Moves move st rules (line_text l ++ t) u t) (line_done move st rules l)
  line_done_lem st rules (step l) t e =
      allowed_mapped (λ u. move st l ≡ done u) (λ u. Moves move st rules (line_text (step l) ++ t) u t) (λ u. among u (suc rules)) (λ u m. moves l u t e m) (move st l)
      (allowed_itself (move st l))
  line_done_lem st rules (footer names) t e = closes names t e

  line_says : (place : Place S) (s : Bytes) → Allowed (λ p. Says place s p.0 p.1) (derivation_line move first place s)
  unfolding derivation_line
  line_says top s =
      allowed_bind (λ p. Unit {0} × (s ≡ version_text ++ p.1)) (λ p. Says top s p.0 p.1) (λ p. done (heading, p.1)) (λ p e. (refl, e.1)) (read_version s) (reads-version.sound s)
  line_says heading s =
      allowed_bind (λ p. (is_grounder p.0 ≡ true) × (s ≡ grounder_text p.0 ++ p.1)) (λ p. Says heading s p.0 p.1) (λ p. done (among first 0, p.1))
      (λ p e. (p.0, e.0, refl, e.1)) (read_grounder s) (reads-grounder.sound s)
  line_says (among st rules) s =
      allowed_bind (λ p. (line_fits p.0 ≡ true) × (s ≡ line_text p.0 ++ p.1)) (λ p. Moves move st rules s p.0 p.1)
      (λ p. mapped (λ u. (u, p.1)) (line_done move st rules p.0))
      (λ p e. allowed_mapped (λ u. Moves move st rules (line_text p.0 ++ p.1) u p.1) (λ q. Moves move st rules s q.0 q.1) (λ u. (u, p.1))
      (λ u m. rw e.1 m) (line_done move st rules p.0) (line_done_lem st rules p.0 p.1 e.0))
      (read_line s) (reads-line.sound s)
  line_says (bottom st rules names) s = tt

  -- what is left from a place
  abbrev Rest : Place S → Bytes → Replayed S → Type 0
  Rest top s R = Derived move first s R
  Rest heading s R = (g t : Bytes) × (is_grounder g ≡ true) × (s ≡ grounder_text g ++ t) × Left move first 0 t R
  Rest (among st rules) s R = Left move st rules s R
  Rest (bottom st rules names) s R = (s ≡ []) × (R ≡ record { last = st; rules = rules; final = names })

  -- From a run of lines to the derivation.

  moves_left : (st : S) (rules : ℕ) (s t : Bytes) (u : Place S) (R : Replayed S) → Moves move st rules s u t → Rest u t R → Left move st rules s R
  unfolding line_text
  moves_left st rules s t u R (moves l v r e m) left = record {
    lines = l ∷ left.lines;
    fits = rw (e, left.fits);
    named = left.named;
    text = ap (λ (x : Bytes). line_text (step l) ++ x) left.text;
    leads = rw m left.leads;
    counted = omega (arith, left.counted);
  }
  moves_left st rules s t u R (closes names r e) left = rw left.1 record {
    lines = [];
    fits = refl;
    named = e;
    text = rw left.0 (append-nil (line_text (footer names)));
    leads = refl;
    counted = omega arith;
  }

  derived : (s t : Bytes) (R : Replayed S) → s ≡ version_text ++ t → Rest heading t R → Derived move first s R
  unfolding derivation_text
  derived s t R e r = record {
    derivation = record { grounder = r.0; lines = r.4.lines; final = R.final };
    fits = rw (r.2, r.4.fits, r.4.named);
    text = e ∙ ap (λ (x : Bytes). version_text ++ x) (r.3 ∙ ap (λ (x : Bytes). grounder_text r.0 ++ x) r.4.text);
    leads = r.4.leads;
    counted = omega (arith, r.4.counted);
    listed = refl;
  }

  says_rest : (place u : Place S) (s t : Bytes) (R : Replayed S) → Says place s u t → Rest u t R → Rest place s R
  says_rest top u s t R e r = derived s t R e.1 (rw e.0 at r)
  says_rest heading u s t R e r = (e.0, t, e.1, e.3, rw e.2 at r)
  says_rest (among st rules) u s t R e r = moves_left st rules s t u R e r
  says_rest (bottom st rules names) u s t R e r = absurd e

  whole_rest : (place : Place S) (R : Replayed S) → whole_derivation place ≡ done R → Rest place [] R
  whole_rest top R e = let z : ◌≡◌ {A = ℕ} 0 1 = cc in absurd (omega arith)
  whole_rest heading R e = let z : ◌≡◌ {A = ℕ} 0 1 = cc in absurd (omega arith)
  whole_rest (among st rules) R e = let z : ◌≡◌ {A = ℕ} 0 1 = cc in absurd (omega arith)
  whole_rest (bottom st rules names) R e = (refl, cc)

  run_rest : (place last : Place S) (s : Bytes) (R : Replayed S) → Run (derivation_line move first) place s last → whole_derivation last ≡ done R → Rest place s R
  run_rest place last s R (rest v) e = whole_rest v R e
  run_rest place last s R (more v u w b r t l n) e =
      says_rest v u (b ∷ r) t R (allowed_done (λ p. Says v (b ∷ r) p.0 p.1) (derivation_line move first v (b ∷ r)) (u, t) (line_says v (b ∷ r)) l) (run_rest u w t R n e)

  -- From the derivation to a run of lines.

  length_behind : (w t : Bytes) → 0 < length w → length t < length (w ++ t)
  length_behind w t h = rw (length-append w t) (omega arith)

  length-line : (l : Line) → 0 < length (line_text l)
  unfolding line_text rule_line_text
  length-line (step (rewrite r p)) = rw (length-append (rule_text r) (bytes " @ " ++ (position_text p ++ bytes "\n"))) (omega arith)
  length-line (step (unsat p)) = omega arith
  length-line (step (trivial p)) = omega arith
  length-line (step (splitc p names)) = omega arith
  length-line (footer names) = omega arith

  says_shrinks : (place u : Place S) (s t : Bytes) → Says place s u t → length t < length s
  says_shrinks top u s t e = rw e.1 (length_behind version_text t (omega arith))
  says_shrinks heading u s t e = rw e.3 (length_behind (grounder_text e.0) t (omega arith))
  says_shrinks (among st rules) u s t (moves l v r e m) = length_behind (line_text (step l)) t (length-line (step l))
  says_shrinks (among st rules) u s t (closes names r e) = length_behind (line_text (footer names)) t (length-line (footer names))
  says_shrinks (bottom st rules names) u s t e = absurd e

  shrinks : (place : Place S) (s : Bytes) → Allowed (λ p. length p.1 < length s) (derivation_line move first place s)
  shrinks place s =
      allowed_weaken (λ p. Says place s p.0 p.1) (λ p. length p.1 < length s) (λ p e. says_shrinks place p.0 s p.1 e) (derivation_line move first place s) (line_says place s)

  read_moved : (l : RuleLine) (t : Bytes) (st u : S) (rules : ℕ) → rule_line_fits l ≡ true → move st l ≡ done u
      → derivation_line move first (among st rules) (line_text (step l) ++ t) ≡ done (among u (suc rules), t)
  unfolding derivation_line
  read_moved l t st u rules f m = rw (read_line_lem (step l) t f, m)

  left-run : (lines : List RuleLine) (st last : S) (rules total : ℕ) (final : List ℕ) → rule_lines_fit lines ≡ true → are_names final ≡ true → moved move st lines ≡ done last
      → total ≡ rules + length lines → Run (derivation_line move first) (among st rules) (rule_lines_text lines (line_text (footer final))) (bottom last total final)
  unfolding derivation_line line_text
  left-run [] st last rules total final f n m e =
      let z : total ≡ rules = omega arith in
      let w : last ≡ st = cc in
      rw (z, w)
      (run_more 3 (derivation_line move first) whole_derivation shrinks (among st rules) (bottom st rules final) (bottom st rules final) (line_text (footer final)) []
      (rw (rw (append-nil (line_text (footer final))) at (read_line_lem (footer final) [] n)))
      (rest (bottom st rules final)))
  left-run (l ∷ ls) st last rules total final f n m e =
      let t = rule_lines_text ls (line_text (footer final)) in
      let (u, here, others) = bind_done (move st l) (λ u. moved move u ls) last m in
      run_more 3 (derivation_line move first) whole_derivation shrinks (among st rules) (among u (suc rules)) (bottom last total final) (line_text (step l) ++ t) t
      (read_moved l t st u rules (and_left (rule_line_fits l) _ f) here)
      (left-run ls u last (suc rules) total final (and_right (rule_line_fits l) _ f) n others (omega arith))

  derived_run : (s : Bytes) (R : Replayed S) → Derived move first s R → RunsTo (derivation_line move first) whole_derivation top s R
  unfolding derivation_line derivation_text
  derived_run s R d =
      let D = d.derivation in
      let g = D.grounder in
      let body = rule_lines_text D.lines (line_text (footer D.final)) in
      let fits = and_right (is_grounder g) _ d.fits in
      record {
        last = bottom R.last R.rules D.final;
        run = rw d.text
            (run_more 3 (derivation_line move first) whole_derivation shrinks top heading (bottom R.last R.rules D.final) (derivation_text D) (grounder_text g ++ body) (rw (read_version_lem (grounder_text g ++ body)))
            (run_more 3 (derivation_line move first) whole_derivation shrinks heading (among first 0) (bottom R.last R.rules D.final) (grounder_text g ++ body) body
            (rw (read_grounder_lem g body (and_left (is_grounder g) _ d.fits)))
            (left-run D.lines first R.last 0 R.rules D.final (and_left (rule_lines_fit D.lines) _ fits) (and_right (rule_lines_fit D.lines) _ fits) d.leads
            (omega (arith, d.counted)))));
        answer = rw d.listed;
      }

  pub derivation_from_exactly : (s : Bytes) (R : Replayed S) → (derivation_from move first s ≡ done R) ↔ Derived move first s R
  unfolding derivation_from
  derivation_from_exactly s R =
      let exactly = read_text_exactly 3 (derivation_line move first) whole_derivation shrinks top s R in
      ((λ e. let r = exactly.0 e in run_rest top r.last s R r.run r.answer), λ d. exactly.1 (derived_run s R d))

-- With the rules: each line is allowed.

module _ (P : Problem) where
  pub moved_steps : (ls : List RuleLine) (s u : State) → moved (stepped P) s ls ≡ done u → Steps P s ls u
  moved_steps [] s u e = let same : s ≡ u = cc in rw (← same) (stop s)
  moved_steps (l ∷ ls) s u e =
      let (v, here, others) = bind_done (stepped P s l) (λ v. moved (stepped P) v ls) u e in
      go s v u l ls (allowed_done (Step P s l) (stepped P s l) v (stepped-step P s l) here) (moved_steps ls v u others)

  pub steps_moved : {ls : List RuleLine} {s u : State} → Steps P s ls u → moved (stepped P) s ls ≡ done u
  steps_moved (stop s) = refl
  steps_moved (go s v u l ls allowed others) = rw (step-stepped P s v l allowed) (steps_moved others)

-- As it is written: the lines themselves.

moved_noted : (ls before : List RuleLine) → moved noted before ls ≡ done (before ++ ls)
moved_noted [] before = rw (append-nil before)
moved_noted (l ∷ ls) before = moved_noted ls (before ++ (l ∷ [])) ∙ rw (append_assoc before (l ∷ []) ls)

read_heading : (D : Derivation) → derivation_fits D ≡ true → grounder_of (derivation_text D) ≡ done D.grounder
unfolding derivation_text
read_heading D fits =
    let body = rule_lines_text D.lines (line_text (footer D.final)) in
    rw (read_version_lem (grounder_text D.grounder ++ body), read_grounder_lem D.grounder body (and_left (is_grounder D.grounder) _ fits))

pub written_of_exactly : (text : Bytes) (D : Derivation) → (written_of text ≡ done D) ↔ ((derivation_fits D ≡ true) × (text ≡ derivation_text D))
unfolding written_of
written_of_exactly text D = (there, λ (fits, e). back D fits e)
  where
    back : (E : Derivation) → derivation_fits E ≡ true → text ≡ derivation_text E → written_of text ≡ done E
    back E fits e =
        let R : Replayed (List RuleLine) = record { last = E.lines; rules = length E.lines; final = E.final } in
        let d : Derived noted [] text R = record { derivation = E; fits = fits; text = e; leads = moved_noted E.lines []; counted = refl; listed = refl } in
        rw ((derivation_from_exactly noted [] text R).1 d, e, read_heading E fits)

    -- whatever is read, some derivation has that text
    some : written_of text ≡ done D → (E : Derivation) × (derivation_fits E ≡ true) × (text ≡ derivation_text E)
    some e =
        let (R, read, others) = bind_done (derivation_from noted [] text) _ D e in
        let d = (derivation_from_exactly noted [] text R).0 read in
        (d.derivation, d.fits, d.text)

    there : written_of text ≡ done D → (derivation_fits D ≡ true) × (text ≡ derivation_text D)
    there e =
        let (E, fits, is) = some e in
        let same : E ≡ D = cc (e, back E fits is) in
        rw (← same) (fits, is)
