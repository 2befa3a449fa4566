-- What the jobs answer and leave, from the end to the beginning: 18 and 19 by the cursor, the ground theory, the texts' lengths, working memory. One law
-- for each way that the code takes; the two jobs are one definition, with a claim to compare or without.
-- Assumes nothing.
use Prim.Native.Nat.{ℕ, ◌≤◌, ◌<◌}
use native.Mathlib.Omega.{arith}
use mathlib.Core.Path.{◌≡◌, refl, sym, ap, subst, ◌∙◌}
use mathlib.Core.List.{List, [], ◌++◌}
use mathlib.Core.Bool.{Bool, true, false, cond, ◌&&◌}
use lib.Dec.{eqb, leb}
use lib.ListN.{length, take, drop, replicate}
use Rattle.std.specs.Prelude.{Option, Some, None, Result, Ok, Err, is_some}
use Rattle.std.specs.Borrow.{Bor}
use borrow.Author.Tests.{le-leb, lt-leb, leb-true}
use Rattle.grammar.specs.Sizes.{text_size, work_size}
use Rattle.grammar.specs.Bytes.{Bytes}
use Rattle.grammar.specs.Outcome.{done, refused, provided, ◌>>◌}
use Rattle.grammar.specs.Lines.{Refusal as Refused, refusal, Judged}
use Rattle.grammar.proofs.Laws.{and_left, and_right}
use Rattle.demands.specs.Ground.{Ground, ground_text}
use Rattle.demands.specs.Answer.{difference_line, grounded, replayed, checked, answer_of, work_after, result_of, replay_result, check_result}
use Rattle.demands.specs.Promise.{Promise}
use Rattle.demands.specs.memory.Conclusions.{agreed, concluded_of, judged_of, short_of, answered_of}
use Rattle.demands.specs.declared.answer.Answer.{Answer}
use Rattle.demands.proofs.Demands.{ground-short}
use Rattle.printing.specs.declared.cursor.Cursor.{Cursor}
use Rattle.printing.specs.memory.Cursor.{Print, first_cursor, Prints}
use Rattle.printing.specs.memory.ClauseText.{clause_lines}
use Rattle.grounding.specs.memory.Faults.{refusal_of}
use Rattle.grounding.specs.memory.Grounds.{GroundFound}
use Rattle.grounding.specs.declared.fault.Refusal.{Refusal as GroundRefusal}
use Rattle.grounding.specs.declared.grounding.GroundMemory.{GroundMemory}
use Rattle.replay.specs.memory.Answers.{claimed, agreed_by, answer_by, Told, Concluded}
use Rattle.replay.specs.declared.job.Counts.{Counts}
use Rattle.replay.specs.declared.job.Refusal.{Refusal}
use Rattle.replay.specs.declared.job.Refusal.TheVariants.{Memory, Length, Text, Room, Claim}
use Rattle.replay.proofs.Printing.{counted-kept, counted-length, counted_same, counted-line, stored-text}

-- what is told of one judgement is told of the same in other words
pub told_same : {J K : Judged Ground} {output new : List ℕ} {r : Result Counts Refusal} → J ≡ K → Told K output r new → Told J output r new
told_same {J} {K} {output} {new} {r} e t = subst (λ (j : Judged Ground). Told j output r new) (sym e) t

-- a refusal leaves the output
pub told-refusal : {J : Judged Ground} {output new : List ℕ} {r : Result Counts Refusal} (x : Refused) → J ≡ refused x → answer_by r ≡ answer_of (refused x) → new ≡ output
    → Told J output r new
told-refusal x e a w = told_same e (record { is = a; written = w })

-- 18, 19, or accepted.

module _ (compare : Bool) (claim : Bytes) (output : List ℕ) (G : Ground) where
  concluded_long : length output < length (ground_text G) → concluded_of compare claim output G ≡ refused (refusal 18 0 0)
  concluded_long h = rw (lt-leb (length (ground_text G)) (length output) h)

  module _ (room : length (ground_text G) ≤ length output) where
    concluded_other : agreed compare claim (ground_text G) ≡ false
        → concluded_of compare claim output G ≡ refused (refusal 19 4 (difference_line claim (ground_text G)))
    concluded_other e = rw (le-leb (length (ground_text G)) (length output) room, e)

    concluded_all : agreed compare claim (ground_text G) ≡ true → concluded_of compare claim output G ≡ done G
    concluded_all e = rw (le-leb (length (ground_text G)) (length output) room, e)

-- the same print of a text in other words
print_as : {claim s text : Bytes} {store : Bool} {p q : Print} → s ≡ text → Prints claim store p text q → Prints claim store p s q
print_as e so = rw e so

-- what the cursor tells of a run without storing
module _ {claim text : Bytes} {output new : List ℕ} {cursor : Cursor} (so : Prints claim false (first_cursor, output) text (cursor, new))
    (G : Ground) (t : ground_text G ≡ text) (short : length (ground_text G) ≤ text_size) where
  kept : new ≡ output
  kept = counted-kept short (print_as t so)

  long : (cursor.length ≡ length (ground_text G)) × (length new ≡ length output)
  long = (counted-length short (print_as t so), ap length kept)

  told-agreed : (compare : Bool) → cond compare (cursor.same && eqb cursor.length (length claim)) true ≡ agreed compare claim (ground_text G)
  told-agreed compare = ap (λ (b : Bool). cond compare b true) (counted_same short (print_as t so))

-- from the cursor of a run without storing
module _ (compare : Bool) {claim text : Bytes} (counts : Counts) {output new : List ℕ} {cursor : Cursor}
    (so : Prints claim false (first_cursor, output) text (cursor, new)) where
  pub conclude_long : length new < cursor.length → Concluded compare claim text counts output (Err Room) new
  conclude_long h = record {
    told = λ G t u v short. told-refusal _ (concluded_long compare claim output G (omega (arith, long so G t short, h))) refl (kept so G t short);
  }

  module _ {agrees : Bool} (a : agrees ≡ cond compare (cursor.same && eqb cursor.length (length claim)) true) (room : cursor.length ≤ length new) where
    pub conclude_other : agrees ≡ false → Concluded compare claim text counts output (Err (Claim cursor.line)) new
    conclude_other o = record {
      told = λ G t u v short.
          told-refusal _ (concluded_other compare claim output G (omega (arith, long so G t short, room)) (sym (a ∙ told-agreed so G t short compare) ∙ o))
          (ap (λ (n : ℕ). answer_of (refused (refusal 19 4 n))) (counted-line short (print_as t so))) (kept so G t short);
    }

    -- and of another with storing
    pub conclude_all : {last : List ℕ} {end : Cursor} → agrees ≡ true → Prints claim true (first_cursor, new) text (end, last)
        → Concluded compare claim text counts output (Ok counts) last
    conclude_all {last} {end} o stored = record {
      told = λ G t u v short.
          let fits : length (ground_text G) ≤ length output = omega (arith, long so G t short, room) in
          told_same (concluded_all compare claim output G fits (sym (a ∙ told-agreed so G t short compare) ∙ o)) (record {
            is = rw (u, v);
            written = stored-text short (print_as t (rw (kept so G t short) at stored)) fits;
          });
    }

-- whether a text is the whole claim, by whether there is one
pub agreed_as : (cursor : Cursor) (claim : Option (Bor Bytes))
    → agreed_by cursor claim ≡ cond (is_some claim) (cursor.same && eqb cursor.length (length (claimed claim))) true
agreed_as cursor None = refl
agreed_as cursor (Some claim) = refl

-- The ground theory.

module _ (compare : Bool) (problem theory derivation claim : Bytes) (output : List ℕ) where
  pub judged-refused : (r : GroundRefusal) → grounded problem theory derivation ≡ refused (refusal_of r)
      → Told (judged_of compare problem theory derivation claim output) output (Err (Text r)) output
  judged-refused r e = told-refusal _ (rw e) refl refl

module _ (problem theory derivation : Bytes) (claim : Option (Bor Bytes)) (output : List ℕ) (g : GroundMemory)
    (f : GroundFound (grounded problem theory derivation) problem g.grounded.table g.grounded.rules g.memory.live g.memory.work.now) where
  pub judged_concluded : (r : Result Counts Refusal) (new words : List ℕ) → words ≡ take g.memory.live.full g.memory.work.now
      → Concluded (is_some claim) (claimed claim) (clause_lines problem g.grounded.table 32 g.memory.live.count words) (record { rules = g.grounded.rules; formulas = g.memory.live.count }) output r new
      → Told (judged_of (is_some claim) problem theory derivation (claimed claim) output) output r new
  judged_concluded r new words e c =
      told_same (rw f.is) (c.told f.ground (rw e f.text) (sym f.rules) (sym f.formulas) (ground-short problem theory derivation f.ground f.is))

-- The texts' lengths.

both : {A : Type 0} (p q : Bool) (x : Refused) (k : Judged A) → (provided p x >> (provided q x >> k)) ≡ (provided (p && q) x >> k)
both true q x k = refl
both false q x k = refl

abbrev pub shorts : Bytes → Bytes → Bytes → Bytes → Bool
shorts problem theory derivation claim =
    leb (length problem) 65536 && (leb (length theory) 65536 && (leb (length derivation) 65536 && leb (length claim) 65536))

module _ (compare : Bool) (problem theory derivation claim : Bytes) (output : List ℕ) where
  short_all : short_of compare problem theory derivation claim output
      ≡ (provided (shorts problem theory derivation claim) (refusal 2 0 0) >> judged_of compare problem theory derivation claim output)
  unfolding text_size
  short_all =
      let p = leb (length problem) 65536 in
      let t = leb (length theory) 65536 in
      let d = leb (length derivation) 65536 in
      let c = leb (length claim) 65536 in
      let k = judged_of compare problem theory derivation claim output in
      let x = refusal 2 0 0 in
      ap (λ (o : Judged Ground). provided p x >> o) (ap (λ (o : Judged Ground). provided t x >> o) (both d c x k) ∙ both t (d && c) x k) ∙ both p (t && (d && c)) x k

  pub short-refused : shorts problem theory derivation claim ≡ false
      → Told (short_of compare problem theory derivation claim output) output (Err Length) output
  short-refused e = told-refusal (refusal 2 0 0) (short_all ∙ rw e) refl refl

  pub short-judged : (r : Result Counts Refusal) (new : List ℕ) → shorts problem theory derivation claim ≡ true
      → Told (judged_of compare problem theory derivation claim output) output r new → Told (short_of compare problem theory derivation claim output) output r new
  short-judged r new e t = told_same (short_all ∙ rw e) t

module _ (problem theory derivation claim : Bytes) (e : shorts problem theory derivation claim ≡ true) where
  pub shorts_each : (length problem ≤ 65536) × (length theory ≤ 65536) × (length derivation ≤ 65536)
  shorts_each =
      let p = leb (length problem) 65536 in
      let t = leb (length theory) 65536 in
      let d = leb (length derivation) 65536 in
      let c = leb (length claim) 65536 in
      let e' = and_right p (t && (d && c)) e in
      let e'' = and_right t (d && c) e' in
      (leb-true _ _ (and_left p (t && (d && c)) e), leb-true _ _ (and_left t (d && c) e'), leb-true _ _ (and_left d c e''))

-- Working memory.

-- what is told of an answer, with what is left
promised : (J : Judged Ground) (output work new left : List ℕ) (r : Result Counts Refusal) (answer : Answer) → answer ≡ answer_by r → Told J output r new → left ≡ work_after work
    → Promise (result_of J output work) answer new left
promised J output work new left r answer a t e = record { is = a ∙ t.is; written = t.written; left = e }

module _ (compare : Bool) (problem theory derivation claim : Bytes) (output work : List ℕ) (r : Result Counts Refusal) (answer : Answer) (a : answer ≡ answer_by r) where
  pub answer_little : length work < 16384 → r ≡ Err Memory
      → Promise (result_of (answered_of compare problem theory derivation claim output work) output work) answer output work
  unfolding work_size work_after
  answer_little h e =
      let l = lt-leb 16384 (length work) h in
      promised (answered_of compare problem theory derivation claim output work) output work output work r answer a (told-refusal (refusal 1 0 0) (rw l) (rw e) refl) (rw l)

  pub answer-enough : (size : ℕ) → size ≡ 16384 → size ≤ length work → (new left : List ℕ)
      → Told (short_of compare problem theory derivation claim output) output r new → left ≡ replicate size 0 ++ drop size work
      → Promise (result_of (answered_of compare problem theory derivation claim output work) output work) answer new left
  unfolding work_size work_after
  answer-enough size is h new left t after =
      let enough = le-leb 16384 (length work) (omega arith) in
      promised (answered_of compare problem theory derivation claim output work) output work new left r answer a (told_same (rw enough) t)
      (after ∙ ap (λ (n : ℕ). replicate n 0 ++ drop n work) is ∙ sym (rw enough))

-- The two jobs.

module _ (problem theory derivation : Bytes) (output work new left : List ℕ) (r : Answer) where
  pub check_promised : (claim : Bytes) → Promise (result_of (answered_of true problem theory derivation claim output work) output work) r new left
      → Promise (check_result problem theory derivation claim output work) r new left
  unfolding checked
  check_promised claim p = p

  pub replay_promised : Promise (result_of (answered_of false problem theory derivation [] output work) output work) r new left
      → Promise (replay_result problem theory derivation output work) r new left
  unfolding replayed text_size
  replay_promised p = p
