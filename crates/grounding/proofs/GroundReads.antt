-- The ground theory in memory is the definition's: the theory that was read begins the replay, and what the replay comes to in memory is what it comes to.
-- Assumes nothing.
use Prim.Native.Nat.{ℕ, zero, suc, ◌+◌, ◌-◌, ◌≤◌, ◌<◌}
use native.Mathlib.Omega.{arith}
use mathlib.Core.Path.{◌≡◌, refl, sym, ap, ap₂, subst, ◌∙◌}
use Rattle.std.specs.Prelude.{Result, Ok, Err}
use Rattle.std.specs.Result.{IsErrAnd, IfOk, IfErr}
use mathlib.Core.List.{List, ◌++◌}
use mathlib.Core.Bool.{false}
use borrow.Rule.Slice.PartMut.{put_mid}
use lib.ListN.{length, take, drop, length-drop}
use lib.Seq.{slice, take_at, drop_at, length-take-le}
use Rattle.grammar.specs.Bytes.{Bytes}
use Rattle.grammar.specs.Outcome.{done, refused, ◌>>=◌}
use Rattle.grammar.specs.Lines.{Judged, Refusal, refusal}
use Rattle.grammar.specs.Problem.{Problem, problem_of}
use Rattle.grammar.specs.Valid.{Valid}
use Rattle.grammar.proofs.Problem.{domain-few}
use Rattle.grammar.proofs.Outcome.{allowed_done}
use Rattle.grammar.proofs.ProblemText.{problem_of_valid}
use Rattle.logic.specs.Formula.{Formula}
use Rattle.logic.specs.Meaning.{count_from}
use Rattle.logic.proofs.Meaning.{length-count_from}
use Rattle.demands.specs.Theory.{formulas_of, names_of, live_theory, initial}
use Rattle.demands.specs.TheoryText.{theory_of}
use Rattle.demands.specs.Replay.{Replayed, derivation_from}
use Rattle.demands.specs.Ground.{Ground}
use Rattle.demands.specs.Answer.{grounded}
use Rattle.demands.proofs.Theory.{length-names, length-formulas}
use Rattle.table.specs.memory.Table.{problem_in}
use Rattle.table.specs.declared.table.Table.{Table}
use Rattle.table.proofs.Tables.{domain_in}
use Rattle.problem.specs.memory.ProblemLines.{ProblemFound}
use Rattle.terms.specs.memory.Entries.{predicate_index}
use Rattle.names.proofs.NameLists.{region_length}
use Rattle.terms.specs.declared.name_table.NameTable.{NameTable}
use Rattle.theory.specs.memory.TheoryReads.{TheoryFound}
use Rattle.theory.specs.declared.theory_reader.Theory.{Theory}
use Rattle.steps.specs.memory.Held.{Held, held, stepped_in, end_in}
use Rattle.steps.specs.memory.Steps.{live_names, rows_in, held_in, Arranged, Few}
use Rattle.steps.specs.memory.Memory.{rows_of, held_of as held_by}
use Rattle.steps.specs.memory.Fault.{number}
use Rattle.steps.specs.declared.fault.Fault.{Fault}
use Rattle.steps.specs.declared.fault.Fault.TheVariants.{Malformed, Name, Path, Rule, Guard, Size, Footer, Clause}
use Rattle.steps.specs.declared.live.Live.{Live}
use Rattle.steps.specs.declared.live.Layout.{Layout}
use Rattle.steps.specs.declared.memory.Memory.{Memory}
use Rattle.steps.proofs.Regions.{slice_part, within_front, slice_behind, within_end, end-part, slice_before, put_end}
use Rattle.held.proofs.HeldWords.{held_of}
use Rattle.held.proofs.HeldEnd.{lines-held}
use Rattle.held.proofs.HeldReplay.{Ends, held-ends, held-refused, Accepted, end-accepted, end_refused}
use Rattle.held.proofs.Begins.{Begun, begun}
use Rattle.grounding.specs.memory.Lines.{JudgedIn}
use Rattle.problem.specs.declared.fault.Fault.TheVariants as problem_fault
use Rattle.reading.specs.declared.fault.Fault.TheVariants as theory_fault
use Rattle.grounding.specs.declared.fault.Fault.{Fault as TextFault}
use Rattle.grounding.specs.declared.fault.Fault.TheVariants as text_fault
use Rattle.grounding.specs.declared.fault.Refusal.{Refusal as Refused}
use Rattle.grounding.specs.memory.Faults.{number_of, refusal_of}
use Rattle.grounding.specs.memory.Grounds.{GroundFound, GroundEither, GroundTold, judged_end, ended_in, EndEither, FirstNamed}
use Rattle.grounding.specs.declared.grounding.GroundMemory.{GroundMemory}

-- The live formulas of a theory that was read.
module _ (layout : Layout) (count full : ℕ) (old : List ℕ) (arranged : Arranged layout (length old)) (few : count ≤ 1024) (small : full ≤ 4096) where
  abbrev list : List ℕ
  list = count_from 1 count ++ drop count (take (length old - layout.names) (drop layout.names old))

  abbrev live : Live
  live = record { count = count; full = full; top = count; ended = false }

  abbrev named : List ℕ
  named = put_mid layout.names (length old - layout.names) old list

  abbrev room : layout.names ≤ length old
  room = omega (arith, arranged)

  pub first_holds : held_in layout live named ≡ held (take full old) (count_from 1 count) count false
  first_holds =
      let put = put_end old list layout.names room in
      let w : take full named ≡ take full old = ap (take full) put ∙ within_end old list layout.names room full (omega (arith, arranged)) in
      let n : take count (drop layout.names named) ≡ count_from 1 count =
      ap (λ (s : List ℕ). take count (drop layout.names s)) put ∙ ap (take count) (end-part old list layout.names room)
      ∙ take_at (count_from 1 count) (drop count (take (length old - layout.names) (drop layout.names old))) count (length-count_from count 1) in
      ap₂ (λ (u v : List ℕ). held u v count false) w n

  pub first_rows : rows_in layout named ≡ rows_in layout old
  first_rows =
      ap (λ (s : List ℕ). slice layout.rows layout.names s) (put_end old list layout.names room)
      ∙ slice_before old list layout.names room layout.rows layout.names (omega arith)

-- A derivation with its end.
module _ (table : Table) (rows : List ℕ) (m : Held) (s : Bytes) where
  abbrev replayed : JudgedIn
  replayed = derivation_from (stepped_in table rows) m s

  pub ended-refused : (r : Refusal) → replayed ≡ refused r → ended_in table rows m s ≡ refused r
  unfolding ended_in
  ended-refused r e = rw e

  module _ (R : Replayed Held) (e : replayed ≡ done R) where
    pub ended_zero : (n : ℕ) → n ≡ end_in table R.last R.final → n ≡ 0 → ended_in table rows m s ≡ done R
    unfolding ended_in
    ended_zero n f z = rw (e, ← f, z)

    pub ended-number : (n : ℕ) → n ≡ end_in table R.last R.final → (n ≡ 0 → ⊥) → ended_in table rows m s ≡ refused (refusal n 3 (R.rules + 3))
    unfolding ended_in
    ended-number n f some = rw (e, ← f) (pick n some)
      where
        pick : (k : ℕ) → (k ≡ 0 → ⊥) → judged_end k R ≡ refused (refusal k 3 (R.rules + 3))
        pick zero h = absurd (h refl)
        pick (suc k) h = refl

    -- the fault of the end, at the footer's line
    pub ended-fault : (fault : Fault) → end_in table R.last R.final ≡ number fault → (line : ℕ) → line ≡ R.rules + 3
        → ended_in table rows m s ≡ refused (refusal (number fault) 3 line)
    ended-fault fault f line l = ended-number (number fault) (sym f) (positive fault) ∙ rw l
      where
        positive : (fault : Fault) → number fault ≡ 0 → ⊥
        positive Malformed z = omega arith
        positive Name z = omega arith
        positive Path z = omega arith
        positive Rule z = omega arith
        positive Guard z = omega arith
        positive Size z = omega arith
        positive Footer z = omega arith
        positive Clause z = omega arith

  -- how it came to that
  data Way (r : Refusal) : Type 0 where
    early : replayed ≡ refused r → Way r
    late : (R : Replayed Held) → replayed ≡ done R → (n : ℕ) → end_in table R.last R.final ≡ suc n → r ≡ refusal (suc n) 3 (R.rules + 3) → Way r

  way : (r : Refusal) → ended_in table rows m s ≡ refused r → Way r
  unfolding ended_in
  way r e = pick replayed refl e
    where
      last : (R : Replayed Held) → replayed ≡ done R → (n : ℕ) → end_in table R.last R.final ≡ n → judged_end n R ≡ refused r → Way r
      last R f zero g h = let z : ◌≡◌ {A = ℕ} 0 1 = cc in absurd (omega arith)
      last R f (suc n) g h = let i : r ≡ refusal (suc n) 3 (R.rules + 3) = cc in late R f n g i

      pick : (o : JudgedIn) → replayed ≡ o → (o >>= λ R. judged_end (end_in table R.last R.final) R) ≡ refused r → Way r
      pick (done R) f g = last R f (end_in table R.last R.final) refl g
      pick (refused q) f g = let i : q ≡ r = cc in early (f ∙ rw i)

  record Whole (R : Replayed Held) : Type 0 where
    pub is : replayed ≡ done R
    pub zero_end : end_in table R.last R.final ≡ 0

  whole : (R : Replayed Held) → ended_in table rows m s ≡ done R → Whole R
  unfolding ended_in
  whole R e = pick replayed refl e
    where
      last : (Q : Replayed Held) → replayed ≡ done Q → (n : ℕ) → end_in table Q.last Q.final ≡ n → judged_end n Q ≡ done R → Whole R
      last Q f zero g h = let i : Q ≡ R = cc in record { is = f ∙ rw i; zero_end = rw i at g }
      last Q f (suc n) g h = let z : ◌≡◌ {A = ℕ} 0 1 = cc in absurd (omega arith)

      pick : (o : JudgedIn) → replayed ≡ o → (o >>= λ Q. judged_end (end_in table Q.last Q.final) Q) ≡ done R → Whole R
      pick (done Q) f g = last Q f (end_in table Q.last Q.final) refl g
      pick (refused q) f g = let z : ◌≡◌ {A = ℕ} 0 1 = cc in absurd (omega arith)

-- The theory and the derivation, where the problem is read.
module _ (problem theory derivation : Bytes) (table : Table) (rows : List ℕ) (is_problem : problem_of problem ≡ done (problem_in problem table rows)) (inside : table.inputs ≤ table.count) where
  abbrev P : Problem
  P = problem_in problem table rows

  valid : Valid P
  valid = allowed_done Valid (problem_of problem) P (problem_of_valid problem) is_problem

  pub theory_refused : (r : Refusal) → theory_of P theory ≡ refused r → grounded problem theory derivation ≡ refused r
  theory_refused r e = rw (is_problem, e)

  module _ {count full : ℕ} {names : NameTable} {work : List ℕ} (f : TheoryFound P theory (predicate_index problem table) count full names work) where
    abbrev T : List Formula
    T = f.formulas

    b : Begun problem table rows inside valid T (take full work) count
    b = begun problem table rows inside valid f

    abbrev first : Held
    first = held (take full work) (count_from 1 count) count false

    from_first : ended_in table rows first derivation ≡ ended_in table rows (held_of b.naming (initial T)) derivation
    from_first = ap (λ (m : Held). ended_in table rows m derivation) (sym b.holds)

    abbrev EndsAt : Replayed Held → Type 0
    EndsAt = Ends b.naming problem table rows inside valid b.index (initial T) b.sound derivation

    late_refused : (R : Replayed Held) → EndsAt R → (n : ℕ) → end_in table R.last R.final ≡ suc n → grounded problem theory derivation ≡ refused (refusal (suc n) 3 (R.rules + 3))
    late_refused R e n g =
        let h : suc n ≡ end_in table (held_of b.naming e.last) R.final = sym g ∙ ap (λ (m : Held). end_in table m R.final) e.holds in
        rw (is_problem, f.is, e.is)
        (end_refused b.naming problem table rows inside valid b.index e.last e.is_sound R.rules R.final (suc n) h (λ z. omega arith))

    pub end-stopped : (r : Refusal) → ended_in table rows first derivation ≡ refused r → grounded problem theory derivation ≡ refused r
    end-stopped r e = pick (way table rows (held_of b.naming (initial T)) derivation r (sym from_first ∙ e))
      where
        pick : Way table rows (held_of b.naming (initial T)) derivation r → grounded problem theory derivation ≡ refused r
        pick (early g) = rw (is_problem, f.is, held-refused b.naming problem table rows inside valid b.index (initial T) b.sound derivation r g)
        pick (late R g n z i) =
            late_refused R (held-ends b.naming problem table rows inside valid b.index (initial T) b.sound derivation R g) n z ∙ rw i

    module _ (layout : Layout) (live : Live) (last : List ℕ) (room : layout.names + 1024 ≤ length last) (lines : ℕ) (few : Few live) where
      ground-found : (final : List ℕ) → EndsAt (record { last = held_in layout live last; rules = lines; final = final })
          → end_in table (held_in layout live last) final ≡ 0 → GroundFound (grounded problem theory derivation) problem table lines live last
      ground-found final e z =
          let N = b.naming in
          let s = e.last in
          let a : Accepted N problem table rows inside valid b.index s e.is_sound lines final =
          end-accepted N problem table rows inside valid b.index s e.is_sound lines final (sym (ap (λ (m : Held). end_in table m final) e.holds) ∙ z) in
          let n : live_names layout live last ≡ names_of (live_theory s) = ap (λ (m : Held). m.names) e.holds in
          let w : take live.full last ≡ (held_of N s).words = ap (λ (m : Held). m.words) e.holds in
          let c : live.count ≡ length (names_of (live_theory s)) = sym (region_length last layout.names live.count (omega (arith, few))) ∙ ap length n in
          record {
            ground = record { formulas = formulas_of (live_theory s); rules = lines };
            is = rw (is_problem, f.is, e.is) a.is_done;
            rules = refl;
            formulas = c ∙ length-names (live_theory s) ∙ sym (length-formulas (live_theory s));
            text = sym (lines-held N problem table rows inside valid b.index s e.is_sound a.ground) ∙ rw (w, c);
            few = few;
          }

    pub theory_ground : (layout : Layout) (now : Live) (last : List ℕ) → layout.names + 1024 ≤ length last → (r : Result ℕ Refusal)
        → EndEither (ended_in table rows first derivation) layout r now last → GroundEither (grounded problem theory derivation) problem table r now last
    theory_ground layout now last enough (Ok lines) e =
        let R : Replayed Held = record { last = held_in layout now last; rules = lines; final = e.final } in
        let w = whole table rows (held_of b.naming (initial T)) derivation R (sym from_first ∙ e.is) in
        ground-found layout now last enough lines e.few e.final (held-ends b.naming problem table rows inside valid b.index (initial T) b.sound derivation R w.is) w.zero_end
    theory_ground layout now last enough (Err r) e = end-stopped r e

-- The theory's part of memory, written, and the names behind it.
module _ (layout : Layout) (old new : List ℕ) (arranged : Arranged layout (length old)) (same : length new ≡ length (take layout.rows old)) where
  abbrev mid : List ℕ
  mid = new ++ drop layout.rows old

  mid_rows : rows_in layout mid ≡ rows_in layout old
  mid_rows = slice_behind old new layout.rows (omega (arith, arranged)) same layout.rows layout.names (omega arith) arranged.names

  -- the derivation is replayed on the theory's words
  pub ended-first : (table : Table) (theory : Theory) → theory.full ≤ 4096 → (memory : Memory) → FirstNamed layout theory mid memory → (derivation : Bytes)
      → ended_in table (rows_of memory) (held_by memory) derivation
      ≡ ended_in table (rows_in layout old) (held (take theory.full new) (count_from 1 theory.count) theory.count false) derivation
  ended-first table theory small memory n derivation =
      let w : take theory.full mid ≡ take theory.full new = within_front old new layout.rows (omega (arith, arranged)) same theory.full (omega (arith, arranged)) in
      ap₂ (λ (r : List ℕ) (m : Held). ended_in table r m derivation) (n.rows ∙ mid_rows)
      (n.holds ∙ ap (λ (s : List ℕ). held s (count_from 1 theory.count) theory.count false) w)

-- the rows' part of memory, written
pub rows_read : (layout : Layout) (old new : List ℕ) → Arranged layout (length old) → length new ≡ length (take (layout.names - layout.rows) (drop layout.rows old))
    → rows_in layout (put_mid layout.rows (layout.names - layout.rows) old new) ≡ new
rows_read layout old new arranged same =
    let n = layout.names - layout.rows in
    let l = length-drop layout.rows old in
    let k : length new ≡ n = same ∙ length-take-le n (drop layout.rows old) (omega (arith, arranged)) in
    sym (slice_part (put_mid layout.rows n old new) layout.rows layout.names arranged.names)
    ∙ ap (take n) (drop_at (take layout.rows old) _ layout.rows (length-take-le layout.rows old (omega (arith, arranged)))) ∙ take_at new _ n k

-- A problem that was read.
module _ {problem : Bytes} {rows : List ℕ} {table : Table} (read : ProblemFound problem rows table) where
  pub problem-small : table.domain ≤ 64
  problem-small =
      rw (domain_in problem table rows read.inside) at (domain-few (allowed_done Valid (problem_of problem) (problem_in problem table rows) (problem_of_valid problem) read.is))

  pub problem_read : (other : List ℕ) → other ≡ rows → problem_of problem ≡ done (problem_in problem table other)
  problem_read other e = read.is ∙ rw e

-- A refusal is handed on.
pub handed_on : {A E : Type 0} (T : Result A E → Type 0) (r : Result A E) (e : E) → IsErrAnd r (λ x. x ≡ e) → T (Err e) → T r
handed_on T (Ok a) e gives t = absurd gives
handed_on T (Err f) e gives t = subst (λ x. T (Err x)) (sym gives) t

-- What is told of the ground theory, by its number: the result is found, or the refusal has a number.
module _ (judged : Judged Ground) (problem : Bytes) where
  pub record Told (r : Result GroundMemory Refused) : Type 0 where
    pub accepted : IfOk r (λ g. GroundFound judged problem g.grounded.table g.grounded.rules g.memory.live g.memory.work.now)
    pub refuses : IfErr r (λ e. judged ≡ refused (refusal_of e))
    pub positive : IfErr r (λ e. 0 < number_of e.fault)

  pub ground-told : (r : Result GroundMemory Refused) → GroundTold judged problem r → Told r
  ground-told (Ok g) t = record { accepted = t; refuses = tt; positive = tt }
  ground-told (Err e) t = record { accepted = tt; refuses = t; positive = numbered e.fault }
    where
      numbered : (f : TextFault) → 0 < number_of f
      numbered (text_fault.Problem problem_fault.Malformed) = omega arith
      numbered (text_fault.Problem problem_fault.Unfit) = omega arith
      numbered (text_fault.Theory theory_fault.Malformed) = omega arith
      numbered (text_fault.Theory theory_fault.Deep) = omega arith
      numbered (text_fault.Theory theory_fault.Unnamed) = omega arith
      numbered (text_fault.Theory theory_fault.Unnormal) = omega arith
      numbered (text_fault.Theory theory_fault.Over) = omega arith
      numbered (text_fault.Derivation Malformed) = omega arith
      numbered (text_fault.Derivation Name) = omega arith
      numbered (text_fault.Derivation Path) = omega arith
      numbered (text_fault.Derivation Rule) = omega arith
      numbered (text_fault.Derivation Guard) = omega arith
      numbered (text_fault.Derivation Size) = omega arith
      numbered (text_fault.Derivation Footer) = omega arith
      numbered (text_fault.Derivation Clause) = omega arith
