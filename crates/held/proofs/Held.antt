-- A rule line on what memory holds of the live formulas is the definition's rule line: where its position leads nowhere both are refused with one
-- number, and elsewhere by what the rule makes of the formula there. What this asks of the live formulas, each line keeps.
-- Assumes nothing.
use Prim.Native.Nat.{ℕ, suc, ◌+◌, ◌≤◌}
use native.Mathlib.Omega.{arith}
use mathlib.Core.Path.{◌≡◌, refl, sym, ap, ◌∙◌}
use mathlib.Core.List.{List, [], ◌∷◌, ◌++◌, append_assoc}
use mathlib.Core.Bool.{Bool, true, false}
use lib.Dec.{leb}
use lib.ListN.{length, get_or, length-append}
use borrow.Author.Tests.{le-leb}
use Rattle.grammar.specs.Sizes.{level_count}
use Rattle.grammar.specs.Bytes.{Bytes}
use Rattle.grammar.specs.Outcome.{Outcome, done, refused, mapped, provided, ◌>>=◌, ◌>>◌}
use Rattle.grammar.specs.Problem.{Name, Problem}
use Rattle.grammar.specs.Derivation.{Position, RuleLine, rewrite, unsat, trivial, splitc}
use Rattle.grammar.specs.Each.{Each}
use Rattle.grammar.specs.Valid.{Valid}
use Rattle.grammar.proofs.Problem.{domain-few}
use Rattle.grammar.proofs.Outcome.{Allowed, allowed_weaken, allowed_done}
use Rattle.logic.specs.Formula.{Formula, Formulas, no_parts, part, depth}
use Rattle.logic.specs.Limits.{sizes_fit}
use Rattle.logic.specs.Meaning.{count_from}
use Rattle.logic.specs.Rules.{is_truth, apply, at}
use Rattle.logic.proofs.Rules.{is_truth_true}
use Rattle.logic.proofs.Tables.{makes_at}
use Rattle.logic.proofs.WellFormed.{WellFormed_tested}
use Rattle.demands.specs.Theory.{entry, Theory, formulas_of, names_of, numbered, State, live, ended, live_theory, greatest_used, initial}
use Rattle.demands.specs.Theory.{unless_ended, removed, refuted, split, climbing, highest, within, stepped}
use Rattle.demands.specs.Steps.{Step, go, stop}
use Rattle.demands.proofs.Theory.{EachPart, each_at_lem, names-append}
use Rattle.demands.proofs.Steps.{stepped-step}
use Rattle.demands.proofs.Soundness.{Live, steps-every}
use Rattle.demands.proofs.Ground.{Well, formulas-numbered, steps-sized, steps_well}
use Rattle.table.specs.memory.Table.{position, table_names, problem_in}
use Rattle.table.specs.declared.table.Table.{Table}
use Rattle.derivation.specs.memory.RuleLines.{rule_of}
use Rattle.derivation.specs.declared.rule_line.Rule.{Rule}
use Rattle.words.specs.memory.Kinds.{kind_of}
use Rattle.words.specs.memory.Words.{words}
use Rattle.words.proofs.memory.Naming.{Naming, words_in, Storable, AllStorable}
use Rattle.words.proofs.memory.Inner.{Inner, well}
use Rattle.words.proofs.memory.Kept.{rule_storable}
use Rattle.steps.specs.memory.Held.{held, rewritten_in, opened_in, value_in, removed_in, is_split, split_in, refuted_in}
use Rattle.held.proofs.HeldWords.{is_over, theory_words, live_words, held_of, words_append, names-few, within-words}
use Rattle.held.proofs.HeldTargets.{Located, located_names, Aim, not_live, nowhere, somewhere, aimed, Whole, never, entire, aimed_whole, always_refused}
use Rattle.held.proofs.HeldRules.{put_in, made_held}
use Rattle.held.proofs.HeldWhole.{truth-told, Split, unsplit, parted, split-told, located_word, opened_held}

-- At the beginning.

names-numbered : (n : ℕ) (fs : List Formula) → names_of (numbered n fs) ≡ count_from n (length fs)
names-numbered n [] = refl
names-numbered n (f ∷ fs) = ap (λ (ns : List ℕ). n ∷ ns) (names-numbered (suc n) fs)

pub held_first : (N : Naming) (T : List Formula) → held_of N (initial T) ≡ held (theory_words N T) (count_from 1 (length T)) (length T) false
held_first N T = rw (formulas-numbered 1 T, names-numbered 1 T)

-- What is true of each formula is so of that of a name.
located_each : (Q : Formula → Type 0) {n : ℕ} {t : Theory} (l : Located n t) → Each Q (formulas_of t) → Q l.formula
located_each Q {n} l q = each_at_lem Q l.before l.after (entry n l.formula) (rw l.is at q)

-- The words around an inner formula of that name, whatever stands in its place.
module _ (N : Naming) {n : ℕ} {t : Theory} (l : Located n t) (path : List ℕ) (r : Inner N l.formula (λ k. at path k l.formula)) where
  abbrev words_before : List ℕ
  words_before = live_words N l.before ++ r.before

  abbrev words_after : List ℕ
  words_after = r.after ++ live_words N l.after

  put_words : (h : Formula) → live_words N (l.before ++ (entry n (r.put h) ∷ l.after)) ≡ words_before ++ (words_in N h ++ words_after)
  unfolding words
  put_words h = words_append N l.before (entry n (r.put h) ∷ l.after) ∙ rw (r.words_put h) (simp append_assoc)

  inner_words : live_words N t ≡ words_before ++ (words_in N r.inner ++ words_after)
  inner_words =
      ap (live_words N) (l.is ∙ ap (λ (f : Formula). l.before ++ (entry n f ∷ l.after)) (sym r.put_inner)) ∙ put_words r.inner

  put_names : (h : Formula) → names_of (l.before ++ (entry n h ∷ l.after)) ≡ names_of t
  put_names h = names-append l.before (entry n h ∷ l.after) ∙ sym (located_names l)

  -- 15, with another formula in its place
  put_held : sizes_fit (formulas_of t) ≡ true → (top : ℕ) (h : Formula)
      → mapped (held_of N) (within top (l.before ++ (entry n (r.put h) ∷ l.after)))
      ≡ put_in N words_before words_after (names_of t) top h
  put_held fits top h =
      within-words N top (l.before ++ (entry n (r.put h) ∷ l.after)) (rw (put_names (r.put h)) (names-few N t fits))
      ∙ rw (put_words h, put_names (r.put h))

module _ (N : Naming) (text : Bytes) (table : Table) (rows : List ℕ) (inside : table.inputs ≤ table.count)
    (valid : Valid (problem_in text table rows)) (index : (p : Name) → N.predicate_index p ≡ position p (table_names text table)) where
  abbrev P : Problem
  P = problem_in text table rows

  -- the live formulas are well formed, memory can hold them, and they are within the sizes
  pub record Sound (s : State) : Type 0 where
    pub wells : Live (Well P) s
    pub storables : Live (Storable N) s
    pub fits : sizes_fit (formulas_of (live_theory s)) ≡ true

  pub sound_first : (T : List Formula) → Each (Well P) T → Each (Storable N) T → sizes_fit T ≡ true → Sound (initial T)
  sound_first T w q e =
      let same = formulas-numbered 1 T in
      record { wells = rw same w; storables = rw same q; fits = rw same e }

  -- Rules at a path.

  module _ (rule : Rule) (p : Position) where
    -- what the formula of that name becomes
    abbrev becomes : State → Formula → Outcome ℕ Theory
    becomes s f = mapped (λ h. entry p.name h ∷ []) (at p.path (unless_ended s (apply P (rule_of rule))) f)

    rewritten_inner : (t : Theory) (top : ℕ) → Sound (live t top) → (l : Located p.name t) (r : Inner N l.formula (λ k. at p.path k l.formula))
        → (apply P (rule_of rule) r.inner >>= put_in N (words_before N l p.path r) (words_after N l p.path r) (names_of t) top)
        ≡ mapped (held_of N) (stepped P (live t top) (rewrite (rule_of rule) p))
    unfolding stepped
    rewritten_inner t top sound l r =
        rw (l.replaced (becomes (live t top)), r.rewrite_put (apply P (rule_of rule))) (pick (apply P (rule_of rule) r.inner))
      where
        pick : (o : Outcome ℕ Formula)
            → (o >>= put_in N (words_before N l p.path r) (words_after N l p.path r) (names_of t) top)
            ≡ mapped (held_of N) (mapped (λ ts. l.before ++ (ts ++ l.after)) (mapped (λ h. entry p.name h ∷ []) (mapped r.put o)) >>= within top)
        pick (done h) = sym (put_held N l p.path r sound.fits top h)
        pick (refused m) = refl

    rewritten_by : (s : State) → Sound s → Aim N s p → rewritten_in table rows (held_of N s) rule p ≡ mapped (held_of N) (stepped P s (rewrite (rule_of rule) p))
    unfolding rewritten_in stepped level_count
    rewritten_by s sound (not_live e r) = rw (e, r (becomes s))
    rewritten_by s sound (nowhere l e refuses) = rw (e, l.replaced (becomes s), refuses (unless_ended s (apply P (rule_of rule))))
    rewritten_by (ended m top) sound (somewhere l r e) = rw (e, l.replaced (becomes (ended m top)), r.rewrite_put (λ f. refused 13))
    rewritten_by (live t top) sound (somewhere l r e) =
        let is_well = located_each (Well P) l sound.wells in
        let low : depth r.inner ≤ 32 = omega (arith, r.inner_depth, (WellFormed_tested is_well).is_shallow) in
        rw (e, ← length-append (live_words N l.before) r.before)
        (made_held N text table rows inside valid index r.inner (r.inner_storable (located_each (Storable N) l sound.storables)) (r.inner_well P (well is_well)) low
        (live_words N t) (words_before N l p.path r) (words_after N l p.path r) (inner_words N l p.path r) rule (names_of t) top false
        ∙ rewritten_inner t top sound l r)

  pub rewritten_held : (s : State) → Sound s → (rule : Rule) (p : Position)
      → rewritten_in table rows (held_of N s) rule p ≡ mapped (held_of N) (stepped P s (rewrite (rule_of rule) p))
  rewritten_held s sound rule p = rewritten_by rule p s sound (aimed N s p)

  -- Rules without a path.

  module _ (s : State) (sound : Sound s) (p : Position) where
    removed_entire : (l : Located p.name (live_theory s)) (b : Bool) → is_truth true l.formula ≡ b
        → ((provided b 13 >> done (length l.before, length (live_words N l.before))) >>= λ t. opened_in (held_of N s) t [] (greatest_used s))
        ≡ mapped (held_of N) (mapped (λ ts. l.before ++ (ts ++ l.after)) (mapped (λ u. []) (provided b 13)) >>= within (greatest_used s))
    unfolding words
    removed_entire l true h =
        let few : length (names_of (live_theory s)) + 0 ≤ 1025 = omega (arith, names-few N (live_theory s) sound.fits) in
        let is = is_truth_true true l.formula h in
        rw (le-leb (length (names_of (live_theory s)) + 0) 1025 few) at (opened_held N l [] 1 (rw is) sound.fits (greatest_used s) (greatest_used s) (is_over s))
    removed_entire l false h = refl

    pub removed-held : removed_in (held_of N s) p ≡ mapped (held_of N) (stepped P s (trivial p))
    unfolding removed_in value_in stepped
    removed-held = pick (aimed_whole N s p)
      where
        pick : Whole N s p → removed_in (held_of N s) p ≡ mapped (held_of N) (stepped P s (trivial p))
        pick (never m e r) = rw (e, r removed)
        pick (entire l e r) =
            rw (e, r removed, located_word N l, truth-told N true l.formula (live_words N l.after)) (removed_entire l (is_truth true l.formula) refl)

    refuted_entire : (l : Located p.name (live_theory s)) (b : Bool)
        → let place : ℕ × ℕ = (length l.before, length (live_words N l.before)) in
        ((provided {E = ℕ} b 13 >> done place) >>= λ t. done (held (0 ∷ []) (p.name ∷ []) (greatest_used s) true))
        ≡ mapped (held_of N)
        (mapped (λ ts. l.before ++ (ts ++ l.after)) (mapped (λ u. []) (provided b 13)) >>= λ t. done (ended p.name (greatest_used s)))
    unfolding words
    refuted_entire l true = refl
    refuted_entire l false = refl

    pub refuted-held : refuted_in (held_of N s) p ≡ mapped (held_of N) (stepped P s (unsat p))
    unfolding refuted_in value_in stepped
    refuted-held = pick (aimed_whole N s p)
      where
        pick : Whole N s p → refuted_in (held_of N s) p ≡ mapped (held_of N) (stepped P s (unsat p))
        pick (never m e r) = rw (e, r refuted)
        pick (entire l e r) =
            rw (e, r refuted, located_word N l, truth-told N false l.formula (live_words N l.after)) (refuted_entire l (is_truth false l.formula))

    module _ (names : List ℕ) where
      split_entire : (l : Located p.name (live_theory s)) (word : ℕ) → Split N names l.formula word
          → (provided (is_split (kind_of word) (length names)) 13 >> (provided (leb (length (names_of (live_theory s)) + length names) 1025) 15
          >> opened_in (held_of N s) (length l.before, length (live_words N l.before)) names (highest (greatest_used s) names)))
          ≡ mapped (held_of N) (mapped (λ ts. l.before ++ (ts ++ l.after)) (split names l.formula) >>= within (highest (greatest_used s) names))
      split_entire l word (unsplit d e) = rw (d, e)
      split_entire l word (parted ts w d e same opens) =
          rw (d, e) (rw same at (opened_held N l ts w opens sound.fits (greatest_used s) (highest (greatest_used s) names) (is_over s)))

      split-climbing : Whole N s p → climbing (greatest_used s) names ≡ true → split_in (held_of N s) p names ≡ mapped (held_of N) (stepped P s (splitc p names))
      unfolding split_in stepped
      split-climbing (never m e r) c = rw (c, e, r (split names))
      split-climbing (entire l e r) c =
          rw (c, e, r (split names), located_word N l)
          (split_entire l (get_or (words_in N l.formula ++ live_words N l.after) 0 0) (split-told N names l.formula (live_words N l.after)))

      pub split-held : split_in (held_of N s) p names ≡ mapped (held_of N) (stepped P s (splitc p names))
      unfolding split_in stepped
      split-held = pick (climbing (greatest_used s) names) refl
        where
          pick : (b : Bool) → climbing (greatest_used s) names ≡ b → split_in (held_of N s) p names ≡ mapped (held_of N) (stepped P s (splitc p names))
          pick true c = split-climbing (aimed_whole N s p) c
          pick false c = rw (c, always_refused p.name (live_theory s))

  -- Every line keeps what is asked of the live formulas.

  parts_storable : (fs : Formulas) → AllStorable N fs → EachPart (Storable N) fs
  parts_storable no_parts q = tt
  parts_storable (part f fs) q = (q.0, parts_storable fs q.1)

  step_sound : (s u : State) (l : RuleLine) → Step P s l u → Sound s → Sound u
  step_sound s u l m sound =
      let one = go s u u l [] m (stop u) in
      record {
        wells = steps_well P s u (l ∷ []) one sound.wells;
        storables = steps-every P (Storable N)
            (λ r path f h e q. allowed_done (Storable N) (at path (apply P r) f) h (rule_storable N P (domain-few valid) r path f q) (makes_at P r e))
            (λ fs q. parts_storable fs q) tt s u (l ∷ []) one sound.storables;
        fits = steps-sized P s u (l ∷ []) one sound.fits;
      }

  pub stepped_sound : (s : State) → Sound s → (l : RuleLine) → Allowed Sound (stepped P s l)
  stepped_sound s sound l = allowed_weaken (Step P s l) Sound (λ u m. step_sound s u l m sound) (stepped P s l) (stepped-step P s l)
