-- Where a rule line's position leads in memory is where it leads in the live formulas: the name's index is the formula's, and the path's place is where
-- the inner formula's words stand. By induction on the live formulas, and by the path.
-- Assumes nothing.
use Prim.Native.Nat.{ℕ, suc, ◌+◌}
use native.Mathlib.Omega.{arith}
use mathlib.Core.Path.{◌≡◌, refl, ap, ◌∙◌}
use mathlib.Core.List.{List, [], ◌∷◌, ◌++◌}
use mathlib.Core.Bool.{Bool, true, false}
use lib.Dec.{eqb}
use Rattle.std.specs.Prelude.{Option, Some, None}
use lib.ListN.{length, drop, length-append}
use lib.Seq.{drop-append_seam}
use borrow.Author.Tests.{eqb-true, eqb-false, eq-eqb, ne_eqb}
use Rattle.grammar.specs.Outcome.{Outcome, done, refused, mapped}
use Rattle.grammar.specs.Derivation.{Position}
use Rattle.grammar.proofs.Outcome.{mapped-mapped}
use Rattle.logic.specs.Formula.{Formula}
use Rattle.logic.specs.Rules.{Rewriting, at}
use Rattle.demands.specs.Theory.{Entry, entry, Theory, names_of, State, live, ended, live_theory, in_place, unless_ended, whole_only}
use Rattle.demands.specs.Steps.{position}
use Rattle.demands.proofs.Theory.{names-append, length-names}
use Rattle.words.specs.memory.Kinds.{skip}
use Rattle.words.specs.memory.Words.{words}
use Rattle.words.specs.memory.Paths.{place_of}
use Rattle.words.proofs.memory.Naming.{Naming, words_in}
use Rattle.words.proofs.memory.Inner.{Inner, Reached, walk_reached}
use Rattle.names.specs.memory.Names.{index_in}
use Rattle.names.proofs.NameLists.{index-none, index-here, index-later}
use Rattle.steps.specs.memory.Held.{reached, target_in, whole_in}
use Rattle.held.proofs.HeldWords.{live_words, held_of, words_append, skip-live}

-- The name.

module _ (n : ℕ) where
  -- a formula of that name, the first, and what stands around it
  pub record Located (t : Theory) : Type 0 where
    pub before : Theory
    pub formula : Formula
    pub after : Theory
    pub is : t ≡ before ++ (entry n formula ∷ after)
    pub first : index_in n (names_of t) ≡ length before
    pub replaced : (k : Formula → Outcome ℕ Theory) → in_place n k t ≡ mapped (λ ts. before ++ (ts ++ after)) (k formula)

  data Search (t : Theory) : Type 0 where
    missing : index_in n (names_of t) ≡ length (names_of t) → ((k : Formula → Outcome ℕ Theory) → in_place n k t ≡ refused 11) → Search t
    located : Located t → Search t

  search_here : (e : Entry) (es : Theory) → eqb e.name n ≡ true → Search (e ∷ es)
  search_here e es h =
      let same = eqb-true e.name n h in
      located (record {
        before = [];
        formula = e.formula;
        after = es;
        is = ap (λ (m : ℕ). entry m e.formula ∷ es) same;
        first = index-here n e.name (names_of es) same;
        replaced = λ k. rw h;
      })

  search_later : (e : Entry) (es : Theory) → eqb e.name n ≡ false → Search es → Search (e ∷ es)
  search_later e es h (missing i r) = missing (index-later n e.name (names_of es) (eqb-false e.name n h) ∙ ap suc i) (λ k. rw (h, r k))
  search_later e es h (located l) =
      located (record {
        before = e ∷ l.before;
        formula = l.formula;
        after = l.after;
        is = ap (λ (us : Theory). e ∷ us) l.is;
        first = index-later n e.name (names_of es) (eqb-false e.name n h) ∙ ap suc l.first;
        replaced = λ k. rw (h, l.replaced k) (mapped-mapped (λ (ts : Theory). e ∷ ts) (λ ts. l.before ++ (ts ++ l.after)) (k l.formula));
      })

  searched : (t : Theory) → Search t
  searched [] = missing (index-none n) (λ k. refl)
  searched (e ∷ es) = pick (eqb e.name n) refl (searched es)
    where
      pick : (b : Bool) → eqb e.name n ≡ b → Search es → Search (e ∷ es)
      pick true h r = search_here e es h
      pick false h r = search_later e es h r

-- what is refused for every formula with the number of a missing name
pub always_refused : (n : ℕ) (t : Theory) → in_place n (λ f. refused 11) t ≡ refused 11
always_refused n t = pick (searched n t)
  where
    pick : Search n t → in_place n (λ f. refused 11) t ≡ refused 11
    pick (missing i r) = r (λ f. refused 11)
    pick (located l) = l.replaced (λ f. refused 11)

module _ {n : ℕ} {t : Theory} (l : Located n t) where
  pub located_names : names_of t ≡ names_of l.before ++ (n ∷ names_of l.after)
  located_names = ap names_of l.is ∙ names-append l.before (entry n l.formula ∷ l.after)

  located_inside : length l.before ≡ length (names_of t) → ⊥
  located_inside e =
      let long = ap length located_names ∙ length-append (names_of l.before) (n ∷ names_of l.after) in
      omega (arith, length-names l.before)

module _ (N : Naming) {n : ℕ} {t : Theory} (l : Located n t) where
  pub located_words : live_words N t ≡ live_words N l.before ++ (words_in N l.formula ++ live_words N l.after)
  unfolding words
  located_words = ap (live_words N) l.is ∙ words_append N l.before (entry n l.formula ∷ l.after)

  located_start : skip (live_words N t) (length l.before) ≡ length (live_words N l.before)
  located_start = rw located_words (skip-live N l.before (words_in N l.formula ++ live_words N l.after))

  pub located_stands : drop (length (live_words N l.before)) (live_words N t) ≡ words_in N l.formula ++ live_words N l.after
  located_stands = rw located_words (drop-append_seam (live_words N l.before) (words_in N l.formula ++ live_words N l.after))

-- The name and the path.

module _ (N : Naming) (s : State) (p : Position) where
  pub data Aim : Type 0 where
    not_live : target_in (held_of N s) p ≡ refused 11 → ((k : Formula → Outcome ℕ Theory) → in_place p.name k (live_theory s) ≡ refused 11) → Aim
    nowhere : (l : Located p.name (live_theory s)) → target_in (held_of N s) p ≡ refused 12
        → ((k : Rewriting) → at p.path k l.formula ≡ refused 12) → Aim
    somewhere : (l : Located p.name (live_theory s)) (r : Inner N l.formula (λ k. at p.path k l.formula))
        → target_in (held_of N s) p ≡ done (length l.before, length (live_words N l.before) + length r.before) → Aim

  aim_missing : index_in p.name (names_of (live_theory s)) ≡ length (names_of (live_theory s)) → target_in (held_of N s) p ≡ refused 11
  unfolding target_in
  aim_missing e = rw (e, eq-eqb (length (names_of (live_theory s))) (length (names_of (live_theory s))) refl)

  module _ (l : Located p.name (live_theory s)) where
    abbrev start : ℕ
    start = length (live_words N l.before)

    aim_place : (place : Option ℕ) → place_of (live_words N (live_theory s)) p.path start ≡ place
        → target_in (held_of N s) p ≡ mapped (λ j. (length l.before, j)) (reached place)
    unfolding target_in
    aim_place place e =
        rw (l.first, ne_eqb (length l.before) (length (names_of (live_theory s))) (located_inside l), located_start N l, e)

    aim_located : Aim
    aim_located =
        pick (place_of w p.path start) refl (walk_reached N w p.path l.formula start (live_words N l.after) (located_stands N l))
      where
        w : List ℕ
        w = live_words N (live_theory s)

        pick : (place : Option ℕ) → place_of w p.path start ≡ place
            → Reached N l.formula (λ k. at p.path k l.formula) start place → Aim
        pick (Some j) e (r, h) = somewhere l r (aim_place (Some j) e ∙ ap (λ (i : ℕ). done (length l.before, i)) h)
        pick None e refuses = nowhere l (aim_place None e) refuses

  pub aimed : Aim
  aimed = pick (searched p.name (live_theory s))
    where
      pick : Search p.name (live_theory s) → Aim
      pick (missing i r) = not_live (aim_missing i) r
      pick (located l) = aim_located l

  -- The same for a rule that takes no path: it is refused with a number, or stands at the formula of that name.
  pub data Whole : Type 0 where
    never : (m : ℕ) → whole_in (held_of N s) p ≡ refused m
        → ((k : Formula → Outcome ℕ Theory) → in_place p.name (whole_only p.path (unless_ended s k)) (live_theory s) ≡ refused m) → Whole
    entire : (l : Located p.name (live_theory s)) → whole_in (held_of N s) p ≡ done (length l.before, length (live_words N l.before))
        → ((k : Formula → Outcome ℕ Theory) → in_place p.name (whole_only p.path (unless_ended s k)) (live_theory s)
        ≡ mapped (λ ts. l.before ++ (ts ++ l.after)) (k l.formula))
        → Whole

module _ (N : Naming) (n : ℕ) where
  whole_name : (s : State) → Search n (live_theory s) → Whole N s (position n [])
  unfolding whole_in place_of
  whole_name s (missing i r) = never 11 (rw (aim_missing N s (position n []) i)) (λ k. r (unless_ended s k))
  whole_name (live t top) (located l) =
      entire l (rw (aim_place N (live t top) (position n []) l (Some (length (live_words N l.before))) refl)) (λ k. l.replaced k)
  whole_name (ended m top) (located l) =
      never 13 (rw (aim_place N (ended m top) (position n []) l (Some (length (live_words N l.before))) refl)) (λ k. l.replaced (λ f. refused 13))

  whole_path : (s : State) (i : ℕ) (is : List ℕ) → Aim N s (position n (i ∷ is)) → Whole N s (position n (i ∷ is))
  unfolding whole_in
  whole_path s i is (not_live e r) = never 11 (rw e) (λ k. r (whole_only (i ∷ is) (unless_ended s k)))
  whole_path s i is (nowhere l e refuses) =
      never 12 (rw e) (λ k. l.replaced (whole_only (i ∷ is) (unless_ended s k)) ∙ rw (refuses (λ h. refused 13)))
  whole_path s i is (somewhere l r e) =
      never 13 (rw e) (λ k. l.replaced (whole_only (i ∷ is) (unless_ended s k)) ∙ rw (r.rewrite_put (λ h. refused 13)))

  whole_by : (s : State) (path : List ℕ) → Whole N s (position n path)
  whole_by s [] = whole_name s (searched n (live_theory s))
  whole_by s (i ∷ is) = whole_path s i is (aimed N s (position n (i ∷ is)))

pub aimed_whole : (N : Naming) (s : State) (p : Position) → Whole N s p
aimed_whole N s p = whole_by N p.name s p.path
