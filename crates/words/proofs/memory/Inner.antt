-- A path in memory leads where it leads in the formula, and a rule there changes the words of that one formula only: the words before it and after it stay.
-- Assumes nothing.
use Prim.Native.Nat.{ℕ, zero, suc, ◌+◌, ◌*◌, ◌≤◌, ◌<◌}
use native.Mathlib.Nat.{add-zero}
use native.Mathlib.Omega.{arith}
use mathlib.Core.Path.{◌≡◌, refl, sym, ap, subst, ◌∙◌}
use mathlib.Core.List.{List, [], ◌∷◌, ◌++◌, append_assoc, append-nil}
use mathlib.Core.Bool.{Bool, true, false}
use borrow.Author.Tests.{ltb-true, ltb-false}
use lib.Dec.{ltb}
use lib.ListN.{length, get_or, drop, length-append}
use lib.Seq.{drop-drop, drop-append_seam}
use Rattle.std.specs.Prelude.{Option, Some, None, option_and_then}
use Rattle.grammar.specs.Outcome.{Outcome, done, refused, mapped}
use Rattle.grammar.specs.Problem.{Name, Problem}
use Rattle.grammar.proofs.Outcome.{mapped-mapped}
use Rattle.logic.specs.Formula.{Side, Connective, Formula, truth, atom, equal, connective, quantifier, Formulas, no_parts, part, depth, depths, term_count}
use Rattle.logic.specs.Rules.{Rewriting, into_parts, into, at}
use Rattle.logic.proofs.WellFormed.{WellFormed, AllWellFormed, of_connective, of_quantifier, of_part}
use Rattle.text.proofs.Places.{next-within}
use Rattle.words.specs.memory.Kinds.{kind_of, skip}
use Rattle.words.specs.memory.Words.{connective_tag, quantifier_tag, part_total, words}
use Rattle.words.specs.memory.Paths.{subformula_count, place_below, place_of}
use Rattle.words.specs.declared.word.Kind.{Kind}
use Rattle.words.proofs.memory.Kinds.{skip-none}
use Rattle.words.proofs.memory.Naming.{Naming, words_in, all_words_in, Storable, AllStorable}
use Rattle.words.proofs.memory.Words.{length-words, skip-words, skip_first, kind_truth, kind_atom, kind_equal, kind_connective, kind_quantifier}
use Rattle.words.proofs.memory.Paths.{below_at, below_nowhere}

-- a formula is well formed, inside a guard or not, whatever is bound around it
pub data Well (P : Problem) (f : Formula) : Type 0 where
  well : {inside : Bool} {bound : Name → Bool} {levels : ℕ} → WellFormed P inside bound levels f → Well P f

data AllWell (P : Problem) (fs : Formulas) : Type 0 where
  all_well : {inside : Bool} {bound : Name → Bool} {levels : ℕ} → AllWellFormed P inside bound levels fs → AllWell P fs

-- A formula inside another, `rewrite k` being the outer one with k done to the inner one: what stands around it, as a formula and as words.
pub record Inner (N : Naming) (f : Formula) (rewrite : Rewriting → Outcome ℕ Formula) : Type 0 where
  pub inner : Formula
  pub put : Formula → Formula
  pub before : List ℕ
  pub after : List ℕ
  pub put_inner : put inner ≡ f
  pub rewrite_put : (k : Rewriting) → rewrite k ≡ mapped put (k inner)
  pub words_put : (h : Formula) → words_in N (put h) ≡ before ++ (words_in N h ++ after)
  pub inner_depth : depth inner ≤ depth f
  pub inner_storable : Storable N f → Storable N inner
  pub inner_well : (P : Problem) → Well P f → Well P inner

-- The same for a list of parts.
record InnerPart (N : Naming) (fs : Formulas) (i : ℕ) : Type 0 where
  pub inner : Formula
  pub put : Formula → Formulas
  pub before : List ℕ
  pub after : List ℕ
  pub put_inner : put inner ≡ fs
  pub rewrite_put : (k : Rewriting) → into_parts fs i k ≡ mapped put (k inner)
  pub words_put : (h : Formula) → all_words_in N (put h) ≡ before ++ (words_in N h ++ after)
  pub total_put : (h : Formula) → part_total (put h) ≡ part_total fs
  pub skip-before : (s : List ℕ) → skip (all_words_in N fs ++ s) i ≡ length before
  pub inner_depth : depth inner ≤ depths fs
  pub inner_storable : AllStorable N fs → Storable N inner
  pub inner_well : (P : Problem) → AllWell P fs → Well P inner

mapped-same : {A : Type 0} (o : Outcome ℕ A) → o ≡ mapped (λ a. a) o
mapped-same (done a) = refl
mapped-same (refused e) = refl

part-refused : (fs : Formulas) (i : ℕ) (k : Rewriting) → part_total fs ≤ i → into_parts fs i k ≡ refused 12
part-refused no_parts i k h = refl
part-refused (part f fs) zero k h = absurd (omega arith)
part-refused (part f fs) (suc i) k h = ap (mapped (part f)) (part-refused fs i k (omega arith))

-- What is well formed is so in its parts.
first_well : {P : Problem} {f : Formula} {fs : Formulas} → AllWell P (part f fs) → Well P f
first_well (all_well (of_part v vs)) = well v

others_well : {P : Problem} {f : Formula} {fs : Formulas} → AllWell P (part f fs) → AllWell P fs
others_well (all_well (of_part v vs)) = all_well vs

parts_well : {P : Problem} {o : Connective} {fs : Formulas} → Well P (connective o fs) → AllWell P fs
parts_well (well (of_connective l vs)) = all_well vs

pub guard_well : {P : Problem} {c : Side} {x : Name} {g f : Formula} → Well P (quantifier c x g f) → Well P g
guard_well (well (of_quantifier l v u)) = well v

body_well : {P : Problem} {c : Side} {x : Name} {g f : Formula} → Well P (quantifier c x g f) → Well P f
body_well (well (of_quantifier l v u)) = well u

module _ (N : Naming) where
  part_inner : (fs : Formulas) (i : ℕ) → i < part_total fs → InnerPart N fs i
  unfolding words depth
  part_inner no_parts i h = absurd (omega arith)
  part_inner (part f fs) zero h = record {
    inner = f;
    put = λ g. part g fs;
    before = [];
    after = all_words_in N fs;
    put_inner = refl;
    rewrite_put = λ k. refl;
    words_put = λ g. refl;
    total_put = λ g. refl;
    skip-before = λ s. skip-none _;
    inner_depth = omega arith;
    inner_storable = λ w. w.0;
    inner_well = λ P w. first_well w;
  }
  part_inner (part f fs) (suc i) h =
      let r = part_inner fs i (omega arith) in
      record {
        inner = r.inner;
        put = λ g. part f (r.put g);
        before = words_in N f ++ r.before;
        after = r.after;
        put_inner = ap (part f) r.put_inner;
        rewrite_put = λ k. ap (mapped (part f)) (r.rewrite_put k) ∙ mapped-mapped (part f) r.put (k r.inner);
        words_put = λ g. ap (λ (s : List ℕ). words_in N f ++ s) (r.words_put g) ∙ sym (append_assoc (words_in N f) r.before _);
        total_put = λ g. ap suc (r.total_put g);
        skip-before = λ s.
            ap (λ (u : List ℕ). skip u (suc i)) (append_assoc (words_in N f) (all_words_in N fs) s)
            ∙ skip-words N f i (all_words_in N fs ++ s)
            ∙ rw (r.skip-before s, length-append, length-words N f);
        inner_depth = omega (arith, r.inner_depth);
        inner_storable = λ w. r.inner_storable w.1;
        inner_well = λ P w. r.inner_well P (others_well w);
      }

  -- One level down.

  connective_inner : (o : Connective) (fs : Formulas) (i : ℕ) → InnerPart N fs i → Inner N (connective o fs) (λ k. into i k (connective o fs))
  unfolding words depth
  connective_inner o fs i r = record {
    inner = r.inner;
    put = λ g. connective o (r.put g);
    before = (part_total fs * 16 + connective_tag o) ∷ r.before;
    after = r.after;
    put_inner = ap (connective o) r.put_inner;
    rewrite_put = λ k. ap (mapped (connective o)) (r.rewrite_put k) ∙ mapped-mapped (connective o) r.put (k r.inner);
    words_put = λ g. rw (r.total_put g, r.words_put g);
    inner_depth = omega (arith, r.inner_depth);
    inner_storable = r.inner_storable;
    inner_well = λ P w. r.inner_well P (parts_well w);
  }

  guard_inner : (c : Side) (x : Name) (g f : Formula) → Inner N (quantifier c x g f) (λ k. into 0 k (quantifier c x g f))
  unfolding words depth
  guard_inner c x g f = record {
    inner = g;
    put = λ h. quantifier c x h f;
    before = (N.variable_index x * 16 + quantifier_tag c) ∷ [];
    after = words_in N f;
    put_inner = refl;
    rewrite_put = λ k. refl;
    words_put = λ h. refl;
    inner_depth = omega arith;
    inner_storable = λ w. w.1;
    inner_well = λ P w. guard_well w;
  }

  body_inner : (c : Side) (x : Name) (g f : Formula) → Inner N (quantifier c x g f) (λ k. into 1 k (quantifier c x g f))
  unfolding words depth
  body_inner c x g f = record {
    inner = f;
    put = λ h. quantifier c x g h;
    before = (N.variable_index x * 16 + quantifier_tag c) ∷ words_in N g;
    after = [];
    put_inner = refl;
    rewrite_put = λ k. refl;
    words_put = λ h. rw append-nil;
    inner_depth = omega arith;
    inner_storable = λ w. w.2;
    inner_well = λ P w. body_well w;
  }

-- what a place tells of a path from `start`: the inner formula stands there, or there is none
abbrev pub Reached : (N : Naming) (f : Formula) → (Rewriting → Outcome ℕ Formula) → ℕ → Option ℕ → Type 0
Reached N f rewrite start (Some j) = (r : Inner N f rewrite) × (j ≡ start + length r.before)
Reached N f rewrite start None = (k : Rewriting) → rewrite k ≡ refused 12

module _ (N : Naming) (work : List ℕ) where
  -- the word at a place, and what follows it
  module _ (start w : ℕ) (s : List ℕ) (stands : drop start work ≡ w ∷ s) where
    first_word : (k : Kind) → kind_of w ≡ k → kind_of (get_or work start 0) ≡ k
    first_word k e = ap kind_of (next-within work start ∙ ap (λ (u : List ℕ). get_or u 0 0) stands) ∙ e

    later-words : drop (start + 1) work ≡ s
    later-words = sym (drop-drop 1 start work) ∙ ap (drop 1) stands

    below_none : (f : Formula) (i : ℕ) (k : Kind) → kind_of w ≡ k → subformula_count k ≤ i → ((r : Rewriting) → into i r f ≡ refused 12)
        → Reached N f (λ r. into i r f) start (place_below work start i)
    below_none f i k e h refuses =
        subst (Reached N f (λ r. into i r f) start) (below_nowhere work start i (rw (first_word k e) h)) refuses

    below_some : (f : Formula) (i : ℕ) (k : Kind) → kind_of w ≡ k → i < subformula_count k → (r : Inner N f (λ r. into i r f))
        → (1 + skip s i ≡ length r.before) → Reached N f (λ r. into i r f) start (place_below work start i)
    below_some f i k e h r l =
        subst (Reached N f (λ r. into i r f) start) (below_at work start i (start + length r.before) (rw (first_word k e) h) (rw later-words (omega arith))) (r, refl)

  below_reached : (f : Formula) (i start : ℕ) (s : List ℕ) → drop start work ≡ words_in N f ++ s
      → Reached N f (λ k. into i k f) start (place_below work start i)
  unfolding words connective_inner guard_inner body_inner
  below_reached (truth b) i start s e = below_none start _ s e (truth b) i _ (kind_truth b) (omega arith) (λ k. refl)
  below_reached (atom p ts) i start s e =
      below_none start _ _ e (atom p ts) i _ (kind_atom (N.predicate_index p) (term_count ts) (N.small p)) (omega arith) (λ k. refl)
  below_reached (equal t u) i start s e = below_none start _ _ e (equal t u) i _ kind_equal (omega arith) (λ k. refl)
  below_reached (connective o fs) i start s e = pick (ltb i (part_total fs)) refl
    where
      pick : (b : Bool) → ltb i (part_total fs) ≡ b → Reached N (connective o fs) (λ k. into i k (connective o fs)) start (place_below work start i)
      pick true h =
          let low = ltb-true i (part_total fs) h in
          let r = part_inner N fs i low in
          below_some start _ _ e (connective o fs) i _ (kind_connective o (part_total fs)) low (connective_inner N o fs i r) (omega (arith, r.skip-before s))
      pick false h =
          let high = ltb-false i (part_total fs) h in
          below_none start _ _ e (connective o fs) i _ (kind_connective o (part_total fs)) high (λ k. ap (mapped (connective o)) (part-refused fs i k high))
  below_reached (quantifier c x g f) zero start s e =
      below_some start _ _ e (quantifier c x g f) 0 _ (kind_quantifier c (N.variable_index x)) (omega arith) (guard_inner N c x g f)
      (rw skip-none (omega arith))
  below_reached (quantifier c x g f) (suc zero) start s e =
      below_some start _ _ e (quantifier c x g f) 1 _ (kind_quantifier c (N.variable_index x)) (omega arith) (body_inner N c x g f)
      (rw (append_assoc, skip_first N g (words_in N f ++ s)) (omega arith))
  below_reached (quantifier c x g f) (suc (suc i)) start s e =
      below_none start _ _ e (quantifier c x g f) (suc (suc i)) _ (kind_quantifier c (N.variable_index x)) (omega arith) (λ k. refl)

  -- Along a path.

  inner_self : (f : Formula) → Inner N f (λ k. k f)
  inner_self f = record {
    inner = f;
    put = λ h. h;
    before = [];
    after = [];
    put_inner = refl;
    rewrite_put = λ k. mapped-same (k f);
    words_put = λ h. rw append-nil;
    inner_depth = omega arith;
    inner_storable = λ w. w;
    inner_well = λ P w. w;
  }

  inner_within : (f : Formula) (i : ℕ) (is : List ℕ) (a : Inner N f (λ k. into i k f)) → Inner N a.inner (λ k. at is k a.inner)
      → Inner N f (λ k. at (i ∷ is) k f)
  inner_within f i is a b = record {
    inner = b.inner;
    put = λ h. a.put (b.put h);
    before = a.before ++ b.before;
    after = b.after ++ a.after;
    put_inner = ap a.put b.put_inner ∙ a.put_inner;
    rewrite_put = λ k. a.rewrite_put (at is k) ∙ ap (mapped a.put) (b.rewrite_put k) ∙ mapped-mapped a.put b.put (k b.inner);
    words_put = λ h. a.words_put (b.put h) ∙ rw (b.words_put h) (simp append_assoc);
    inner_depth = omega (arith, a.inner_depth, b.inner_depth);
    inner_storable = λ w. b.inner_storable (a.inner_storable w);
    inner_well = λ P w. b.inner_well P (a.inner_well P w);
  }

  -- Where the words of f stand: the words before the inner formula, its own at its place, and those after it.
  module _ (f : Formula) (rewrite : Rewriting → Outcome ℕ Formula) (r : Inner N f rewrite) (start : ℕ) (s : List ℕ) (stands : drop start work ≡ words_in N f ++ s) where
    three_parts : drop start work ≡ r.before ++ (words_in N r.inner ++ (r.after ++ s))
    three_parts = stands ∙ ap (λ (g : Formula). words_in N g ++ s) (sym r.put_inner) ∙ rw (r.words_put r.inner) (simp append_assoc)

    pub inner_stands : drop (start + length r.before) work ≡ words_in N r.inner ++ (r.after ++ s)
    inner_stands = sym (drop-drop (length r.before) start work) ∙ rw three_parts (drop-append_seam r.before _)

  pub walk_reached : (path : List ℕ) (f : Formula) (start : ℕ) (s : List ℕ) → drop start work ≡ words_in N f ++ s
      → Reached N f (λ k. at path k f) start (place_of work path start)
  unfolding place_of inner_self inner_within
  walk_reached [] f start s e = (inner_self f, sym (add-zero start))
  walk_reached (i ∷ is) f start s e = pick (place_below work start i) (below_reached f i start s e) (λ g j u h. walk_reached is g j u h)
    where
      pick : (p : Option ℕ) → Reached N f (λ k. into i k f) start p
          → ((g : Formula) (j : ℕ) (u : List ℕ) → drop j work ≡ words_in N g ++ u → Reached N g (λ k. at is k g) j (place_of work is j))
          → Reached N f (λ k. at (i ∷ is) k f) start (option_and_then (place_of work is) p)
      pick None refuses go = λ k. refuses (at is k)
      pick (Some j) (a, h) go = further (place_of work is j) (go a.inner j (a.after ++ s) (rw h (inner_stands f (λ k. into i k f) a start s e)))
        where
          further : (p : Option ℕ) → Reached N a.inner (λ k. at is k a.inner) j p → Reached N f (λ k. at (i ∷ is) k f) start p
          further None refuses = λ k. a.rewrite_put (at is k) ∙ ap (mapped a.put) (refuses k)
          further (Some l) (b, m) = (inner_within f i is a b, rw length-append (omega arith))
