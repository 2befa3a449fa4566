-- What TRIVIAL, UNSAT and SPLITC ask of a formula in memory: its first word tells whether it is a truth value or an `&` of so many parts. Without that
-- word the parts' words are left, under the parts' names.
-- Assumes nothing.
use Prim.Native.Nat.{ℕ, suc, ◌+◌, ◌*◌, ◌≤◌}
use native.Mathlib.Omega.{arith}
use mathlib.Core.Path.{◌≡◌, refl, sym, ap, ◌∙◌}
use mathlib.Core.List.{List, [], ◌∷◌, ◌++◌}
use mathlib.Core.Bool.{Bool, true, false}
use lib.Dec.{eqb, leb}
use lib.ListN.{length, get_or, length-append}
use lib.Seq.{take-length}
use borrow.Author.Tests.{eq-eqb, ne_eqb, eqb-true, eqb-false, leb-true, leb-false, le-leb, lt-leb}
use Rattle.grammar.specs.Outcome.{done, refused, mapped, provided, ◌>>◌}
use Rattle.logic.specs.Formula.{term_count, all, any, negation, implies, implied_by, equivalent, junction}
use Rattle.logic.specs.Formula.{Formula, truth, atom, equal, connective, quantifier, Formulas, no_parts, part, parts_of}
use Rattle.logic.specs.Limits.{sizes_fit}
use Rattle.logic.specs.Rules.{is_truth}
use Rattle.demands.specs.Theory.{entry, Theory, formulas_of, names_of, named_parts, split, within}
use Rattle.demands.proofs.Theory.{names-append, length-names}
use Rattle.text.proofs.Places.{next-within}
use Rattle.words.specs.memory.Kinds.{kind_of}
use Rattle.words.specs.memory.Words.{part_total, words}
use Rattle.words.proofs.memory.Naming.{Naming, words_in}
use Rattle.words.proofs.memory.Words.{kind_truth, kind_atom, kind_equal, kind_connective, kind_quantifier}
use Rattle.formula.proofs.memory.Rewriting.{spliced_middle}
use Rattle.steps.specs.memory.Held.{held, exchanged, opened_in, is_value, is_split}
use Rattle.held.proofs.HeldWords.{live_words, held_of, words_append, words-few, within-names}
use Rattle.held.proofs.HeldTargets.{Located, located_words, located_names, located_stands}

-- a list of parts and as many names, or not
data Sharing (names : List ℕ) (fs : Formulas) : Type 0 where
  unequal : eqb (part_total fs) (length names) ≡ false → named_parts names fs ≡ refused 13 → Sharing names fs
  shared : (ts : Theory) → eqb (part_total fs) (length names) ≡ true → named_parts names fs ≡ done ts → names_of ts ≡ names → parts_of (formulas_of ts) ≡ fs
      → Sharing names fs

sharing : (names : List ℕ) (fs : Formulas) → Sharing names fs
sharing [] no_parts = shared [] refl refl refl refl
sharing [] (part f fs) = unequal (ne_eqb (suc (part_total fs)) 0 (λ e. omega arith)) refl
sharing (n ∷ ns) no_parts = unequal (ne_eqb 0 (suc (length ns)) (λ e. omega arith)) refl
sharing (n ∷ ns) (part f fs) = pick (sharing ns fs)
  where
    pick : Sharing ns fs → Sharing (n ∷ ns) (part f fs)
    pick (unequal d e) =
        unequal (ne_eqb (suc (part_total fs)) (suc (length ns)) (λ q. eqb-false (part_total fs) (length ns) d (omega arith))) (rw e)
    pick (shared ts d e names parts) =
        shared (entry n f ∷ ts) (eq-eqb (suc (part_total fs)) (suc (length ns)) (ap suc (eqb-true (part_total fs) (length ns) d))) (rw e)
        (ap (λ (ms : List ℕ). n ∷ ms) names) (ap (part f) parts)

module _ (N : Naming) where
  -- whether a formula is a truth value, by its first word
  pub truth-told : (b : Bool) (f : Formula) (rest : List ℕ) → is_value b (kind_of (get_or (words_in N f ++ rest) 0 0)) ≡ is_truth b f
  unfolding words
  truth-told b (truth c) rest = rw (kind_truth c)
  truth-told b (atom p ts) rest = rw (kind_atom (N.predicate_index p) (term_count ts) (N.small p))
  truth-told b (equal t u) rest = rw kind_equal
  truth-told b (connective o fs) rest = rw (kind_connective o (part_total fs))
  truth-told b (quantifier c x g f) rest = rw (kind_quantifier c (N.variable_index x))

  -- what SPLITC makes of a formula, by its first word
  pub data Split (names : List ℕ) (f : Formula) (word : ℕ) : Type 0 where
    unsplit : is_split (kind_of word) (length names) ≡ false → split names f ≡ refused 13 → Split names f word
    parted : (ts : Theory) (w : ℕ) → is_split (kind_of word) (length names) ≡ true → split names f ≡ done ts → names_of ts ≡ names
        → words_in N f ≡ w ∷ live_words N ts → Split names f word

  split_conjunction : (names : List ℕ) (fs : Formulas) → Split names (connective (junction all) fs) (part_total fs * 16 + 3)
  unfolding words
  split_conjunction [] no_parts = unsplit (rw (kind_connective (junction all) 0)) refl
  split_conjunction (n ∷ ns) no_parts =
      unsplit (rw (kind_connective (junction all) 0, ne_eqb (suc (length ns)) 0 (λ e. omega arith), ne_eqb 0 (suc (length ns)) (λ e. omega arith))) refl
  split_conjunction [] (part f fs) = unsplit (rw (kind_connective (junction all) (suc (part_total fs)))) refl
  split_conjunction (n ∷ ns) (part f fs) = pick (sharing (n ∷ ns) (part f fs))
    where
      told : is_split (kind_of (part_total (part f fs) * 16 + 3)) (length (n ∷ ns)) ≡ eqb (part_total (part f fs)) (length (n ∷ ns))
      told = rw (kind_connective (junction all) (part_total (part f fs)), ne_eqb (suc (length ns)) 0 (λ e. omega arith))

      pick : Sharing (n ∷ ns) (part f fs) → Split (n ∷ ns) (connective (junction all) (part f fs)) (part_total (part f fs) * 16 + 3)
      pick (unequal d e) = unsplit (told ∙ d) e
      pick (shared ts d e names parts) = parted ts (part_total (part f fs) * 16 + 3) (told ∙ d) e names (rw parts)

  pub split-told : (names : List ℕ) (f : Formula) (rest : List ℕ) → Split names f (get_or (words_in N f ++ rest) 0 0)
  unfolding words
  split-told names (truth b) rest = unsplit (rw (kind_truth b)) refl
  split-told names (atom p ts) rest = unsplit (rw (kind_atom (N.predicate_index p) (term_count ts) (N.small p))) refl
  split-told names (equal t u) rest = unsplit (rw kind_equal) refl
  split-told names (connective negation fs) rest = unsplit (rw (kind_connective negation (part_total fs))) refl
  split-told names (connective implies fs) rest = unsplit (rw (kind_connective implies (part_total fs))) refl
  split-told names (connective implied_by fs) rest = unsplit (rw (kind_connective implied_by (part_total fs))) refl
  split-told names (connective equivalent fs) rest = unsplit (rw (kind_connective equivalent (part_total fs))) refl
  split-told names (connective (junction all) fs) rest = split_conjunction names fs
  split-told names (connective (junction any) fs) rest = unsplit (rw (kind_connective (junction any) (part_total fs))) refl
  split-told names (quantifier c x g f) rest = unsplit (rw (kind_quantifier c (N.variable_index x))) refl

-- one more formula than are left
leb_next : (a b n : ℕ) → a ≡ suc b → leb a (suc n) ≡ leb b n
leb_next a b n e = pick (leb b n) refl
  where
    pick : (c : Bool) → leb b n ≡ c → leb a (suc n) ≡ c
    pick true h = le-leb a (suc n) (omega (arith, leb-true b n h))
    pick false h = lt-leb a (suc n) (omega (arith, leb-false b n h))

-- A formula of that name gives way to others, whose words are its own without the first.
module _ (N : Naming) {n : ℕ} {t : Theory} (l : Located n t) where
  pub located_word : get_or (live_words N t) (length (live_words N l.before)) 0 ≡ get_or (words_in N l.formula ++ live_words N l.after) 0 0
  located_word = next-within (live_words N t) (length (live_words N l.before)) ∙ ap (λ (s : List ℕ). get_or s 0 0) (located_stands N l)

  module _ (ts : Theory) (w : ℕ) (opens : words_in N l.formula ≡ w ∷ live_words N ts) where
    abbrev others : Theory
    others = l.before ++ (ts ++ l.after)

    opened_words : exchanged (live_words N t) (length (live_words N l.before)) (length (live_words N l.before) + 1) [] ≡ live_words N others
    opened_words =
        let was : live_words N t ≡ live_words N l.before ++ ((w ∷ []) ++ (live_words N ts ++ live_words N l.after)) = located_words N l ∙ rw opens in
        spliced_middle (live_words N t) (length (live_words N t)) (live_words N l.before) (w ∷ []) (live_words N ts ++ live_words N l.after)
        (take-length (live_words N t) ∙ was) []
        ∙ rw (words_append N l.before (ts ++ l.after), words_append N ts l.after)

    opened_names : exchanged (names_of t) (length l.before) (length l.before + 1) (names_of ts) ≡ names_of others
    opened_names =
        rw (← length-names l.before)
        (spliced_middle (names_of t) (length (names_of t)) (names_of l.before) (n ∷ []) (names_of l.after) (take-length (names_of t) ∙ located_names l) (names_of ts)
        ∙ rw (names-append l.before (ts ++ l.after), names-append ts l.after))

    words_fewer : length (live_words N others) ≤ length (live_words N t)
    words_fewer =
        rw (located_words N l, opens, words_append N l.before (ts ++ l.after), words_append N ts l.after)
        (simp length-append (omega arith))

    names_more : length (names_of t) + length (names_of ts) ≡ suc (length (names_of others))
    names_more =
        rw (located_names l, names-append l.before (ts ++ l.after), names-append ts l.after) (simp length-append (omega arith))

    -- 15
    pub opened_held : sizes_fit (formulas_of t) ≡ true → (top greatest : ℕ) (over : Bool)
        → (provided (leb (length (names_of t) + length (names_of ts)) 1025) 15
        >> opened_in (held (live_words N t) (names_of t) top over) (length l.before, length (live_words N l.before)) (names_of ts) greatest)
        ≡ mapped (held_of N) (within greatest others)
    unfolding opened_in
    opened_held fits top greatest over =
        let few : length (live_words N others) ≤ 4096 = omega (arith, words-few N t fits, words_fewer) in
        rw (leb_next (length (names_of t) + length (names_of ts)) (length (names_of others)) 1024 names_more, opened_words, opened_names) (sym (within-names N greatest others few))
