-- What SNAND and SNOR make of the words of a connective is the words of what they make of the connective.
-- Assumes nothing.
use Prim.Native.Nat.{ℕ, suc, ◌+◌, ◌-◌, ◌*◌, ◌/◌, ◌≤◌}
use native.Mathlib.Nat.{zero-add}
use native.Mathlib.Omega.{arith}
use mathlib.Core.Path.{◌≡◌, refl}
use mathlib.Core.List.{List, [], ◌∷◌, ◌++◌, append_assoc, append-nil}
use mathlib.Core.Bool.{Bool, true, false, cond, not, ◌||◌}
use borrow.Author.Tests.{ne_eqb}
use lib.Dec.{eqb}
use lib.ListN.{length, get_or, take, drop}
use lib.Seq.{slice, take-append_seam}
use Rattle.logic.specs.Formula.{Side, all, any, Connective, negation, implies, implied_by, equivalent, junction, term_count}
use Rattle.logic.specs.Formula.{Formula, truth, atom, equal, connective, quantifier, Formulas, no_parts, part, size}
use Rattle.logic.specs.Meaning.{unit}
use Rattle.logic.specs.Rules.{is_truth, has_truth, without, unless_none, simplified}
use Rattle.words.specs.memory.Kinds.{skip}
use Rattle.words.specs.memory.Words.{truth_word, connective_tag, quantifier_tag, part_total, words}
use Rattle.words.specs.memory.Stored.{side_of}
use Rattle.words.proofs.memory.Naming.{Naming, words_in, all_words_in}
use Rattle.words.proofs.memory.Words.{length-words, skip_first, after_first-words}
use Rattle.words.proofs.memory.Standing.{first-stands, others_stand}
use Rattle.formula.specs.memory.Simplified.{starts_truth, truth_count, words_without, simplification, simplified_by, simplified_words}
use Rattle.formula.specs.declared.simplify.Simplified.TheVariants.{Value, Parts}

-- the first word of a formula that is no truth value
not-truth : (b : Bool) (w : ℕ) → 2 ≤ w → eqb w (truth_word b) ≡ false
not-truth true w h = ne_eqb w 1 (λ e. omega arith)
not-truth false w h = ne_eqb w 0 (λ e. omega arith)

connective_high : (o : Connective) (n : ℕ) → 2 ≤ n * 16 + connective_tag o
connective_high negation n = omega arith
connective_high implies n = omega arith
connective_high implied_by n = omega arith
connective_high equivalent n = omega arith
connective_high (junction all) n = omega arith
connective_high (junction any) n = omega arith

quantifier_high : (c : Side) (x : ℕ) → 2 ≤ x * 16 + quantifier_tag c
quantifier_high all x = omega arith
quantifier_high any x = omega arith

module _ (N : Naming) (b : Bool) where
  starts_truth_lem : (f : Formula) (s : List ℕ) → starts_truth b (words_in N f ++ s) ≡ is_truth b f
  unfolding words
  starts_truth_lem (truth d) s = pick b d
    where
      pick : (b d : Bool) → eqb (truth_word d) (truth_word b) ≡ is_truth b (truth d)
      pick true true = refl
      pick true false = refl
      pick false true = refl
      pick false false = refl
  starts_truth_lem (atom p ts) s = not-truth b ((term_count ts * 256 + N.predicate_index p) * 16 + 10) (omega arith)
  starts_truth_lem (equal t u) s = not-truth b 11 (omega arith)
  starts_truth_lem (connective o fs) s = not-truth b (part_total fs * 16 + connective_tag o) (connective_high o (part_total fs))
  starts_truth_lem (quantifier c x g f) s = not-truth b (N.variable_index x * 16 + quantifier_tag c) (quantifier_high c (N.variable_index x))

  -- each part is dropped or stays
  truth_count-without : (fs : Formulas) (s : List ℕ) → truth_count b (part_total fs) (all_words_in N fs ++ s) + part_total (without b fs) ≡ part_total fs
  unfolding truth_count words
  truth_count-without no_parts s = refl
  truth_count-without (part f fs) s =
      rw (append_assoc, starts_truth_lem f (all_words_in N fs ++ s), after_first-words N f (all_words_in N fs ++ s)) (pick (is_truth b f) (truth_count-without fs s))
    where
      pick : (d : Bool) → truth_count b (part_total fs) (all_words_in N fs ++ s) + part_total (without b fs) ≡ part_total fs
          → cond d 1 0 + truth_count b (part_total fs) (all_words_in N fs ++ s) + part_total (cond d (without b fs) (part f (without b fs))) ≡ suc (part_total fs)
      pick true e = omega arith
      pick false e = omega arith

  truth_count_has : (fs : Formulas) (s : List ℕ) → eqb (truth_count b (part_total fs) (all_words_in N fs ++ s)) 0 ≡ not (has_truth b fs)
  unfolding truth_count words
  truth_count_has no_parts s = refl
  truth_count_has (part f fs) s =
      rw (append_assoc, starts_truth_lem f (all_words_in N fs ++ s), after_first-words N f (all_words_in N fs ++ s)) (pick (is_truth b f) (truth_count_has fs s))
    where
      pick : (d : Bool) → eqb (truth_count b (part_total fs) (all_words_in N fs ++ s)) 0 ≡ not (has_truth b fs)
          → eqb (cond d 1 0 + truth_count b (part_total fs) (all_words_in N fs ++ s)) 0 ≡ not (d || has_truth b fs)
      pick true h = ne_eqb (1 + truth_count b (part_total fs) (all_words_in N fs ++ s)) 0 (λ e. omega arith)
      pick false h = rw zero-add h

  first-words : (f : Formula) (s : List ℕ) → take (skip (words_in N f ++ s) 1) (words_in N f ++ s) ≡ words_in N f
  first-words f s = rw (skip_first N f s) (take-append_seam (words_in N f) s)

  words_without-words : (fs : Formulas) (s : List ℕ) → words_without b (part_total fs) (all_words_in N fs ++ s) ≡ all_words_in N (without b fs)
  unfolding words_without words
  words_without-words no_parts s = refl
  words_without-words (part f fs) s =
      let r = all_words_in N fs ++ s in
      rw (append_assoc, starts_truth_lem f r, first-words f r, after_first-words N f r, words_without-words fs s) (pick (is_truth b f))
    where
      pick : (d : Bool) → cond d [] (words_in N f) ++ all_words_in N (without b fs) ≡ all_words_in N (cond d (without b fs) (part f (without b fs)))
      pick true = refl
      pick false = refl

module _ (N : Naming) (c : Side) (fs : Formulas) where
  abbrev stay : Formulas
  stay = without (unit c) fs

  stay_count : part_total fs - truth_count (unit c) (part_total fs) (all_words_in N fs) ≡ part_total stay
  stay_count = let e = rw append-nil at (truth_count-without N (unit c) fs []) in omega arith

  -- the parts that stay, where none decides
  rest_words : (hs : Formulas) → words_without (unit c) (part_total fs) (all_words_in N fs) ≡ all_words_in N hs
      → simplified_by (unit c) (part_total fs) (all_words_in N fs) (cond (eqb (part_total hs) 0) (Value (unit c)) (Parts (part_total hs))) ≡ words_in N (unless_none c hs)
  unfolding words
  rest_words no_parts e = refl
  rest_words (part h hs) e = rw (ne_eqb (suc (part_total hs)) 0 (λ q. omega arith), e) (side c)
    where
      side : (d : Side) → (suc (part_total hs) * 16 + connective_tag (junction (side_of (unit d)))) ∷ all_words_in N (part h hs)
          ≡ (suc (part_total hs) * 16 + connective_tag (junction d)) ∷ all_words_in N (part h hs)
      side all = refl
      side any = refl

  pub simplified_words_lem : simplified_words (unit c) (part_total fs) (all_words_in N fs) ≡ words_in N (simplified c fs)
  unfolding simplified_words simplification words
  simplified_words_lem =
      rw (rw append-nil at (truth_count_has N (not (unit c)) fs []), stay_count) (pick (has_truth (not (unit c)) fs))
    where
      pick : (d : Bool)
          → simplified_by (unit c) (part_total fs) (all_words_in N fs)
          (cond (not d) (cond (eqb (part_total stay) 0) (Value (unit c)) (Parts (part_total stay))) (Value (not (unit c))))
          ≡ words_in N (cond d (truth (not (unit c))) (unless_none c stay))
      pick true = refl
      pick false = rest_words stay (rw append-nil at (words_without-words N (unit c) fs []))

  -- where the connective stands in memory
  pub simplified-stands : (work : List ℕ) (at end : ℕ) (rest : List ℕ) → drop at work ≡ words_in N (connective (junction c) fs) ++ rest
      → end ≡ at + size (connective (junction c) fs)
      → simplified_words (unit c) (get_or work at 0 / 16) (slice (at + 1) end work) ≡ words_in N (simplified c fs)
  unfolding words
  simplified-stands work at end rest stands ends =
      let others = all_words_in N fs in
      let long : end ≡ at + (1 + length others) = omega (arith, ends, length-words N (connective (junction c) fs)) in
      rw (first-stands work at _ others rest stands, payload c, others_stand work at _ others rest stands end long) simplified_words_lem
    where
      payload : (d : Side) → (part_total fs * 16 + connective_tag (junction d)) / 16 ≡ part_total fs
      payload all = omega arith
      payload any = omega arith
