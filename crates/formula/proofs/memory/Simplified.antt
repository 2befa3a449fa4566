-- SNAND and SNOR in memory: a turn of the loops over a connective's parts, and what is left of the connective.
-- Assumes nothing.
use Prim.Native.Nat.{ℕ, zero, suc, ◌+◌, ◌*◌, ◌≤◌}
use native.Mathlib.Nat.{zero-add}
use native.Mathlib.Numerals.{add-one}
use native.Mathlib.Omega.{arith}
use mathlib.Core.Path.{◌≡◌, refl, sym, ap, ◌∙◌}
use mathlib.Core.List.{List, [], ◌∷◌, ◌++◌, append-nil}
use mathlib.Core.Bool.{Bool, true, false, cond}
use borrow.Author.Tests.{eq-eqb, ne_eqb}
use lib.Dec.{eqb}
use lib.ListN.{length, get_or, take, drop, length-append, length-take, length-drop}
use lib.Seq.{slice, drop-drop, take-take}
use Rattle.logic.specs.Formula.{junction}
use Rattle.text.proofs.Places.{next-within}
use Rattle.words.specs.memory.Kinds.{skip}
use Rattle.words.specs.memory.Words.{truth_word, connective_tag}
use Rattle.words.specs.memory.Stored.{side_of, after_first}
use Rattle.words.specs.memory.Storing.{Stores}
use Rattle.words.proofs.memory.Storing.{Ahead, ahead_start, ahead_turn, ahead_end, ahead_slice}
use Rattle.words.proofs.memory.Standing.{drop-take}
use Rattle.formula.specs.memory.Simplified.{starts_truth, truth_count, words_without, simplification, simplified_by, simplified_words}
use Rattle.formula.specs.declared.simplify.Simplified.{Simplified}
use Rattle.formula.specs.declared.simplify.Simplified.TheVariants.{Value, Parts}

-- One part more.

module _ (b : Bool) (work : List ℕ) (i n rest : ℕ) (more : n ≡ rest + 1) where
  truth_count-next : truth_count b n (drop i work) ≡ cond (eqb (get_or work i 0) (truth_word b)) 1 0 + truth_count b rest (drop (i + skip (drop i work) 1) work)
  unfolding truth_count
  truth_count-next = rw (more, add-one, next-within work i, drop-drop (skip (drop i work) 1) i work)

  pub truth_count-found : get_or work i 0 ≡ truth_word b → truth_count b n (drop i work) ≡ 1 + truth_count b rest (drop (i + skip (drop i work) 1) work)
  truth_count-found e = truth_count-next ∙ rw (eq-eqb (get_or work i 0) (truth_word b) e)

  pub truth_count_other : (get_or work i 0 ≡ truth_word b → ⊥) → truth_count b n (drop i work) ≡ truth_count b rest (drop (i + skip (drop i work) 1) work)
  truth_count_other e = truth_count-next ∙ rw (ne_eqb (get_or work i 0) (truth_word b) e) (zero-add _)

pub truth_count-none : (b : Bool) (s : List ℕ) (n : ℕ) → n ≡ 0 → truth_count b n s ≡ 0
unfolding truth_count
truth_count-none b s n e = rw e

-- `next` is the place after the first formula of the range from i to `end`
module _ (b : Bool) (work : List ℕ) (i end n rest next : ℕ) (more : n ≡ rest + 1) (past : next ≡ i + skip (slice i end work) 1) (within : next ≤ end) where
  pub words_without-next : words_without b n (slice i end work)
      ≡ cond (eqb (get_or (take end work) i 0) (truth_word b)) [] (slice i next work) ++ words_without b rest (slice next end work)
  unfolding words_without
  words_without-next = rw (more, add-one, next-within (take end work) i, ← range, past, drop-drop size i (take end work))
    where
      size : ℕ
      size = skip (slice i end work) 1

      range : take size (slice i end work) ≡ slice i next work
      range =
          rw past
          (sym (drop-take i size (take end work)) ∙ ap (drop i) (take-take (i + size) end work (rw past at within)))

  pub words_without_dropped : get_or (take end work) i 0 ≡ truth_word b → words_without b n (slice i end work) ≡ words_without b rest (slice next end work)
  words_without_dropped e = words_without-next ∙ rw (eq-eqb (get_or (take end work) i 0) (truth_word b) e)

  pub words_without-kept : (get_or (take end work) i 0 ≡ truth_word b → ⊥)
      → words_without b n (slice i end work) ≡ slice i next work ++ words_without b rest (slice next end work)
  words_without-kept e = words_without-next ∙ rw (ne_eqb (get_or (take end work) i 0) (truth_word b) e)

pub words_without-none : (b : Bool) (s : List ℕ) (n : ℕ) → n ≡ 0 → words_without b n s ≡ []
unfolding words_without
words_without-none b s n e = rw e

pub length-words_without : (b : Bool) (n : ℕ) (s : List ℕ) → length (words_without b n s) ≤ length s
unfolding words_without
length-words_without b zero s = omega arith
length-words_without b (suc n) s = rw length-append (pick (starts_truth b s) (length-words_without b n (after_first s)))
  where
    rest : ℕ
    rest = length (words_without b n (after_first s))

    pick : (d : Bool) → rest ≤ length (after_first s) → length (cond d [] (take (skip s 1) s)) + rest ≤ length s
    pick true h = omega (arith, length-drop (skip s 1) s)
    pick false h = omega (arith, length-drop (skip s 1) s, length-take (skip s 1) s)

-- What is stored.

module _ (every : Bool) (n : ℕ) (old : List ℕ) (at end : ℕ) {to next : ℕ} {first : List ℕ} (apart : end ≤ to) where
  pub value_stores : {seen : Simplified} → seen ≡ simplification every n (slice at end old) → (b : Bool) → seen ≡ Value b → {word : ℕ} → word ≡ truth_word b → Stores old to (word ∷ []) next first
      → Stores old to (simplified_words every n (slice at end old)) next first
  unfolding simplified_words
  value_stores so b e f s = rw (sym so ∙ e, ← f) s

  pub parts_stores : {seen : Simplified} → seen ≡ simplification every n (slice at end old) → (count : ℕ) → seen ≡ Parts count → {word : ℕ} → word ≡ count * 16 + connective_tag (junction (side_of every))
      → Stores old to (word ∷ []) next first
      → {last : ℕ} {work : List ℕ} → Stores first next (words_without every n (slice at end first)) last work
      → Stores old to (simplified_words every n (slice at end old)) last work
  unfolding simplified_words
  parts_stores so count e f s t =
      let whole = simplified_words every n (slice at end old) in
      let a : Ahead old to whole first next (words_without every n (slice at end old)) = ahead_turn (ahead_start old to whole) (rw (sym so ∙ e, f)) s in
      ahead_end (ahead_turn a (rw (ahead_slice a at end apart) (sym (append-nil _))) t) refl

pub simplified-near : (every : Bool) (n : ℕ) (s : List ℕ) → length (simplified_words every n s) ≤ 1 + length s
unfolding simplified_words
simplified-near every n s = pick (simplification every n s)
  where
    pick : (r : Simplified) → length (simplified_by every n s r) ≤ 1 + length s
    pick (Value b) = omega arith
    pick (Parts count) = let h = length-words_without every n s in omega arith
