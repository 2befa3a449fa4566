-- A turn of each loop of IQ in memory: over the words of a copy, over the elements, and over their flags.
-- Assumes nothing.
use Prim.Native.Nat.{ℕ, zero, suc, ◌+◌, ◌-◌, ◌*◌, ◌/◌, ◌%◌, ◌≤◌, ◌<◌}
use native.Mathlib.Nat.{zero-add}
use native.Mathlib.Numerals.{add-one, sub-one}
use native.Mathlib.Omega.{arith}
use mathlib.Core.Path.{◌≡◌, refl, sym, ap}
use mathlib.Core.List.{List, [], ◌∷◌, ◌++◌, append-nil}
use mathlib.Core.Bool.{Bool, true, false, cond, ◌&&◌, ◌||◌}
use borrow.Author.Tests.{ne_eqb}
use Rattle.std.specs.List.{count_by}
use Rattle.std.proofs.lemmas.List.Sums.{count_by-le-length}
use Rattle.std.proofs.lemmas.List.Recursion.{is_count_by}
use lib.Dec.{eqb}
use lib.ListN.{length, get_or, take, drop, length-append, length-take, length-drop}
use lib.Seq.{slice, slice_empty, slice-cons, drop-cons, drop-drop}
use Rattle.std.proofs.lemmas.List.{drop_all}
use Rattle.logic.specs.Formula.{junction}
use Rattle.words.specs.memory.Kinds.{kind_of, part_count, skip}
use Rattle.words.specs.memory.Words.{connective_tag}
use Rattle.words.specs.memory.Stored.{side_of, after_first}
use Rattle.words.specs.memory.Storing.{Stores}
use Rattle.words.proofs.memory.Storing.{Ahead, ahead_start, ahead_turn, ahead_end, ahead_slice}
use Rattle.formula.specs.memory.Instances.{word_with, held_after, words_with, copies, set_count, instantiated_words}

-- One word, by the tests of the code.

pub word_with_tested : (x v held word : ℕ) → word_with x v held word ≡ cond (eqb held 0 && eqb word (x * 16 + 13)) (v * 16 + 12) word
unfolding word_with
word_with_tested x v zero word = refl
word_with_tested x v (suc held) word = rw (ne_eqb (suc held) 0 (λ e. omega arith))

pub held_after_tested : (x held word : ℕ)
    → held_after x held word ≡ cond (eqb held 0) (cond (eqb word (x * 16 + 8) || eqb word (x * 16 + 9)) 2 0) (held - 1 + part_count (kind_of word))
unfolding held_after
held_after_tested x zero word = refl
held_after_tested x (suc held) word = rw (ne_eqb (suc held) 0 (λ e. omega arith), sub-one (suc held))

-- The words of a copy.

module _ (x v : ℕ) (s : List ℕ) (end held : ℕ) where
  pub words_with-next : (i : ℕ) → i < end → end ≤ length s
      → words_with x v (slice i end s) held ≡ (word_with x v held (get_or s i 0) ∷ []) ++ words_with x v (slice (i + 1) end s) (held_after x held (get_or s i 0))
  unfolding words_with
  words_with-next i h k = rw (slice-cons i end s 0 h k, add-one i)

  pub words_with-none : (i : ℕ) → i ≡ end → words_with x v (slice i end s) held ≡ []
  unfolding words_with
  words_with-none i e = rw (e, slice_empty end s)

pub length-words_with : (x v : ℕ) (s : List ℕ) (held : ℕ) → length (words_with x v s held) ≡ length s
unfolding words_with
length-words_with x v [] held = refl
length-words_with x v (word ∷ s) held = ap suc (length-words_with x v s (held_after x held word))

-- The elements, by their flags.

module _ (flags : List Bool) (i : ℕ) (x : ℕ) (s : List ℕ) where
  pub copies-next : i < length flags
      → copies (drop i flags) x s (i + 1) ≡ cond (get_or flags i false) (words_with x (i + 1) s 0) [] ++ copies (drop (i + 1) flags) x s (i + 1 + 1)
  unfolding copies
  copies-next h = rw (drop-cons flags i false h, add-one (i + 1), add-one i)

  pub copies-none : (v : ℕ) → length flags ≤ i → copies (drop i flags) x s v ≡ []
  unfolding copies
  copies-none v h = rw (drop_all i flags h)

-- as the library counts
pub set_count_by : (flags : List Bool) → set_count flags ≡ count_by (λ set. set) flags
unfolding set_count
set_count_by flags = is_count_by set_count (λ set. set) refl pick flags
  where
    pick : (set : Bool) (flags : List Bool) → set_count (set ∷ flags) ≡ cond set (1 + set_count flags) (set_count flags)
    pick true flags = refl
    pick false flags = zero-add _

pub set_count_few : (flags : List Bool) → set_count flags ≤ length flags
set_count_few flags = rw (set_count_by flags) (count_by-le-length (λ set. set) flags)

pub length-copies : (flags : List Bool) (x : ℕ) (s : List ℕ) (v : ℕ) → length s ≤ 16384 → length (copies flags x s v) ≤ length flags * 16384
unfolding copies
length-copies [] x s v h = omega arith
length-copies (chosen ∷ flags) x s v h = rw length-append (pick chosen (length-copies flags x s (suc v) h))
  where
    pick : (b : Bool) → length (copies flags x s (suc v)) ≤ length flags * 16384
        → length (cond b (words_with x v s 0) []) + length (copies flags x s (suc v)) ≤ suc (length flags) * 16384
    pick true k = let l = length-words_with x v s 0 in omega arith
    pick false k = omega arith

-- the copies of a range of memory
pub copies-near : (flags : List Bool) (x : ℕ) (work : List ℕ) (at end v : ℕ) → length work ≤ 16384
    → length (copies flags x (slice at end work) v) ≤ length flags * 16384
copies-near flags x work at end v h =
    let range : length (slice at end work) ≤ 16384 = simp (length-drop, length-take) (omega arith) in
    length-copies flags x (slice at end work) v range

-- what is stored for a quantifier: the connective's word, and the copies of the body from where the guard ends
module _ {old : List ℕ} (at end body word head : ℕ) (flags : List Bool) {to next : ℕ} {first : List ℕ}
    (apart : end ≤ to) (guarded : body ≡ at + 1 + skip (slice (at + 1) end old) 1) (counted : head ≡ set_count flags * 16 + connective_tag (junction (side_of (eqb (word % 16) 8))))
    (s : Stores old to (head ∷ []) next first) where
  started : Ahead old to (instantiated_words word (slice (at + 1) end old) flags) first next (copies flags (word / 16) (after_first (slice (at + 1) end old)) 1)
  unfolding instantiated_words
  started = ahead_turn (ahead_start old to (instantiated_words word (slice (at + 1) end old) flags)) (rw counted) s

  pub instantiated_stores : {last : ℕ} {work : List ℕ} → Stores first next (copies flags (word / 16) (slice body end first) 1) last work
      → Stores old to (instantiated_words word (slice (at + 1) end old) flags) last work
  instantiated_stores t =
      ahead_end
      (ahead_turn started
      (rw (ahead_slice started body end apart, guarded, drop-drop (skip (slice (at + 1) end old) 1) (at + 1) (take end old)) (sym (append-nil _)))
      t)
      refl

pub instantiated-near : (word : ℕ) (work : List ℕ) (at end : ℕ) (flags : List Bool) → length work ≤ 16384
    → length (instantiated_words word (slice at end work) flags) ≤ 1 + length flags * 16384
unfolding instantiated_words
instantiated-near word work at end flags h =
    let rest : length (after_first (slice at end work)) ≤ 16384 = simp (length-drop, length-take) (omega arith) in
    omega (arith, length-copies flags (word / 16) (after_first (slice at end work)) 1 rest)
