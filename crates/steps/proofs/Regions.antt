-- Parts of working memory: what a write to one part leaves in the others, and what it makes of the front.
-- Assumes nothing.
use Prim.Native.Nat.{ℕ, ◌+◌, ◌-◌, ◌≤◌, ◌<◌}
use native.Mathlib.Omega.{arith}
use mathlib.Core.Path.{◌≡◌, sym, ap, ap₂, ◌∙◌}
use Rattle.std.specs.Prelude.{Option}
use mathlib.Core.List.{List, ◌++◌, append-nil}
use borrow.Rule.Slice.PartMut.{put_mid, Post-is}
use mathlib.Core.Bool.{Bool}
use lib.ListN.{length, take, drop, length-drop}
use lib.Seq.{slice, drop-length, length-take-le, take_all, take-take, drop-drop, take-append-le, drop-append-add, drop_at, get_or-take}
use Rattle.words.specs.memory.Kinds.{skip}
use Rattle.words.specs.memory.Storing.{spliced}
use Rattle.words.proofs.memory.Kinds.{skip-within}
use Rattle.words.proofs.memory.Standing.{drop-take}
use Rattle.formula.specs.memory.Rewriting.{end_within, fit_words, rewritten_words}
use Rattle.formula.specs.declared.decide.Fit.{Fit}
use Rattle.steps.specs.memory.Held.{exchanged}

-- a part as the code takes it
pub slice_part : (work : List ℕ) (i j : ℕ) → i ≤ j → take (j - i) (drop i work) ≡ slice i j work
slice_part work i j h =
    let n = j - i in
    let e : j ≡ i + n = omega arith in
    sym (drop-take i n work) ∙ ap (λ (k : ℕ). slice i k work) (sym e)

-- A part at the front, written.
module _ (old new : List ℕ) (rows : ℕ) (room : rows ≤ length old) (same : length new ≡ length (take rows old)) where
  part_length : length new ≡ rows
  part_length = same ∙ length-take-le rows old room

  pub behind_front : (k : ℕ) → rows ≤ k → drop k (new ++ drop rows old) ≡ drop k old
  behind_front k h =
      let n = k - rows in
      let e : k ≡ length new + n = omega (arith, part_length) in
      let f : k ≡ rows + n = omega arith in
      ap (λ (i : ℕ). drop i (new ++ drop rows old)) e ∙ drop-append-add new (drop rows old) n ∙ drop-drop n rows old ∙ ap (λ (i : ℕ). drop i old) (sym f)

  pub within_front : (k : ℕ) → k ≤ rows → take k (new ++ drop rows old) ≡ take k new
  within_front k h = take-append-le k new (drop rows old) (omega (arith, part_length))

  pub slice_behind : (i j : ℕ) → rows ≤ i → i ≤ j → slice i j (new ++ drop rows old) ≡ slice i j old
  slice_behind i j h l = sym (slice_part (new ++ drop rows old) i j l) ∙ ap (take (j - i)) (behind_front i h) ∙ slice_part old i j l

-- A part at the end, written.
module _ (old new : List ℕ) (names : ℕ) (room : names ≤ length old) where
  front_length : length (take names old) ≡ names
  front_length = length-take-le names old room

  pub within_end : (k : ℕ) → k ≤ names → take k (take names old ++ new) ≡ take k old
  within_end k h = take-append-le k (take names old) new (omega (arith, front_length)) ∙ take-take k names old h

  pub end-part : drop names (take names old ++ new) ≡ new
  end-part = drop_at (take names old) new names front_length

  pub slice_before : (i j : ℕ) → j ≤ names → slice i j (take names old ++ new) ≡ slice i j old
  slice_before i j h = ap (drop i) (within_end j h)

-- What is done to the theory at the front of a longer list is done to the theory.
module _ (work : List ℕ) (full : ℕ) (room : full ≤ length work) where
  words-length : length (take full work) ≡ full
  words-length = length-take-le full work room

  pub spliced_front : (at end : ℕ) (new : List ℕ) → at ≤ full → spliced work at end full new ≡ exchanged (take full work) at end new
  spliced_front at end new h =
      ap₂ (λ (a b : List ℕ). a ++ (new ++ b)) (sym (take-take at full work h))
      (ap (drop end) (sym (take_all (length (take full work)) (take full work) (omega arith))))

  slice_front : (i j : ℕ) → j ≤ full → slice i j work ≡ slice i j (take full work)
  slice_front i j h = ap (drop i) (sym (take-take j full work h))

  end_front : (at : ℕ) → end_within work at full ≡ end_within (take full work) at (length (take full work))
  end_front at = ap (λ (s : List ℕ). at + skip (drop at s) 1) (sym (take_all (length (take full work)) (take full work) (omega arith)))

  end-inside : (at : ℕ) → at ≤ full → end_within work at full ≤ full
  end-inside at h = let k = skip-within (take full work) at 1 (omega (arith, words-length)) in omega (arith, words-length)

  rewritten_front : (decided : Option Fit) (at : ℕ) (flags : List Bool) → at < full
      → rewritten_words decided work at full flags ≡ rewritten_words decided (take full work) at (length (take full work)) flags
  unfolding rewritten_words
  rewritten_front decided at flags h =
      ap₂ (λ (w : ℕ) (s : List ℕ). fit_words decided w s flags) (sym (get_or-take full work at 0 h))
      (slice_front (at + 1) (end_within work at full) (end-inside at (omega arith)) ∙ ap (λ (e : ℕ). slice (at + 1) e (take full work)) (end_front at))

  pub made_front : (decided : Option Fit) (at : ℕ) (flags : List Bool) → at < full
      → spliced work at (end_within work at full) full (rewritten_words decided work at full flags)
      ≡ exchanged (take full work) at (end_within (take full work) at (length (take full work))) (rewritten_words decided (take full work) at (length (take full work)) flags)
  made_front decided at flags h =
      spliced_front at (end_within work at full) (rewritten_words decided work at full flags) (omega arith)
      ∙ ap₂ (λ (e : ℕ) (new : List ℕ). exchanged (take full work) at e new) (end_front at) (rewritten_front decided at flags h)

-- the part from a place to the end, as the code takes it and puts it back
pub part_end : (work : List ℕ) (names : ℕ) → take (length work - names) (drop names work) ≡ drop names work
part_end work names = let l = length-drop names work in take_all (length work - names) (drop names work) (omega arith)

pub put_end : (work new : List ℕ) (names : ℕ) → names ≤ length work → put_mid names (length work - names) work new ≡ take names work ++ new
put_end work new names h =
    ap (λ (s : List ℕ). take names work ++ (new ++ s)) (Post-is names (length work) work h ∙ drop-length work) ∙ ap (λ (s : List ℕ). take names work ++ s) (append-nil new)
