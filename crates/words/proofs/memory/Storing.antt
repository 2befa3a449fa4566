-- Stores one after the other. Each loop and each run of calls that stores has one invariant: what is to be stored in all is what memory holds now with what is still to come.
-- Assumes nothing.
use Prim.Native.Nat.{ℕ, zero, suc, ◌+◌, ◌-◌, ◌≤◌, ◌<◌, min}
use native.Mathlib.Nat.{zero-add, add-zero}
use native.Mathlib.Omega.{arith}
use mathlib.Core.Path.{◌≡◌, refl, sym, ap, ap₂, ◌∙◌}
use mathlib.Core.List.{List, [], ◌∷◌, ◌++◌, append_assoc, append-nil}
use lib.ListN.{length, get_or, take, drop, set, length-set, length-append, length-drop}
use lib.Seq.{slice, sets, paste, take-nil, length-slice, length-sets, sets-eq, take_at, drop_at, length-take-le, take-set-le, take-take, get_or-take}
use Rattle.std.proofs.lemmas.List.{set_past}
use Rattle.grammar.proofs.Laws.{sets_append}
use Rattle.words.specs.memory.Storing.{Stores, Copyable, spliced, Placed, Rewritten, Roomy, Fronted}
use Rattle.words.proofs.memory.Standing.{drop-take}

pub take_sets : (new l : List ℕ) (n i : ℕ) → n ≤ i → take n (sets l i new) ≡ take n l
take_sets [] l n i h = refl
take_sets (w ∷ new) l n i h = take_sets new (set l i w) n (suc i) (omega arith) ∙ take-set-le n l i w h

-- what has no room is not stored
sets_cut : (new l : List ℕ) (to n : ℕ) → min (length l - to) (length new) ≤ n → sets l to new ≡ sets l to (take n new)
sets_cut [] l to n h = rw take-nil
sets_cut (w ∷ new) l to zero h =
    let past : length l ≤ to = omega arith in
    let same = length-set l to w in
    sets_cut new (set l to w) (suc to) 0 (omega arith) ∙ set_past l to w past
sets_cut (w ∷ new) l to (suc n) h =
    let same = length-set l to w in
    sets_cut new (set l to w) (suc to) n (omega arith)

-- A range copied to another place is stored there, as far as there is room.
module _ {work : List ℕ} {at end to : ℕ} (c : Copyable work at end to) where
  pub copied_size : length (slice at end work) ≡ end - at
  copied_size = length-slice at end work c.within

  pub copied_none : length work ≤ to → sets work to (slice at end work) ≡ work
  copied_none past = let long = copied_size in sets_cut (slice at end work) work to 0 (omega arith)

  pub copied_some : (n : ℕ) → to < length work → n ≡ min (end - at) (length work - to) → sets work to (slice at end work) ≡ paste work to (drop at work) n
  copied_some n inside e =
      let long = copied_size in
      let ends : end ≡ at + (end - at) = omega (arith, c.ordered) in
      let first : take n (slice at end work) ≡ take n (drop at work) =
      ap (λ (k : ℕ). take n (drop at (take k work))) ends ∙ ap (take n) (drop-take at (end - at) work) ∙ take-take n (end - at) (drop at work) (omega arith) in
      let fits : length (take n (drop at work)) ≡ n = length-take-le n (drop at work) (omega (arith, c.within, length-drop at work)) in
      sets_cut (slice at end work) work to n (omega arith) ∙ rw first (sets-eq (take n (drop at work)) work to (omega arith) ∙ rw fits)

-- `whole` stored from `to` on in `old` is `rest` stored from `j` on in `work`, which is still as it was before `to`
pub record Ahead (old : List ℕ) (to : ℕ) (whole work : List ℕ) (j : ℕ) (rest : List ℕ) : Type 0 where
  pub stores : sets old to whole ≡ sets work j rest
  pub ends : to + length whole ≡ j + length rest
  pub kept : take to work ≡ take to old
  pub after : to ≤ j

pub ahead_start : (old : List ℕ) (to : ℕ) (whole : List ℕ) → Ahead old to whole old to whole
ahead_start old to whole = record { stores = refl; ends = refl; kept = refl; after = omega arith }

module _ {old : List ℕ} {to : ℕ} {whole work : List ℕ} {j : ℕ} {rest : List ℕ} (a : Ahead old to whole work j rest) where
  pub ahead_turn : {new later changed : List ℕ} {next : ℕ} → rest ≡ new ++ later → Stores work j new next changed → Ahead old to whole changed next later
  ahead_turn {new} {later} e s = record {
    stores = a.stores ∙ rw (e, s.holds, s.ends, ← sets_append work j new later);
    ends = a.ends ∙ rw (e, s.ends, length-append) (omega arith);
    kept = rw s.holds (take_sets new work to j a.after) ∙ a.kept;
    after = omega (arith, a.after, s.ends);
  }

  pub ahead_end : rest ≡ [] → Stores old to whole j work
  ahead_end e = record { holds = sym (rw e at a.stores); ends = sym (rw (e, add-zero) at a.ends) }

  pub ahead_length : length work ≡ length old
  ahead_length = sym (length-sets work j rest) ∙ sym (ap length a.stores) ∙ length-sets old to whole

  -- what stands before `to` can still be read

  pub ahead_read : (i : ℕ) → i < to → get_or work i 0 ≡ get_or old i 0
  ahead_read i h = sym (get_or-take to work i 0 h) ∙ ap (λ (l : List ℕ). get_or l i 0) a.kept ∙ get_or-take to old i 0 h

  pub ahead_take : (n : ℕ) → n ≤ to → take n work ≡ take n old
  ahead_take n h = sym (take-take n to work h) ∙ ap (take n) a.kept ∙ take-take n to old h

  pub ahead_slice : (at end : ℕ) → end ≤ to → slice at end work ≡ slice at end old
  ahead_slice at end h = ap (drop at) (ahead_take end h)

-- The next theory: what stands before the formula, what is made of the formula, and what stands after it.
module _ {old : List ℕ} {at end full to : ℕ} (p : Placed old at end full to) where
  pub theory_starts : (new : List ℕ) {place : ℕ} {work : List ℕ} → Stores old to (slice 0 at old) place work
      → Ahead old to (spliced old at end full new) work place (new ++ slice end full old)
  theory_starts new s = ahead_turn (ahead_start old to (spliced old at end full new)) refl s

  pub theory_ends : {new work later : List ℕ} {j next : ℕ} → Ahead old to (spliced old at end full new) work j (slice end full old)
      → Stores work j (slice end full work) next later → Rewritten old at end full to new (next - to) later
  theory_ends a s =
      let all = ahead_end (ahead_turn a (sym (append-nil (slice end full old)) ∙ rw (ahead_slice a end full p.apart)) s) refl in
      record { holds = all.holds; sized = omega (arith, all.ends) }

  pub place_near : {place : ℕ} {work : List ℕ} → Stores old to (slice 0 at old) place work → place ≡ to + at
  place_near s = let l = length-slice 0 at old (omega (arith, p)) in omega (arith, s.ends)

-- A list that was made behind another and copied to the front.
module _ (old made mid work : List ℕ) (next total : ℕ) where
  pub fronted : mid ≡ sets old next made → total ≡ length made → total ≤ next → next + next ≤ length old
      → work ≡ sets mid 0 (slice next (next + total) mid) → Fronted made next total work
  fronted h l small room w =
      let there : mid ≡ take next old ++ (made ++ drop (next + length made) old) = h ∙ sets-eq made old next (omega arith) ∙ append_assoc (take next old) made (drop (next + length made) old) in
      let first : length (take next old) ≡ next = length-take-le next old (omega arith) in
      let middle : slice next (next + total) mid ≡ made =
      drop-take next total mid ∙ ap (take total) (ap (drop next) there ∙ drop_at (take next old) (made ++ drop (next + length made) old) next first)
      ∙ take_at made (drop (next + length made) old) total (sym l) in
      let long : length mid ≡ length old = ap length h ∙ length-sets old next made in
      let here : work ≡ made ++ drop (length made) mid = w ∙ ap (sets mid 0) middle ∙ sets-eq made mid 0 (omega arith) ∙ ap (λ (k : ℕ). made ++ drop k mid) (zero-add (length made)) in
      record { sized = l; stands = λ s. ap (take total) here ∙ take_at made (drop (length made) mid) total (sym l) }

pub length-spliced : (work : List ℕ) (at end full : ℕ) (new : List ℕ) → at ≤ full → full ≤ length work → length (spliced work at end full new) ≡ at + (length new + (full - end))
length-spliced work at end full new h l =
    length-append (take at work) (new ++ slice end full work)
    ∙ ap₂ ◌+◌ (length-take-le at work (omega arith)) (length-append new (slice end full work) ∙ ap (λ (k : ℕ). length new + k) (length-slice end full work l))

-- a place with room behind the list, as the stores ask for it
pub roomy_placed : {work : List ℕ} {at full next : ℕ} → Roomy work at full next → Placed work at (at + 1) full next
roomy_placed r = record { ordered = omega arith; ends = omega (arith, r.here); apart = r.apart; within = omega (arith, r.room); long = r.long }
