-- Lists of names in memory and in a text, one name after the other.
-- Assumes nothing.
use Prim.Native.Nat.{ℕ, zero, suc, ◌+◌, ◌≤◌, ◌<◌}
use native.Mathlib.Numerals.{add-one}
use native.Mathlib.Omega.{arith}
use mathlib.Core.Path.{◌≡◌, refl, ap, ◌∙◌}
use mathlib.Core.List.{List, [], ◌∷◌, ◌++◌}
use lib.ListN.{length, take, drop, set, length-take, length-drop}
use lib.Seq.{drop-cons, set_at}
use borrow.Author.Tests.{eq-eqb, ne_eqb, ltb-true, ltb-false}
use mathlib.Core.Bool.{Bool, true, false, cond, not}
use lib.Dec.{eqb, ltb}
use Rattle.std.specs.Prelude.{Option, Some, None}
use Rattle.std.specs.List.{position_or_len}
use Rattle.std.proofs.lemmas.List.Sums.{prefix_len-le-length}
use Rattle.std.proofs.lemmas.List.Recursion.{is_position_or_len}
use Rattle.logic.specs.Meaning.{count_from}
use Rattle.logic.proofs.Meaning.{length-count_from}
use Rattle.names.specs.memory.Names.{index_in, ToldIndex}

-- a list that stands in memory from a place on
pub region_length : (work : List ℕ) (start count : ℕ) → start + count ≤ length work → length (take count (drop start work)) ≡ count
region_length work start count fits = simp (length-take, length-drop) (omega arith)

module _ (name n : ℕ) (ns : List ℕ) where
  pub index-here : n ≡ name → index_in name (n ∷ ns) ≡ 0
  unfolding index_in
  index-here e = rw (eq-eqb n name e)

  pub index-later : (n ≡ name → ⊥) → index_in name (n ∷ ns) ≡ suc (index_in name ns)
  unfolding index_in
  index-later e = rw (ne_eqb n name e)

pub index-none : (name : ℕ) → index_in name [] ≡ 0
unfolding index_in
index-none name = refl

-- that index is where the first number equal to the name stands
index_position : (name : ℕ) (names : List ℕ) → index_in name names ≡ position_or_len (λ n. eqb n name) names
unfolding index_in
index_position name names = is_position_or_len (index_in name) (λ n. eqb n name) refl (λ x xs. let more : suc (index_in name xs) ≡ 1 + index_in name xs = omega arith in ap (cond (eqb x name) 0) more) names

pub index_told : (name : ℕ) (names : List ℕ) (r : Option ℕ)
    → r ≡ cond (ltb (position_or_len (λ n. eqb n name) names) (length names)) (Some (position_or_len (λ n. eqb n name) names)) None
    → ToldIndex name names r
index_told name names r e = rw e (pick (ltb place (length names)) refl)
  where
    place : ℕ
    place = position_or_len (λ n. eqb n name) names

    pick : (b : Bool) → ltb place (length names) ≡ b → ToldIndex name names (cond b (Some place) None)
    pick true h = (ltb-true place (length names) h, index_position name names)
    pick false h =
        let past = ltb-false place (length names) h in
        let least = prefix_len-le-length (λ n. not (eqb n name)) names in
        index_position name names ∙ omega arith

-- The names 1, 2, 3 and so on, at the front of a list.

-- one number more, at the end or in the list
count_from-end : (k n m : ℕ) (rest : List ℕ) → m ≡ k + n → count_from k n ++ (m ∷ rest) ≡ count_from k (suc n) ++ rest
count_from-end k zero m rest e = let same : m ≡ k = omega arith in rw same
count_from-end k (suc n) m rest e = ap (λ (l : List ℕ). k ∷ l) (count_from-end (suc k) n m rest (omega arith))

pub first_more : (list : List ℕ) (i : ℕ) → i < length list → set (count_from 1 i ++ drop i list) i (i + 1) ≡ count_from 1 (i + 1) ++ drop (i + 1) list
first_more list i h =
    rw (add-one i, drop-cons list i 0 h, set_at (count_from 1 i) _ (drop (suc i) list) (suc i) i (length-count_from i 1))
    (count_from-end 1 i (suc i) (drop (suc i) list) (omega arith))
