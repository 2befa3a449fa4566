-- Rows as numbers: a number and the row that it stands for tell each other, so a row is among others as its number is among theirs; and
-- a row's rank, its elements read as digits, orders rows of one length as they are ordered element by element.
-- Assumes nothing.
use Prim.Native.Nat.{ℕ, suc, zero, ◌+◌, ◌*◌, ◌/◌, ◌%◌, ◌<◌}
use native.Mathlib.Omega.{arith}
use mathlib.Core.Path.{◌≡◌, refl, sym, ap, ap₂, ◌∙◌}
use mathlib.Core.List.{List, [], ◌∷◌, ◌++◌, map}
use mathlib.Core.Bool.{Bool, true, false, ◌&&◌, ◌||◌}
use lib.Dec.{eqb, ltb}
use lib.ListN.{length}
use borrow.Author.Tests.{eq-eqb, eqb-true, eqb-false, lt-ltb, le-ltb, ltb-true, ltb-false}
use Rattle.grammar.specs.Bytes.{same, member}
use Rattle.grammar.specs.Problem.{Row, before}
use Rattle.grammar.specs.Each.{Each}
use Rattle.grammar.proofs.Laws.{same_refl, same_true}
use Rattle.table.specs.memory.Table.{packed, unpacked, placed, among, rank_after, ranked}

-- elements that are digits
abbrev pub Digits : Row → Type 0
Digits row = Each (λ v. v < 256) row

pub packed-unpacked : (arity n : ℕ) → packed (unpacked arity n) ≡ n
unfolding packed unpacked
packed-unpacked zero zero = refl
packed-unpacked zero (suc n) = omega arith
packed-unpacked (suc arity) n = rw (packed-unpacked arity (n / 256)) (omega arith)

pub unpacked-packed : (row : Row) → Digits row → unpacked (length row) (packed row) ≡ row
unfolding packed unpacked
unpacked-packed [] small = refl
unpacked-packed (v ∷ row) small =
    let h = small.0 in
    let e : (v + 256 * packed row) % 256 ≡ v = omega arith in
    let f : (v + 256 * packed row) / 256 ≡ packed row = omega arith in
    rw (e, f, unpacked-packed row small.1)

-- a number is a row's as the row that it stands for is that row
eqb_packed : (row : Row) (n : ℕ) → Digits row → eqb n (packed row) ≡ same row (unpacked (length row) n)
eqb_packed row n small = pick (eqb n (packed row)) refl (same row (unpacked (length row) n)) refl
  where
    pick : (a : Bool) → eqb n (packed row) ≡ a → (b : Bool) → same row (unpacked (length row) n) ≡ b → a ≡ b
    pick true e true f = refl
    pick false e false f = refl
    pick true e false f = sym (same_refl row) ∙ ap (same row) (sym (rw (eqb-true n (packed row) e) (unpacked-packed row small))) ∙ f
    pick false e true f =
        sym e ∙ eq-eqb n (packed row) (sym (packed-unpacked (length row) n) ∙ ap packed (sym (same_true row (unpacked (length row) n) f)))

pub among-member : (row : Row) (ns : List ℕ) → Digits row → among (packed row) ns ≡ member row (map (unpacked (length row)) ns)
unfolding among
among-member row [] small = refl
among-member row (n ∷ ns) small = ap₂ ◌||◌ (eqb_packed row n small) (among-member row ns small)

-- Ranks.

-- a greater rank stays greater
rank_after_less : (s t : Row) (a b : ℕ) → length s ≡ length t → Digits s → a < b → rank_after a s < rank_after b t
unfolding rank_after
rank_after_less [] [] a b e small h = h
rank_after_less [] (w ∷ t) a b e small h = absurd (omega arith)
rank_after_less (v ∷ s) [] a b e small h = absurd (omega arith)
rank_after_less (v ∷ s) (w ∷ t) a b e small h =
    rank_after_less s t (a * 256 + v) (b * 256 + w) (omega arith) small.1 (omega (arith, small.0))

rank_after-before : (s t : Row) (a : ℕ) → length s ≡ length t → Digits s → Digits t → before s t ≡ ltb (rank_after a s) (rank_after a t)
unfolding rank_after
rank_after-before [] [] a e small little = sym (le-ltb a a (omega arith))
rank_after-before [] (w ∷ t) a e small little = absurd (omega arith)
rank_after-before (v ∷ s) [] a e small little = absurd (omega arith)
rank_after-before (v ∷ s) (w ∷ t) a e small little =
    pick (ltb v w) refl (eqb v w) refl (rank_after-before s t (a * 256 + v) (omega arith) small.1 little.1)
  where
    rank : Row → ℕ → ℕ
    rank r x = rank_after (a * 256 + x) r

    pick : (b : Bool) → ltb v w ≡ b → (c : Bool) → eqb v w ≡ c → before s t ≡ ltb (rank s v) (rank t v) → (b || (c && before s t)) ≡ ltb (rank s v) (rank t w)
    pick true f c g ih =
        let h = ltb-true v w f in
        sym (lt-ltb (rank s v) (rank t w) (rank_after_less s t (a * 256 + v) (a * 256 + w) (omega arith) small.1 (omega arith)))
    pick false f true g ih = rw (← eqb-true v w g) ih
    pick false f false g ih =
        let h = ltb-false v w f in
        let k = eqb-false v w g in
        let z = rank_after_less t s (a * 256 + w) (a * 256 + v) (omega arith) little.1 (omega arith) in
        sym (le-ltb (rank s v) (rank t w) (omega arith))

pub before-ranked : (s t : Row) → length s ≡ length t → Digits s → Digits t → before s t ≡ ltb (ranked s) (ranked t)
before-ranked s t e small little = rank_after-before s t 0 e small little

-- one element more
pub ranked-more : (row : Row) (a v : ℕ) → rank_after a (row ++ (v ∷ [])) ≡ rank_after a row * 256 + v
unfolding rank_after
ranked-more [] a v = refl
ranked-more (w ∷ row) a v = ranked-more row (a * 256 + w) v

pub packed_more : (row : Row) (v : ℕ) → packed (row ++ (v ∷ [])) ≡ packed row + placed (length row) v
unfolding packed placed
packed_more [] v = omega arith
packed_more (w ∷ row) v = rw (packed_more row v) (omega arith)
