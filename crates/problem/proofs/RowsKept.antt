-- Rows as they are read: what one element more makes of a row, and one row more of rows that were kept. What is once unfit stays so.
-- Assumes nothing.
use Prim.Native.Nat.{ℕ, suc, zero, ◌+◌, ◌*◌, ◌≤◌, ◌<◌}
use native.Mathlib.Omega.{arith}
use mathlib.Core.Path.{◌≡◌, refl, sym, ap, ◌∙◌}
use mathlib.Core.List.{List, [], ◌∷◌, ◌++◌, append_assoc, append-nil, map, map-append}
use Rattle.std.specs.Prelude.{Option, Some, None}
use mathlib.Core.Bool.{Bool, true, false, ◌&&◌, and-true, and-false, and_assoc, false≢true}
use lib.Dec.{leb, ltb}
use lib.ListN.{length, set, length-append, length-map}
use borrow.Author.Tests.{le-leb, lt-leb, leb-true, lt-ltb, le-ltb}
use Rattle.grammar.specs.Sizes.{tuple_count}
use Rattle.grammar.specs.Bytes.{every}
use Rattle.grammar.specs.Problem.{Row, is_element, row_fits, rows_fit, before, ascending}
use Rattle.grammar.proofs.Laws.{and_left, and_right, sets_append}
use Rattle.table.specs.memory.Table.{packed, placed, ranked, rank_after}
use Rattle.table.proofs.Packing.{Digits, before-ranked, ranked-more, packed_more}
use Rattle.problem.specs.memory.Declarations.{IsTold}
use Rattle.problem.specs.memory.Rows.{RowFound, ToldRow, RowBounded, RowMore, rows_allowed, last_rank, RowsFound, RowsMore}
use Rattle.problem.specs.declared.rows.RowKept.{RowKept}
use Rattle.problem.specs.declared.rows.RowsKept.{RowsKept}
use Rattle.problem.specs.declared.rows.Awaited.{Awaited}

-- One row.

module _ (n : ℕ) where
  is_element_below : (v : ℕ) → v < 1 → is_element n v ≡ false
  is_element_below v h = rw (lt-leb 1 v h)

  is_element_above : (v : ℕ) → n < v → is_element n v ≡ false
  is_element_above v h = rw (lt-leb v n h) (and-false (leb 1 v))

  every_more : (vs : Row) (v : ℕ) → every (is_element n) (vs ++ (v ∷ [])) ≡ (every (is_element n) vs && is_element n v)
  every_more [] v = and-true (is_element n v)
  every_more (w ∷ vs) v = rw (every_more vs v) (sym (and_assoc (is_element n w) (every (is_element n) vs) (is_element n v)))

  row_fits-length : (vs : Row) (arity : ℕ) → (length vs ≡ arity → ⊥) → row_fits n arity vs ≡ false
  row_fits-length [] zero h = absurd (h refl)
  row_fits-length [] (suc arity) h = refl
  row_fits-length (v ∷ vs) zero h = refl
  row_fits-length (v ∷ vs) (suc arity) h = rw (row_fits-length vs arity (λ e. h (ap suc e))) (and-false (is_element n v))

  row_fits_outside : (vs : Row) (v : ℕ) (more : Row) (arity : ℕ) → is_element n v ≡ false → row_fits n arity (vs ++ (v ∷ more)) ≡ false
  row_fits_outside [] v more zero h = refl
  row_fits_outside [] v more (suc arity) h = rw h
  row_fits_outside (w ∷ vs) v more zero h = refl
  row_fits_outside (w ∷ vs) v more (suc arity) h = rw (row_fits_outside vs v more arity h) (and-false (is_element n w))

  row_fits-every : (vs : Row) → row_fits n (length vs) vs ≡ every (is_element n) vs
  row_fits-every [] = refl
  row_fits-every (v ∷ vs) = ap (λ b. is_element n v && b) (row_fits-every vs)

  module _ (before : Option RowKept) where
    -- an element outside the domain, and one behind what is no row
    outside : (element : Option ℕ) → ((v : ℕ) → IsTold element v → is_element n v ≡ false) → RowMore n element before None
    outside element h =
        record { told = λ v e vs told more arity few. rw (append_assoc vs (v ∷ []) more) (row_fits_outside vs v more arity (h v e)) }

    pub row_large : n ≤ 64 → RowMore n None before None
    row_large small = outside None (λ v e. is_element_above v (omega arith))

    module _ (v : ℕ) where
      pub row_below : v < 1 → RowMore n (Some v) before None
      row_below h = outside (Some v) (λ w e. rw e (is_element_below v h))

      pub row_above : n < v → RowMore n (Some v) before None
      row_above h = outside (Some v) (λ w e. rw e (is_element_above v h))

  pub row_unfit : (element : Option ℕ) → RowMore n element None None
  row_unfit element =
      record { told = λ v e vs told more arity few. rw (append_assoc vs (v ∷ []) more) (told ((v ∷ []) ++ more) arity few) }

  module _ (v : ℕ) (kept : RowKept) where
    pub row_long : 2 < kept.size → RowMore n (Some v) (Some kept) None
    row_long h = record { told = λ w e vs told more arity few. long w vs told more arity few }
      where
        long : (w : ℕ) (vs : Row) → RowFound n vs kept → (more : Row) (arity : ℕ) → arity ≤ 3 → row_fits n arity (vs ++ (w ∷ []) ++ more) ≡ false
        long w vs told more arity few =
            let e = told.sized in
            row_fits-length (vs ++ (w ∷ []) ++ more) arity (λ f. let g = simp length-append at f in absurd (omega arith))

    pub row_more : kept.size ≤ 2 → 1 ≤ v → v ≤ n → (added : ℕ) → added ≡ placed kept.size v
        → RowMore n (Some v) (Some kept) (Some (record { size = kept.size + 1; key = kept.key + added; rank = kept.rank * 256 + v }))
    row_more few least greatest added e = record { told = λ w same. rw same more }
      where
        more : (vs : Row) → RowFound n vs kept
            → RowFound n (vs ++ (v ∷ [])) (record { size = kept.size + 1; key = kept.key + added; rank = kept.rank * 256 + v })
        more vs told =
            let s = told.sized in
            record {
              sized = simp length-append (omega arith);
              few = simp length-append (omega arith);
              within = rw (every_more vs v, told.within, le-leb 1 v least, le-leb v n greatest);
              numbered = rw (packed_more vs v, e, told.numbered, s);
              order = rw (ranked-more vs 0 v, told.order);
            }

  -- elements are digits, and so are the numbers of three of them bounded
  pub every-digits : n ≤ 64 → (vs : Row) → every (is_element n) vs ≡ true → Digits vs
  every-digits small [] e = tt
  every-digits small (v ∷ vs) e =
      let h : v ≤ n = leb-true v n (and_right (leb 1 v) (leb v n) (and_left (is_element n v) (every (is_element n) vs) e)) in
      (omega arith, every-digits small vs (and_right (is_element n v) (every (is_element n) vs) e))

  pub row_bounded : (vs : Row) (kept : Option RowKept) → n ≤ 64 → ToldRow n vs kept → RowBounded kept
  unfolding packed rank_after
  row_bounded vs (Some kept) small told = rw (told.numbered, told.order) (bounded vs told.few (every-digits small vs told.within))
    where
      bounded : (vs : Row) → length vs ≤ 3 → Digits vs → (packed vs < 16777216) × (ranked vs < 16777216)
      bounded [] few d = omega arith
      bounded (a ∷ []) few d = omega (arith, d.0)
      bounded (a ∷ b ∷ []) few d = omega (arith, d.0, d.1.0)
      bounded (a ∷ b ∷ c ∷ []) few d = omega (arith, d.0, d.1.0, d.1.1.0)
      bounded (a ∷ b ∷ c ∷ e ∷ vs) few d = absurd (omega arith)
  row_bounded vs None small told = tt

-- Many rows.

module _ (n arity : ℕ) where
  rows_fit-append : (ts us : List Row) → rows_fit n arity (ts ++ us) ≡ (rows_fit n arity ts && rows_fit n arity us)
  rows_fit-append [] us = refl
  rows_fit-append (t ∷ ts) us = rw (rows_fit-append ts us) (sym (and_assoc (row_fits n arity t) (rows_fit n arity ts) (rows_fit n arity us)))

-- rows out of order stay so
ascending_broken : (ts more : List Row) → ascending ts ≡ false → ascending (ts ++ more) ≡ false
ascending_broken [] more e = absurd (false≢true (sym e))
ascending_broken (t ∷ []) more e = absurd (false≢true (sym e))
ascending_broken (t ∷ u ∷ ts) more e = pick (before t u) e (ascending_broken (u ∷ ts) more)
  where
    pick : (b : Bool) → (b && ascending (u ∷ ts)) ≡ false → (ascending (u ∷ ts) ≡ false → ascending (u ∷ (ts ++ more)) ≡ false)
        → (b && ascending (u ∷ (ts ++ more))) ≡ false
    pick true f ih = ih f
    pick false f ih = refl

pub row_fits-is : (n : ℕ) (t : Row) (arity : ℕ) → row_fits n arity t ≡ true → (length t ≡ arity) × (every (is_element n) t ≡ true)
row_fits-is n [] zero e = (refl, refl)
row_fits-is n [] (suc arity) e = absurd (false≢true e)
row_fits-is n (v ∷ t) zero e = absurd (false≢true e)
row_fits-is n (v ∷ t) (suc arity) e =
    let h = row_fits-is n t arity (and_right (is_element n v) (row_fits n arity t) e) in
    (ap suc h.0, rw (and_left (is_element n v) (row_fits n arity t) e, h.1))

rank_least : (t : Row) (a : ℕ) → a ≤ rank_after a t
unfolding rank_after
rank_least [] a = omega arith
rank_least (v ∷ t) a = omega (arith, rank_least t (a * 256 + v))

module _ (n arity : ℕ) (small : n ≤ 64) (some : 1 ≤ arity) where
  ranked_positive : (t : Row) → row_fits n arity t ≡ true → 0 < ranked t
  unfolding rank_after
  ranked_positive [] e = absurd (omega (arith, (row_fits-is n [] arity e).0))
  ranked_positive (v ∷ t) e =
      let h : 1 ≤ v = leb-true 1 v (and_left (leb 1 v) (leb v n) (and_left (is_element n v) (every (is_element n) t) (row_fits-is n (v ∷ t) arity e).1)) in
      omega (arith, rank_least t (0 * 256 + v))

  -- rows of one arity are ordered by their ranks
  before_fitting : (t u : Row) → row_fits n arity t ≡ true → row_fits n arity u ≡ true → before t u ≡ ltb (ranked t) (ranked u)
  before_fitting t u e f =
      let h = row_fits-is n t arity e in
      let k = row_fits-is n u arity f in
      before-ranked t u (h.0 ∙ sym k.0) (every-digits n small t h.1) (every-digits n small u k.1)

  ascending-more : (ts : List Row) (t : Row) → rows_fit n arity ts ≡ true → row_fits n arity t ≡ true
      → ascending (ts ++ (t ∷ [])) ≡ (ascending ts && ltb (last_rank ts) (ranked t))
  ascending-more [] t e f = sym (lt-ltb 0 (ranked t) (ranked_positive t f))
  ascending-more (s ∷ []) t e f = and-true (before s t) ∙ before_fitting s t (and_left (row_fits n arity s) true e) f
  ascending-more (s ∷ u ∷ ts) t e f =
      rw (ascending-more (u ∷ ts) t (and_right (row_fits n arity s) (rows_fit n arity (u ∷ ts)) e) f)
      (sym (and_assoc (before s u) (ascending (u ∷ ts)) (ltb (last_rank (u ∷ ts)) (ranked t))))

-- A row more.

last_rank-more : (ts : List Row) (t : Row) → last_rank (ts ++ (t ∷ [])) ≡ ranked t
last_rank-more [] t = refl
last_rank-more (s ∷ []) t = refl
last_rank-more (s ∷ u ∷ ts) t = last_rank-more (u ∷ ts) t

module _ (a : Awaited) where
  module _ (ts : List Row) (t : Row) (more : List Row) where
    -- the rows with those that are still to come
    abbrev all : List Row
    all = ts ++ (t ∷ []) ++ more

    allowed_unfit : row_fits a.domain a.arity t ≡ false → rows_allowed a.domain a.total a.arity all ≡ false
    allowed_unfit e =
        rw (append_assoc ts (t ∷ []) more, rows_fit-append a.domain a.arity ts (t ∷ more), e, and-false (rows_fit a.domain a.arity ts))

    allowed_unordered : ascending (ts ++ (t ∷ [])) ≡ false → rows_allowed a.domain a.total a.arity all ≡ false
    allowed_unordered e = rw (ascending_broken (ts ++ (t ∷ [])) more e) (and-false (rows_fit a.domain a.arity all))

    allowed_full : 1024 < a.total + length all → rows_allowed a.domain a.total a.arity all ≡ false
    unfolding tuple_count
    allowed_full h = rw (lt-leb (a.total + length all) 1024 h, and-false (ascending all)) (and-false (rows_fit a.domain a.arity all))

  module _ (lent left : List ℕ) where
    pub rows_unfit : (one : Option RowKept) → RowsMore a one None None lent left
    rows_unfit one =
        record { told = λ old ts t row told some more. rw (append_assoc ts (t ∷ []) more) (told some ((t ∷ []) ++ more)) }

    module _ (kept : RowsKept) where
      pub rows_unfit_row : RowsMore a None (Some kept) None lent left
      rows_unfit_row =
          record { told = λ old ts t row told some more. allowed_unfit ts t more (rw append-nil at (row [] a.arity a.short)) }

      module _ (one : RowKept) where
        abbrev More : Option RowsKept → Type 0
        More after = RowsMore a (Some one) (Some kept) after lent left

        pub rows-size : (one.size ≡ a.arity → ⊥) → More None
        rows-size h =
            record { told = λ old ts t row told some more. allowed_unfit ts t more (row_fits-length a.domain t a.arity (λ e. h (row.sized ∙ e))) }

        module _ (sized : one.size ≡ a.arity) where
          fits : (t : Row) → RowFound a.domain t one → row_fits a.domain a.arity t ≡ true
          fits t row = rw (← sized, row.sized) (row_fits-every a.domain t ∙ row.within)

          pub rows-order : one.rank ≤ kept.last → More None
          rows-order h = record { told = unordered }
            where
              unordered : (old : List ℕ) (ts : List Row) (t : Row) → RowFound a.domain t one
                  → RowsFound a old lent ts kept → 1 ≤ a.arity → (more : List Row) → rows_allowed a.domain a.total a.arity (ts ++ (t ∷ []) ++ more) ≡ false
              unordered old ts t row told some more =
                  allowed_unordered ts t more
                  (rw (ascending-more a.domain a.arity a.small some ts t told.fit (fits t row), told.ordered, ← told.order, ← row.order) (le-ltb kept.last one.rank h))

          pub rows-full : 1024 ≤ a.total + kept.count → More None
          rows-full h = record { told = full }
            where
              full : (old : List ℕ) (ts : List Row) (t : Row) → RowFound a.domain t one
                  → RowsFound a old lent ts kept → 1 ≤ a.arity → (more : List Row) → rows_allowed a.domain a.total a.arity (ts ++ (t ∷ []) ++ more) ≡ false
              full old ts t row told some more =
                  allowed_full ts t more (simp length-append (omega (arith, told.counted)))

          pub rows_more : kept.last < one.rank → a.total + kept.count < 1024 → left ≡ set lent (a.to + kept.count) one.key
              → More (Some (record { count = kept.count + 1; last = one.rank }))
          unfolding rank_after
          rows_more after room stored = record { told = more }
            where
              some : (t : Row) → RowFound a.domain t one → 1 ≤ a.arity
              some [] row = absurd (omega (arith, row.order))
              some (v ∷ t) row = omega (arith, row.sized)

              more : (old : List ℕ) (ts : List Row) (t : Row) → RowFound a.domain t one
                  → RowsFound a old lent ts kept → RowsFound a old left (ts ++ (t ∷ [])) (record { count = kept.count + 1; last = one.rank })
              more old ts t row told =
                  record {
                    stored = stored ∙ rw (
                      map-append packed ts (t ∷ []),
                      sets_append old a.to (map packed ts) (packed t ∷ []),
                      length-map ts packed,
                      ← told.counted,
                      ← told.stored,
                      ← row.numbered,
                    );
                    counted = simp length-append (omega (arith, told.counted));
                    fit = rw (rows_fit-append a.domain a.arity ts (t ∷ []), told.fit, fits t row);
                    ordered = rw (
                      ascending-more a.domain a.arity a.small (some t row) ts t told.fit (fits t row),
                      told.ordered,
                      ← told.order,
                      ← row.order,
                    ) (lt-ltb kept.last one.rank after);
                    order = row.order ∙ sym (last_rank-more ts t);
                    room = simp length-append (omega (arith, told.counted));
                  }
