-- The value of a formula in memory: what each kind of word comes to, what settles it, and a turn of the loops over parts and over elements.
-- Assumes nothing.
use Prim.Native.Nat.{ℕ, zero, suc, ◌+◌, ◌-◌, ◌*◌, ◌%◌, ◌≤◌, ◌<◌}
use native.Mathlib.Numerals.{add-one, one-add, sub-one}
use native.Mathlib.Omega.{arith}
use mathlib.Core.Path.{◌≡◌, refl, sym, ap, ◌∙◌, fun_ext}
use mathlib.Core.List.{List, [], ◌∷◌, map}
use mathlib.Core.Bool.{Bool, true, false, cond, not, beq, ◌&&◌, false≢true}
use borrow.Author.Tests.{eqb-true, eqb-false}
use lib.Dec.{eqb}
use lib.ListN.{length, get_or, drop, set, get_or-eq_default}
use lib.Seq.{drop-drop, get_or-drop, get_or-set_same, get_or-set_other}
use Rattle.grammar.specs.Problem.{Name}
use Rattle.logic.specs.Meaning.{Environment, bind, value_of, values_of, unit, join, join_all, connect, guarded, elements_to, holds}
use Rattle.text.proofs.Places.{next-within}
use Rattle.table.specs.memory.Table.{packed}
use Rattle.table.specs.declared.table.Table.{Table}
use Rattle.words.specs.memory.Kinds.{kind_of, kind_by, skip}
use Rattle.words.specs.memory.Stored.{index_name, stored, after_first, side_of, connective_of, term_of, terms_at, parts_by, formula_by, formula_at}
use Rattle.words.specs.declared.word.Sign.{Sign}
use Rattle.words.specs.declared.word.Kind.{Kind}
use Rattle.words.specs.declared.word.Kind.TheVariants as kind
use Rattle.words.proofs.memory.Kinds.{skip-none, skip_add}
use Rattle.guards.specs.memory.Values.{valued, table_structure, atom_at, true_at, truths_at, element_at, each_at}

-- Terms.

module _ (work : List ℕ) (at : ℕ) (values : List ℕ) where
  -- the number of a row of so many terms, and the value of the term at a place
  abbrev pub row_number : ℕ → ℕ
  row_number n = packed (values_of (valued values) (terms_at index_name n (drop at work)))

  abbrev pub value_at : ℕ → ℕ
  value_at i = value_of (valued values) (term_of index_name (get_or work i 0))

  pub row_none : 0 ≡ row_number 0
  unfolding terms_at packed
  row_none = refl

  pub row_one : value_at at ≡ row_number 1
  unfolding terms_at packed
  row_one = rw (← next-within work at) (omega arith)

  pub row_two : value_at at + 256 * value_at (at + 1) ≡ row_number 2
  unfolding terms_at packed
  row_two = rw (← next-within work at, drop-drop 1 at work, ← next-within work (at + 1)) (omega arith)

  pub row_three : value_at at + 256 * (value_at (at + 1) + 256 * value_at (at + 2)) ≡ row_number 3
  unfolding terms_at packed
  row_three =
      let e : at + 1 + 1 ≡ at + 2 = omega arith in
      rw (← next-within work at, drop-drop 1 at work, ← next-within work (at + 1), drop-drop 1 (at + 1) work, e, ← next-within work (at + 2)) (omega arith)

-- a value changed binds that variable
pub valued_set : (values : List ℕ) (x v : ℕ) → x < length values → bind (valued values) (index_name x) v ≡ valued (set values x v)
valued_set values x v h = fun_ext each
  where
    one : (y : ℕ) (b : Bool) → eqb y x ≡ b → cond (b && true) v (get_or values y 0) ≡ get_or (set values x v) y 0
    one y true e = sym (ap (λ (i : ℕ). get_or (set values x v) i 0) (eqb-true y x e) ∙ get_or-set_same values x v 0 h)
    one y false e = sym (get_or-set_other values x y v 0 (eqb-false y x e))

    two : (b : Bool) → cond (b && false) v 0 ≡ 0
    two true = refl
    two false = refl

    each : (y : Name) → bind (valued values) (index_name x) v y ≡ valued (set values x v) y
    each [] = refl
    each (y ∷ []) = one y (eqb y x) refl
    each (y ∷ z ∷ r) = two (eqb y x)

-- What settles a value.

pub unit_side : (every : Bool) → unit (side_of every) ≡ every
unit_side true = refl
unit_side false = refl

join-settled : (every b r : Bool) → not (beq b every) ≡ true → join (side_of every) b r ≡ b
join-settled true true r e = absurd (false≢true e)
join-settled true false r e = refl
join-settled false true r e = refl
join-settled false false r e = absurd (false≢true e)

join_open : (every b r : Bool) → not (beq b every) ≡ false → join (side_of every) b r ≡ r
join_open true true r e = refl
join_open true false r e = absurd (false≢true (sym e))
join_open false true r e = absurd (false≢true (sym e))
join_open false false r e = refl

module _ (table : Table) (rows : List ℕ) where
  -- The formula at a place: what it comes to where there is none, and by the kind of its first word.

  abbrev pub value_by : List ℕ → ℕ → Kind → List ℕ → Bool
  value_by values levels k s = holds (table_structure table rows) (valued values) (formula_by index_name index_name (stored levels) k s)

  module _ (work : List ℕ) (at levels : ℕ) (values : List ℕ) where
    pub value_no_level : levels ≡ 0 → true_at table rows levels values (drop at work) ≡ false
    unfolding true_at formula_at holds
    value_no_level e = rw e

    pub value_kind : (levels ≡ 0 → ⊥) → true_at table rows levels values (drop at work) ≡ value_by values (levels - 1) (kind_of (get_or work at 0)) (drop (at + 1) work)
    unfolding true_at formula_at
    value_kind some = pick levels some
      where
        pick : (l : ℕ) → (l ≡ 0 → ⊥) → holds (table_structure table rows) (valued values) (formula_at index_name index_name l (drop at work))
            ≡ value_by values (l - 1) (kind_of (get_or work at 0)) (drop (at + 1) work)
        pick zero h = absurd (h refl)
        pick (suc l) h = rw (← next-within work at, drop-drop 1 at work, sub-one (suc l))

    -- past the end
    pub value_beyond : (levels ≡ 0 → ⊥) → length work ≤ at → true_at table rows levels values (drop at work) ≡ false
    unfolding kind_by formula_by holds
    value_beyond some h = value_kind some ∙ rw (get_or-eq_default work 0 h)

    pub value_equality : value_by values levels kind.Equality (drop at work) ≡ eqb (value_at work at values at) (value_at work at values (at + 1))
    unfolding formula_by holds
    value_equality = rw (← next-within work at, get_or-drop at work 1 0)

  module _ (values : List ℕ) (levels : ℕ) where
    pub value_atom : (p n : ℕ) (s : List ℕ) → value_by values levels (kind.Atom p n) s ≡ atom_at table rows values p n s
    unfolding formula_by holds atom_at
    value_atom p n s = refl

    pub value_connective : (o : Sign) (n : ℕ) (s : List ℕ) → value_by values levels (kind.Connective o n) s ≡ connect (connective_of o) (truths_at table rows levels values n s)
    unfolding formula_by holds truths_at
    value_connective o n s = refl

    pub value_quantifier : (every : Bool) (x : ℕ) (s : List ℕ) → length values ≡ 64
        → value_by values levels (kind.Quantifier every x) s ≡ each_at table rows levels values every x s 1 table.domain
    unfolding formula_by holds each_at element_at true_at
    value_quantifier every x s h =
        ap (λ (ρ : ℕ → Environment). join_all (side_of every) (map (λ (u : ℕ). guarded (side_of every) (holds (table_structure table rows) (ρ u) (stored levels s))
        (holds (table_structure table rows) (ρ u) (stored levels (after_first s)))) (elements_to table.domain)))
        (fun_ext (λ (u : ℕ). valued_set values (x % 64) u (omega arith)))

  -- One of the parts.
  module _ (levels : ℕ) (values : List ℕ) where
    truths-first : (n : ℕ) (s : List ℕ) → truths_at table rows levels values (suc n) s ≡ true_at table rows levels values s ∷ truths_at table rows levels values n (after_first s)
    unfolding truths_at parts_by holds true_at
    truths-first n s = refl

    truths-none : (s : List ℕ) → truths_at table rows levels values 0 s ≡ []
    unfolding truths_at parts_by holds
    truths-none s = refl

    truths_at_lem : (i n : ℕ) (s : List ℕ) → i < n → get_or (truths_at table rows levels values n s) i false ≡ true_at table rows levels values (drop (skip s i) s)
    truths_at_lem i zero s h = absurd (omega arith)
    truths_at_lem zero (suc n) s h = rw (truths-first n s, skip-none s)
    truths_at_lem (suc i) (suc n) s h =
        rw (truths-first n s)
        (truths_at_lem i n (after_first s) (omega arith)
        ∙ ap (true_at table rows levels values)
        (drop-drop (skip (after_first s) i) (skip s 1) s ∙ ap (λ (k : ℕ). drop k s) (sym (skip_add s 1 i) ∙ ap (skip s) (one-add i))))

    truths_past : (i n : ℕ) (s : List ℕ) → n ≤ i → get_or (truths_at table rows levels values n s) i false ≡ false
    truths_past i zero s h = rw (truths-none s)
    truths_past zero (suc n) s h = absurd (omega arith)
    truths_past (suc i) (suc n) s h = rw (truths-first n s) (truths_past i n (after_first s) (omega arith))

    module _ (work : List ℕ) (at i n : ℕ) where
      pub part_value : i < n → get_or (truths_at table rows levels values n (drop at work)) i false ≡ true_at table rows levels values (drop (at + skip (drop at work) i) work)
      part_value h = truths_at_lem i n (drop at work) h ∙ ap (true_at table rows levels values) (drop-drop (skip (drop at work) i) at work)

      pub part_none : n ≤ i → get_or (truths_at table rows levels values n (drop at work)) i false ≡ false
      part_none h = truths_past i n (drop at work) h

    -- a turn over the parts, `i` of `n` of which are behind
    module _ (work : List ℕ) (every : Bool) where
      abbrev pub parts_from : ℕ → ℕ → Bool
      parts_from place n = join_all (side_of every) (truths_at table rows levels values n (drop place work))

      pub parts_end : (place n : ℕ) → n ≡ 0 → parts_from place n ≡ every
      parts_end place n e = rw (e, truths-none (drop place work)) (unit_side every)

      module _ (place i n : ℕ) (more : i < n) (b : Bool) (is : b ≡ true_at table rows levels values (drop place work)) where
        parts_first : parts_from place (n - i) ≡ join (side_of every) b (parts_from (place + skip (drop place work) 1) (n - (i + 1)))
        parts_first =
            let e : n - i ≡ suc (n - (i + 1)) = omega arith in
            rw (e, truths-first (n - (i + 1)) (drop place work), drop-drop (skip (drop place work) 1) place work, ← is)

        pub parts_settled : not (beq b every) ≡ true → parts_from place (n - i) ≡ b
        parts_settled e = parts_first ∙ join-settled every b _ e

        pub parts_open : not (beq b every) ≡ false → parts_from place (n - i) ≡ parts_from (place + skip (drop place work) 1) (n - (i + 1))
        parts_open e = parts_first ∙ join_open every b _ e

  -- Guard and body at one element.
  module _ (work : List ℕ) (at levels : ℕ) (values : List ℕ) (every : Bool) where
    pub element_outside : true_at table rows levels values (drop at work) ≡ false → element_at table rows levels values every (drop at work) ≡ every
    unfolding element_at
    element_outside e = rw e (unit_side every)

    pub element_inside : true_at table rows levels values (drop at work) ≡ true
        → element_at table rows levels values every (drop at work) ≡ true_at table rows levels values (drop (at + skip (drop at work) 1) work)
    unfolding element_at
    element_inside e = rw (e, drop-drop (skip (drop at work) 1) at work)

  -- a turn over the elements, those from `v` to `n` of which are left
  module _ (levels : ℕ) (values : List ℕ) (every : Bool) (x : ℕ) (s : List ℕ) where
    pub each_end : (v n : ℕ) → n ≡ 0 → each_at table rows levels values every x s v n ≡ every
    unfolding each_at
    each_end v n e = rw e (unit_side every)

    module _ (v n : ℕ) (more : v < n + 1) (b : Bool) (is : b ≡ element_at table rows levels (set values (x % 64) v) every s) where
      each_first : each_at table rows levels values every x s v (n + 1 - v) ≡ join (side_of every) b (each_at table rows levels values every x s (v + 1) (n + 1 - (v + 1)))
      unfolding each_at
      each_first =
          let e : n + 1 - v ≡ suc (n + 1 - (v + 1)) = omega arith in
          rw (e, add-one v, ← is)

      pub each_settled : not (beq b every) ≡ true → each_at table rows levels values every x s v (n + 1 - v) ≡ b
      each_settled e = each_first ∙ join-settled every b _ e

      pub each_open : not (beq b every) ≡ false → each_at table rows levels values every x s v (n + 1 - v) ≡ each_at table rows levels values every x s (v + 1) (n + 1 - (v + 1))
      each_open e = each_first ∙ join_open every b _ e

-- what the code's answers follow from
pub ruleset kinds_told = (value_no_level, value_beyond, value_kind, value_atom, value_connective, value_quantifier)

pub ruleset part_told = (part_value, part_none)

pub ruleset parts_told = (parts_end, parts_settled, parts_open)

pub ruleset element_told = (element_outside, element_inside)

pub ruleset each_told = (each_end, each_settled, each_open)
