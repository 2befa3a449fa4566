-- Closed formulas in memory: what each kind of word comes to, and a turn of the loops over parts and over terms.
-- Assumes nothing.
use Prim.Native.Nat.{ℕ, zero, suc, ◌+◌, ◌-◌, ◌%◌, ◌≤◌, ◌<◌}
use native.Mathlib.Numerals.{sub-one}
use native.Mathlib.Omega.{arith}
use mathlib.Core.Path.{◌≡◌, refl, sym, ap, ◌∙◌, fun_ext}
use mathlib.Core.List.{List, [], ◌∷◌}
use mathlib.Core.Bool.{Bool, true, false, ◌&&◌, ◌||◌, and-true}
use borrow.Author.Tests.{eqb-true, eqb-false}
use lib.Dec.{eqb}
use lib.ListN.{length, get_or, drop, set, get_or-eq_default}
use lib.Seq.{drop-drop, get_or-set_same, get_or-set_other}
use Rattle.grammar.specs.Problem.{Name}
use Rattle.logic.specs.Names.{besides, term_closed, closed}
use Rattle.text.proofs.Places.{next-within}
use Rattle.words.specs.memory.Kinds.{kind_of, kind_by, skip}
use Rattle.words.specs.memory.Stored.{index_name, stored, term_of, terms_at, parts_by, formula_by, formula_at}
use Rattle.words.specs.declared.word.Sign.{Sign}
use Rattle.words.specs.declared.word.Kind.{Kind}
use Rattle.words.specs.declared.word.Kind.TheVariants as kind
use Rattle.guards.specs.memory.Flags.{flagged, closed_at, all_closed_at, terms_closed_at}

-- one flag more stands for one variable more
pub flagged-set : (flags : List Bool) (x : ℕ) → x < length flags → besides (index_name x) (flagged flags) ≡ flagged (set flags x true)
flagged-set flags x h = fun_ext each
  where
    one : (y : ℕ) (b : Bool) → eqb y x ≡ b → (b && true || get_or flags y false) ≡ get_or (set flags x true) y false
    one y true e = sym (ap (λ (i : ℕ). get_or (set flags x true) i false) (eqb-true y x e) ∙ get_or-set_same flags x true false h)
    one y false e = sym (get_or-set_other flags x y true false (eqb-false y x e))

    two : (b : Bool) → (b && false || false) ≡ false
    two true = refl
    two false = refl

    each : (y : Name) → besides (index_name x) (flagged flags) y ≡ flagged (set flags x true) y
    each [] = refl
    each (y ∷ []) = one y (eqb y x) refl
    each (y ∷ z ∷ r) = two (eqb y x)

-- The formula at a place: what it comes to where there is none, and by the kind of its first word.

abbrev pub closed_by : List Bool → ℕ → Kind → List ℕ → Bool
closed_by flags levels k s = closed (flagged flags) (formula_by index_name index_name (stored levels) k s)

module _ (work : List ℕ) (at levels : ℕ) (flags : List Bool) where
  pub closed_no_level : levels ≡ 0 → closed_at levels flags (drop at work) ≡ true
  unfolding closed_at formula_at closed
  closed_no_level e = rw e

  pub closed_kind : (levels ≡ 0 → ⊥) → closed_at levels flags (drop at work) ≡ closed_by flags (levels - 1) (kind_of (get_or work at 0)) (drop (at + 1) work)
  unfolding closed_at formula_at
  closed_kind some = pick levels some
    where
      pick : (l : ℕ) → (l ≡ 0 → ⊥) → closed (flagged flags) (formula_at index_name index_name l (drop at work)) ≡ closed_by flags (l - 1) (kind_of (get_or work at 0)) (drop (at + 1) work)
      pick zero h = absurd (h refl)
      pick (suc l) h = rw (← next-within work at, drop-drop 1 at work, sub-one (suc l))

  -- past the end
  pub closed_beyond : (levels ≡ 0 → ⊥) → length work ≤ at → closed_at levels flags (drop at work) ≡ true
  unfolding kind_by formula_by closed
  closed_beyond some h = closed_kind some ∙ rw (get_or-eq_default work 0 h)

module _ (flags : List Bool) (levels : ℕ) where
  pub closed_atom : (p n : ℕ) (s : List ℕ) → closed_by flags levels (kind.Atom p n) s ≡ terms_closed_at flags (n % 4) s
  unfolding formula_by closed terms_closed_at
  closed_atom p n s = refl

  pub closed_equality : (s : List ℕ) → closed_by flags levels kind.Equality s ≡ terms_closed_at flags 2 s
  unfolding formula_by closed terms_closed_at terms_at
  closed_equality s = rw (next-within s 1, and-true)

  pub closed_connective : (o : Sign) (n : ℕ) (s : List ℕ) → closed_by flags levels (kind.Connective o n) s ≡ all_closed_at levels flags n s
  unfolding formula_by closed all_closed_at
  closed_connective o n s = refl

  pub closed_quantifier : (every : Bool) (x : ℕ) (s : List ℕ) → length flags ≡ 64
      → closed_by flags levels (kind.Quantifier every x) s ≡ all_closed_at levels (set flags (x % 64) true) 2 s
  unfolding formula_by closed all_closed_at parts_by
  closed_quantifier every x s h = rw (flagged-set flags (x % 64) (omega arith), and-true)

  -- where no variable is
  pub closed_other : (k : Kind) (s : List ℕ) → ((p n : ℕ) → k ≡ kind.Atom p n → ⊥) → (k ≡ kind.Equality → ⊥)
      → ((o : Sign) (n : ℕ) → k ≡ kind.Connective o n → ⊥) → ((every : Bool) (x : ℕ) → k ≡ kind.Quantifier every x → ⊥) → closed_by flags levels k s ≡ true
  unfolding formula_by closed
  closed_other (kind.Truth b) s atom equal connective quantifier = refl
  closed_other (kind.Atom p n) s atom equal connective quantifier = absurd (atom p n refl)
  closed_other kind.Equality s atom equal connective quantifier = absurd (equal refl)
  closed_other (kind.Connective o n) s atom equal connective quantifier = absurd (connective o n refl)
  closed_other (kind.Quantifier every x) s atom equal connective quantifier = absurd (quantifier every x refl)
  closed_other kind.Term s atom equal connective quantifier = refl

-- A turn of the loops over parts and over terms, `i` of `n` of which are behind.
module _ (work : List ℕ) (flags : List Bool) (i n : ℕ) (more : i < n) where
  pub all_closed-first : (levels place : ℕ) → all_closed_at levels flags (n - i) (drop place work)
      ≡ (closed_at levels flags (drop place work) && all_closed_at levels flags (n - (i + 1)) (drop (place + skip (drop place work) 1) work))
  unfolding all_closed_at parts_by closed closed_at
  all_closed-first levels place =
      let e : n - i ≡ suc (n - (i + 1)) = omega arith in
      rw (e, drop-drop (skip (drop place work) 1) place work)

  pub terms_closed-first : (at : ℕ) → terms_closed_at flags (n - i) (drop (at + i) work)
      ≡ (term_closed (flagged flags) (term_of index_name (get_or work (at + i) 0)) && terms_closed_at flags (n - (i + 1)) (drop (at + (i + 1)) work))
  unfolding terms_closed_at terms_at
  terms_closed-first at =
      let e : n - i ≡ suc (n - (i + 1)) = omega arith in
      let next : at + i + 1 ≡ at + (i + 1) = omega arith in
      rw (e, ← next-within work (at + i), drop-drop 1 (at + i) work, next)

pub all_closed-none : (levels n : ℕ) (flags : List Bool) (s : List ℕ) → n ≡ 0 → all_closed_at levels flags n s ≡ true
unfolding all_closed_at parts_by closed
all_closed-none levels n flags s e = rw e

pub terms_closed-none : (n : ℕ) (flags : List Bool) (s : List ℕ) → n ≡ 0 → terms_closed_at flags n s ≡ true
unfolding terms_closed_at terms_at
terms_closed-none n flags s e = rw e

-- what the code's answers follow from
pub ruleset told = (
  closed_no_level,
  closed_beyond,
  closed_kind,
  closed_atom,
  closed_equality,
  closed_connective,
  closed_quantifier,
  all_closed-none,
  all_closed-first,
  terms_closed-none,
  terms_closed-first,
)
