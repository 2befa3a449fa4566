-- Which variables a scope binds: none at first, one more below a quantifier; and a name looked for from the last on.
-- Assumes nothing.
use Prim.Native.Nat.{ℕ, zero, suc, ◌+◌, ◌-◌, ◌<◌}
use native.Mathlib.Numerals.{add-one}
use native.Mathlib.Omega.{arith}
use mathlib.Core.Path.{◌≡◌, refl, ap, ap₂, subst, fun_ext}
use mathlib.Core.List.{List, [], ◌∷◌}
use mathlib.Core.Bool.{◌||◌}
use lib.ListN.{length, set}
use lib.Seq.{get_or-set_same, get_or-set_other}
use Rattle.std.specs.Prelude.{Option}
use Rattle.std.specs.declared.ops.Range.{Range}
use Rattle.std.specs.declared.iter.Rev.{Rev}
use Rattle.std.specs.List.{list_any}
use Rattle.std.specs.Range.{range_steps_back}
use Rattle.std.specs.Iterator.Adapters.{rev_source, rev_steps}
use Rattle.std.proofs.lemmas.Iterator.{YieldsList}
use Rattle.std.proofs.lemmas.Iterator.Consumers.{YieldsList-from_shown}
use Rattle.grammar.specs.Bytes.{Bytes, same, member}
use Rattle.grammar.specs.Problem.{Name}
use Rattle.logic.specs.Names.{none, besides}
use Rattle.terms.specs.declared.binding.Scope.{Scope}
use Rattle.text.specs.declared.name.Name.{Name as Place}
use Rattle.table.specs.memory.Table.{name_at}
use Rattle.terms.specs.memory.Bindings.{scope_name, names_below, bound_in, Binds}

pub bound-none : (text : Bytes) (scope : Scope) → scope.count ≡ 0 → bound_in text scope ≡ none
unfolding bound_in names_below
bound-none text scope e = fun_ext λ x. rw e

-- One more.

names_below_agree : (f g : ℕ → Name) (n : ℕ) → ((k : ℕ) → k < n → f k ≡ g k) → names_below f n ≡ names_below g n
unfolding names_below
names_below_agree f g zero h = refl
names_below_agree f g (suc n) h = ap₂ (λ (x : Name) l. x ∷ l) (h n (omega arith)) (names_below_agree f g n (λ k less. h k (omega arith)))

module _ (scope more : Scope) (name : Place) (names : more.names ≡ set scope.names scope.count name) (count : more.count ≡ scope.count + 1)
    (room : scope.count < length scope.names) where
  module _ (text : Bytes) where
    name-more : scope_name text more scope.count ≡ name_at text name
    name-more = rw (names, get_or-set_same scope.names scope.count name _ room)

    name_other : (k : ℕ) → k < scope.count → scope_name text more k ≡ scope_name text scope k
    name_other k less = rw (names, get_or-set_other scope.names scope.count k name _ (λ e. omega arith))

    bound-more : bound_in text more ≡ besides (name_at text name) (bound_in text scope)
    unfolding bound_in names_below
    bound-more =
        fun_ext λ x.
        rw (count, add-one scope.count, name-more)
        (ap (λ l. same x (name_at text name) || member x l) (names_below_agree (scope_name text more) (scope_name text scope) scope.count name_other))

  pub binds : Binds scope name more
  binds = record { is = λ text. bound-more text; count = count }

-- A name, looked for from the last on.

-- so many numbers from one on, the last first
abbrev last_first : ℕ → ℕ → List ℕ
last_first start zero = []
last_first start (suc n) = (start + n) ∷ last_first start n

one_more : (start n other m x : ℕ) → n ≡ suc m → x ≡ start + m → other ≡ start → last_first start n ≡ x ∷ last_first other m
one_more start n other m x e f g = rw (e, f, g)

-- a range's numbers from its end on
pub yields_last_first : {s : Rev (Range ℕ)} (n : ℕ) → rev_source s ≡ record { start = 0; end = n }
    → YieldsList (rev_steps (range_steps_back (λ a b. b - a) (λ a b. b ≡ a + 1))) (λ x. x) s (last_first 0 n)
yields_last_first {s} n e =
    let steps : Rev (Range ℕ) → Option ℕ → Rev (Range ℕ) → Type 0 = rev_steps (range_steps_back (λ a b. b - a) (λ a b. b ≡ a + 1)) in
    let shown : Range ℕ → List ℕ = λ range. last_first range.start (range.end - range.start) in
    let whole : n - 0 ≡ n = omega arith in
    rw whole at
    (subst (λ range. YieldsList steps (λ x. x) s (shown range)) e
    (YieldsList-from_shown steps (λ x. x) (λ u. shown (rev_source u)) (λ u t p. ap (λ k. length (last_first (rev_source u).start k)) p.1.0)
    (λ u x t p. one_more _ _ _ _ x (omega (arith, p.0, p.1.0, p.1.2)) (omega (arith, p.0, p.1.0, p.1.1, p.1.2)) p.0) s))

pub found_below : (x : Name) (name : ℕ → Name) (n : ℕ) → list_any (λ i. same x (name i)) (last_first 0 n) ≡ member x (names_below name n)
unfolding names_below
found_below x name zero = refl
found_below x name (suc n) =
    let here : 0 + n ≡ n = omega arith in
    rw here (ap (λ b. same x (name n) || b) (found_below x name n))
