-- The variables' table against the limits of a theory: it has as many names as there are different ones, as far as there is room, and they are
-- short if all are.
-- Assumes nothing.
use Prim.Native.Nat.{ℕ, suc, ◌+◌, ◌≤◌, ◌<◌, min}
use native.Mathlib.Omega.{arith}
use mathlib.Core.Path.{◌≡◌, refl, sym, ap, ◌∙◌}
use mathlib.Core.List.{List, [], ◌∷◌, ◌++◌}
use mathlib.Core.Bool.{Bool, true, false, cond, ◌&&◌, ◌||◌, or-true, or-false, and_assoc, and-true, and_self_left, and_comm, false≢true}
use lib.Dec.{leb}
use lib.ListN.{length, length-append}
use borrow.Author.Tests.{le-leb, lt-leb, leb-true, leb-false}
use Rattle.grammar.specs.Sizes.{name_size, variable_count}
use Rattle.grammar.specs.Bytes.{same, member}
use Rattle.grammar.specs.Problem.{Name}
use Rattle.grammar.proofs.Laws.{same_refl, same_true, same_comm, member-append}
use Rattle.logic.specs.Limits.{different_count, names_short}
use Rattle.terms.specs.memory.NameTable.{extended, extended_by, list_fits}

-- how many different names of a list are not in a table
new_count : List Name → List Name → ℕ
new_count names [] = 0
new_count names (x ∷ xs) = cond (member x names || member x xs) (new_count names xs) (suc (new_count names xs))

new_count_none : (xs : List Name) → new_count [] xs ≡ different_count xs
unfolding new_count
new_count_none [] = refl
new_count_none (x ∷ xs) = rw (new_count_none xs)

-- a table with a name more lacks that name no longer
module _ (names : List Name) (x : Name) (new : member x names ≡ false) where
  abbrev more : List Name
  more = names ++ (x ∷ [])

  same_turn : (b : Bool) (m n : ℕ) → m ≡ cond b 1 0 + n → cond b m (suc m) ≡ 1 + n
  same_turn true m n e = e
  same_turn false m n e = omega arith

  other_turn : (b : Bool) (k m n : ℕ) → m ≡ k + n → cond b m (suc m) ≡ k + cond b n (suc n)
  other_turn true k m n e = e
  other_turn false k m n e = omega arith

  new_count_more : (xs : List Name) → new_count names xs ≡ cond (member x xs) 1 0 + new_count more xs
  unfolding new_count
  new_count_more [] = omega arith
  new_count_more (y ∷ ys) = pick (same x y) refl (new_count_more ys)
    where
      pick : (b : Bool) → same x y ≡ b → new_count names ys ≡ cond (member x ys) 1 0 + new_count more ys
          → new_count names (y ∷ ys) ≡ cond (b || member x ys) 1 0 + new_count more (y ∷ ys)
      pick true e ih =
          rw (← same_true x y e, new, member-append x names (x ∷ []), same_refl x, or-true (member x names))
          (same_turn (member x ys) (new_count names ys) (new_count more ys) ih)
      pick false e ih =
          rw (member-append y names (x ∷ []), same_comm y x, e, or-false (member y names))
          (other_turn (member y names || member y ys) (cond (member x ys) 1 0) (new_count names ys) (new_count more ys) ih)

-- How many names the table has.

module _ (names : List Name) (x : Name) where
  -- it is there; it is new, and there is room; it is new, and the table is full
  extended_by_lem : (W : List Name → Type 0) → (member x names ≡ true → W names) → (member x names ≡ false → length names < 65 → W (names ++ (x ∷ [])))
      → (member x names ≡ false → 65 ≤ length names → W names) → W (extended names x)
  unfolding extended
  extended_by_lem W there room full = pick (member x names) refl (leb 65 (length names)) refl
    where
      pick : (b : Bool) → member x names ≡ b → (c : Bool) → leb 65 (length names) ≡ c → W (cond (b || c) names (names ++ (x ∷ [])))
      pick true e c f = there e
      pick false e true f = full e (leb-true _ _ f)
      pick false e false f = room e (leb-false _ _ f)

length-extended_by : (xs names : List Name) → length names ≤ 65 → length (extended_by names xs) ≡ min 65 (length names + new_count names xs)
unfolding extended_by new_count
length-extended_by [] names h = omega arith
length-extended_by (x ∷ xs) names h = step (λ others k. length-extended_by xs others k)
  where
    step : ((others : List Name) → length others ≤ 65 → length (extended_by others xs) ≡ min 65 (length others + new_count others xs))
        → length (extended_by (extended names x) xs) ≡ min 65 (length names + new_count names (x ∷ xs))
    step ih =
        extended_by_lem names x (λ others. length (extended_by others xs) ≡ min 65 (length names + new_count names (x ∷ xs)))
        (λ e. ih names h ∙ rw e)
        (λ e room.
        let turn = same_turn names x e (member x xs) (new_count names xs) (new_count (names ++ (x ∷ [])) xs) (new_count_more names x e xs) in
        let long = length-append names (x ∷ []) in
        ih (names ++ (x ∷ [])) (omega arith) ∙ rw (e, long, turn) (omega arith))
        (λ e full. ih names h ∙ omega arith)

-- Short names.

short-append : (names more : List Name) → names_short (names ++ more) ≡ (names_short names && names_short more)
short-append [] more = refl
short-append (x ∷ names) more = rw (short-append names more) (sym (and_assoc (leb (length x) name_size) (names_short names) (names_short more)))

short-member : (x : Name) (names : List Name) → member x names ≡ true → (names_short names && leb (length x) name_size) ≡ names_short names
short-member x [] e = absurd (false≢true e)
short-member x (y ∷ names) e = pick (same x y) refl e (λ f. short-member x names f)
  where
    pick : (b : Bool) → same x y ≡ b → (b || member x names) ≡ true → (member x names ≡ true → (names_short names && leb (length x) name_size) ≡ names_short names)
        → (names_short (y ∷ names) && leb (length x) name_size) ≡ names_short (y ∷ names)
    pick true e f ih = rw (← same_true x y e, and_comm _ (leb (length x) name_size)) (and_self_left (leb (length x) name_size) (names_short names))
    pick false e f ih = and_assoc (leb (length y) name_size) (names_short names) _ ∙ rw (ih f)

short-extended_by : (xs names : List Name) → length names ≤ 65 → length (extended_by names xs) < 65 → names_short (extended_by names xs) ≡ (names_short names && names_short xs)
unfolding extended_by
short-extended_by [] names h few = sym (and-true (names_short names))
short-extended_by (x ∷ xs) names h few =
    extended_by_lem names x (λ others. length (extended_by others xs) < 65 → names_short (extended_by others xs) ≡ (names_short names && names_short (x ∷ xs)))
    (λ e k. short-extended_by xs names h k ∙ ap (λ b. b && names_short xs) (sym (short-member x names e)) ∙ and_assoc (names_short names) (leb (length x) name_size) (names_short xs))
    (λ e room k.
    let long = length-append names (x ∷ []) in
    short-extended_by xs (names ++ (x ∷ [])) (omega arith) k
    ∙ rw (short-append names (x ∷ []), and-true (leb (length x) name_size)) (and_assoc (names_short names) (leb (length x) name_size) (names_short xs)))
    (λ e full k. absurd (omega (arith, length-extended_by xs names h)))
    few

-- The table of a theory's variables fits if they do.
pub fits-variables : (xs : List Name) → list_fits (extended_by [] xs) ≡ (leb (different_count xs) variable_count && names_short xs)
unfolding variable_count
fits-variables xs = pick (leb (different_count xs) 64) refl
  where
    long : length (extended_by [] xs) ≡ min 65 (different_count xs)
    long = length-extended_by xs [] (omega arith) ∙ rw (new_count_none xs) (omega arith)

    pick : (b : Bool) → leb (different_count xs) 64 ≡ b → list_fits (extended_by [] xs) ≡ (b && names_short xs)
    pick true e =
        rw (le-leb (length (extended_by [] xs)) 64 (omega (arith, long, leb-true (different_count xs) 64 e)))
        (short-extended_by xs [] (omega arith) (omega (arith, long, leb-true (different_count xs) 64 e)))
    pick false e = rw (lt-leb (length (extended_by [] xs)) 64 (omega (arith, long, leb-false (different_count xs) 64 e)))
