-- The limits of a theory hold of its first formulas too: totals grow with every formula, and so does the number of different variables, which is the
-- same wherever in the list a name stands.
-- Assumes nothing.
use Prim.Native.Nat.{ℕ, suc, ◌+◌, ◌≤◌}
use native.Mathlib.Omega.{arith}
use mathlib.Core.Path.{◌≡◌, refl, sym, ap₂}
use mathlib.Core.List.{List, [], ◌∷◌, ◌++◌, append_assoc, append-nil}
use mathlib.Core.Bool.{Bool, true, false, cond, ◌&&◌, ◌||◌}
use lib.Dec.{leb}
use lib.ListN.{length, length-append}
use borrow.Author.Tests.{leb-true, le-leb}
use Rattle.grammar.specs.Sizes.{name_size, variable_count, guard_quantifier_count, formula_count, theory_size}
use Rattle.grammar.specs.Bytes.{same, member, every}
use Rattle.grammar.specs.Problem.{Name}
use Rattle.grammar.proofs.Laws.{and_left, and_right, same_true, same_comm, member-append}
use Rattle.logic.specs.Formula.{Formula}
use Rattle.logic.specs.Limits.{guard_quantifiers, variables, theory_variables, different_count, names_short, size_total, sizes_fit, limits_fit}

pub size_total-append : (fs gs : List Formula) → size_total (fs ++ gs) ≡ size_total fs + size_total gs
size_total-append [] gs = omega arith
size_total-append (f ∷ fs) gs = rw (size_total-append fs gs) (omega arith)

sizes_fit_front : (fs gs : List Formula) → sizes_fit (fs ++ gs) ≡ true → sizes_fit fs ≡ true
sizes_fit_front fs gs e =
    let whole = leb-true (size_total (fs ++ gs)) theory_size (and_left _ _ e) in
    let long = leb-true (length (fs ++ gs)) formula_count (and_right (leb (size_total (fs ++ gs)) theory_size) _ e) in
    ap₂ ◌&&◌ (le-leb (size_total fs) theory_size (omega (arith, size_total-append fs gs))) (le-leb (length fs) formula_count (omega (arith, length-append fs gs)))

-- a test of each
every_front : {A : Type 0} (test : A → Bool) (before after : List A) → every test (before ++ after) ≡ true → every test before ≡ true
every_front test [] after e = refl
every_front test (a ∷ before) after e = ap₂ ◌&&◌ (and_left (test a) _ e) (every_front test before after (and_right (test a) _ e))

theory_variables-append : (fs gs : List Formula) → theory_variables (fs ++ gs) ≡ theory_variables fs ++ theory_variables gs
theory_variables-append [] gs = refl
theory_variables-append (f ∷ fs) gs = rw (theory_variables-append fs gs) (sym (append_assoc (variables f) (theory_variables fs) (theory_variables gs)))

-- Different names.

-- a name counts once, wherever it stands
module _ (y : Name) (ys : List Name) where
  member_middle : (x : Name) (xs : List Name) → member x (xs ++ (y ∷ ys)) ≡ (same x y || member x (xs ++ ys))
  member_middle x xs = rw (member-append x xs (y ∷ ys), member-append x xs ys) (turn (member x xs) (same x y) (member x ys))
    where
      turn : (a b c : Bool) → (a || (b || c)) ≡ (b || (a || c))
      turn true true c = refl
      turn true false c = refl
      turn false b c = refl

  different_count_middle : (xs : List Name) → different_count (xs ++ (y ∷ ys)) ≡ different_count (y ∷ (xs ++ ys))
  different_count_middle [] = refl
  different_count_middle (x ∷ xs) = rw (member_middle x xs, different_count_middle xs, same_comm y x) (pick (same x y) refl)
    where
      either : (b c : Bool) (n : ℕ) → cond b (cond c n (suc n)) (suc (cond c n (suc n))) ≡ cond c (cond b n (suc n)) (suc (cond b n (suc n)))
      either true true n = refl
      either true false n = refl
      either false true n = refl
      either false false n = refl

      pick : (b : Bool) → same x y ≡ b
          → let n = different_count (xs ++ ys) in let here = cond (member y (xs ++ ys)) n (suc n) in let there = cond (member x (xs ++ ys)) n (suc n) in
          cond (b || member x (xs ++ ys)) here (suc here) ≡ cond (b || member y (xs ++ ys)) there (suc there)
      pick true e = rw (same_true x y e)
      pick false e = either (member x (xs ++ ys)) (member y (xs ++ ys)) (different_count (xs ++ ys))

different_count_front : (xs ys : List Name) → different_count xs ≤ different_count (xs ++ ys)
different_count_front xs [] = rw (append-nil xs) (omega arith)
different_count_front xs (y ∷ ys) = rw (different_count_middle y ys xs) (pick (member y (xs ++ ys)) (different_count_front xs ys))
  where
    pick : (b : Bool) → different_count xs ≤ different_count (xs ++ ys) → different_count xs ≤ cond b (different_count (xs ++ ys)) (suc (different_count (xs ++ ys)))
    pick true h = h
    pick false h = omega arith

-- All limits.

pub limits_front : (fs gs : List Formula) → limits_fit (fs ++ gs) ≡ true → limits_fit fs ≡ true
limits_front fs gs e =
    let xs = theory_variables fs in
    let ys = theory_variables gs in
    let rest = rw (theory_variables-append fs gs) at (and_right (sizes_fit (fs ++ gs)) _ e) in
    let few = leb-true (different_count (xs ++ ys)) variable_count (and_left _ _ rest) in
    let named = and_right (leb (different_count (xs ++ ys)) variable_count) _ rest in
    ap₂ ◌&&◌ (sizes_fit_front fs gs (and_left _ _ e))
    (ap₂ ◌&&◌ (le-leb (different_count xs) variable_count (omega (arith, different_count_front xs ys)))
    (ap₂ ◌&&◌ (every_front (λ x. leb (length x) name_size) xs ys (and_left _ _ named))
    (every_front (λ f. leb (guard_quantifiers f) guard_quantifier_count) fs gs (and_right (names_short (xs ++ ys)) _ named))))
