-- A number has one text: `decimal` and `value` undo each other. By one induction over the digits of a number, from the first to the last.
-- Assumes nothing.
use Prim.Native.Nat.{ℕ, suc, zero, ◌+◌, ◌*◌, ◌-◌, ◌/◌, ◌%◌, ◌≤◌, ◌<◌}
use native.Mathlib.Nat.{zero-add}
use native.Mathlib.Omega.{arith}
use mathlib.Core.Path.{◌≡◌, refl, sym, ap, ap₂, ◌∙◌}
use mathlib.Core.List.{[], ◌∷◌, ◌++◌, append-nil, append_assoc}
use mathlib.Core.Bool.{Bool, true, false, not, ◌&&◌, false≢true}
use lib.Dec.{eqb, leb, ltb}
use borrow.Author.Tests.{le-leb, leb-true, ltb-true, ltb-false, lt-ltb, le-ltb, ne_eqb, eqb-false, not-true}
use Rattle.grammar.specs.Bytes.{Bytes, next, every, is_digit}
use Rattle.grammar.specs.Numbers.{value_after, value, no_leading_zero, is_number, digits, decimal}
use Rattle.grammar.proofs.Laws.{and_left, and_right}

-- the digits of a number below ten, and of any other
digits_one : (most n : ℕ) → n < 10 → digits (suc most) n ≡ (48 + n) ∷ []
unfolding digits
digits_one most n small = rw (lt-ltb n 10 small, digits)

digits_more : (most n : ℕ) → 10 ≤ n → digits (suc most) n ≡ digits most (n / 10) ++ ((48 + n % 10) ∷ [])
unfolding digits
digits_more most n large = rw (le-ltb n 10 large, digits)

-- what holds of one digit, and is kept by a digit more, holds of every number and its text
module _
    (P : ℕ → Bytes → Type 0)
    (one : (n : ℕ) → n < 10 → P n ((48 + n) ∷ []))
    (more : (n : ℕ) (ds : Bytes) → 10 ≤ n → P (n / 10) ds → P n (ds ++ ((48 + n % 10) ∷ [])))
  where
    digits_induction : (most n : ℕ) → n < most → P n (digits most n)
    digits_induction zero n h = absurd (omega arith)
    digits_induction (suc most) n h = pick (ltb n 10) refl (λ l. digits_induction most (n / 10) l)
      where
        pick : (b : Bool) → ltb n 10 ≡ b → (n / 10 < most → P (n / 10) (digits most (n / 10))) → P n (digits (suc most) n)
        pick true e ih = let small = ltb-true n 10 e in rw (digits_one most n small) (one n small)
        pick false e ih = let large = ltb-false n 10 e in rw (digits_more most n large) (more n _ large (ih (omega arith)))

    pub decimal_induction : (n : ℕ) → P n (decimal n)
    unfolding decimal
    decimal_induction n = digits_induction (suc n) n (omega arith)

-- the bound does not matter where it is large enough
digits_decimal : (n most : ℕ) → n < most → digits most n ≡ decimal n
digits_decimal = decimal_induction (λ n ds. (most : ℕ) → n < most → digits most n ≡ ds) one more
  where
    one : (n : ℕ) → n < 10 → (most : ℕ) → n < most → digits most n ≡ (48 + n) ∷ []
    one n small zero h = absurd (omega arith)
    one n small (suc most) h = digits_one most n small

    more : (n : ℕ) (ds : Bytes) → 10 ≤ n → ((most : ℕ) → n / 10 < most → digits most (n / 10) ≡ ds)
        → (most : ℕ) → n < most → digits most n ≡ ds ++ ((48 + n % 10) ∷ [])
    more n ds large ih zero h = absurd (omega arith)
    more n ds large ih (suc most) h = digits_more most n large ∙ rw (ih most (omega arith))

pub decimal_one : (n : ℕ) → n < 10 → decimal n ≡ (48 + n) ∷ []
unfolding decimal
decimal_one n small = digits_one n n small

pub decimal-more : (n : ℕ) → 10 ≤ n → decimal n ≡ decimal (n / 10) ++ ((48 + n % 10) ∷ [])
unfolding decimal
decimal-more n large = digits_more n n large ∙ rw (digits_decimal (n / 10) n (omega arith))

value_after-append : (n : ℕ) (ds es : Bytes) → value_after n (ds ++ es) ≡ value_after (value_after n ds) es
value_after-append n [] es = refl
value_after-append n (d ∷ ds) es = value_after-append (n * 10 + (d - 48)) ds es

pub value-decimal : (n : ℕ) → value (decimal n) ≡ n
value-decimal = decimal_induction (λ n ds. value ds ≡ n) (λ n small. omega arith) more
  where
    more : (n : ℕ) (ds : Bytes) → 10 ≤ n → value ds ≡ n / 10 → value (ds ++ ((48 + n % 10) ∷ [])) ≡ n
    more n ds large ih = rw (value_after-append 0 ds, ih) (omega arith)

pub digit_bounds : (d : ℕ) → is_digit d ≡ true → (48 ≤ d) × (d ≤ 57)
digit_bounds d e = (leb-true 48 d (and_left (leb 48 d) _ e), leb-true d 57 (and_right (leb 48 d) _ e))

is_digit_digit : (n : ℕ) → n < 10 → is_digit (48 + n) ≡ true
is_digit_digit n small = ap₂ ◌&&◌ (le-leb 48 (48 + n) (omega arith)) (le-leb (48 + n) 57 (omega arith))

decimal_digit : (d : ℕ) → is_digit d ≡ true → decimal (d - 48) ≡ d ∷ []
decimal_digit d e = let h = digit_bounds d e in decimal_one (d - 48) (omega arith) ∙ ap (λ (k : ℕ). k ∷ []) (omega arith)

-- digits behind a number that is not 0
decimal-value_after : (ds : Bytes) (n : ℕ) → 1 ≤ n → every is_digit ds ≡ true → decimal (value_after n ds) ≡ decimal n ++ ds
decimal-value_after [] n h e = sym (append-nil (decimal n))
decimal-value_after (d ∷ ds) n h e =
    let bounds = digit_bounds d (and_left (is_digit d) _ e) in
    let m = n * 10 + (d - 48) in
    let first : m / 10 ≡ n = omega arith in
    let last : 48 + m % 10 ≡ d = omega arith in
    decimal-value_after ds m (omega arith) (and_right (is_digit d) _ e) ∙ rw (decimal-more m (omega arith), first, last, append_assoc)

pub decimal-value : (ds : Bytes) → is_number ds ≡ true → decimal (value ds) ≡ ds
decimal-value [] e = absurd (false≢true e)
decimal-value (d ∷ []) e = rw zero-add (decimal_digit d (and_left (is_digit d) _ e))
decimal-value (d ∷ c ∷ ds) e =
    let digit = and_left (is_digit d) _ (and_right (not (eqb d 48)) _ e) in
    let bounds = digit_bounds d digit in
    let nonzero = eqb-false d 48 (not-true (eqb d 48) (and_left (not (eqb d 48)) _ e)) in
    rw zero-add
    (decimal-value_after (c ∷ ds) (d - 48) (omega arith) (and_right (is_digit d) _ (and_right (not (eqb d 48)) _ e)) ∙ rw (decimal_digit d digit))

-- the first digit of a number, which is 0 for 0 alone
pub decimal-first : (n : ℕ) → (is_digit (next (decimal n)) ≡ true) × (1 ≤ n → eqb (next (decimal n)) 48 ≡ false)
decimal-first = decimal_induction (λ n ds. (is_digit (next ds) ≡ true) × (1 ≤ n → eqb (next ds) 48 ≡ false)) one more
  where
    one : (n : ℕ) → n < 10 → (is_digit (48 + n) ≡ true) × (1 ≤ n → eqb (48 + n) 48 ≡ false)
    one n small = (is_digit_digit n small, λ h. ne_eqb (48 + n) 48 (omega arith))

    more : (n : ℕ) (ds : Bytes) → 10 ≤ n → (is_digit (next ds) ≡ true) × (1 ≤ n / 10 → eqb (next ds) 48 ≡ false)
        → (is_digit (next (ds ++ ((48 + n % 10) ∷ []))) ≡ true) × (1 ≤ n → eqb (next (ds ++ ((48 + n % 10) ∷ []))) 48 ≡ false)
    more n [] large ih = absurd (false≢true ih.0)
    more n (d ∷ ds) large ih = (ih.0, λ h. ih.1 (omega arith))

every_append : (class : ℕ → Bool) (s t : Bytes) → every class s ≡ true → every class t ≡ true → every class (s ++ t) ≡ true
every_append class [] t e f = f
every_append class (b ∷ s) t e f = ap₂ ◌&&◌ (and_left (class b) _ e) (every_append class s t (and_right (class b) _ e) f)

pub every-decimal : (n : ℕ) → every is_digit (decimal n) ≡ true
every-decimal = decimal_induction (λ n ds. every is_digit ds ≡ true) (λ n small. ap₂ ◌&&◌ (is_digit_digit n small) refl) more
  where
    more : (n : ℕ) (ds : Bytes) → 10 ≤ n → every is_digit ds ≡ true → every is_digit (ds ++ ((48 + n % 10) ∷ [])) ≡ true
    more n ds large ih = every_append is_digit ds _ ih (ap₂ ◌&&◌ (is_digit_digit (n % 10) (omega arith)) refl)

no_leading_zero_lem : (ds : Bytes) → is_digit (next ds) ≡ true → eqb (next ds) 48 ≡ false → no_leading_zero ds ≡ true
no_leading_zero_lem [] e h = absurd (false≢true e)
no_leading_zero_lem (d ∷ []) e h = refl
no_leading_zero_lem (d ∷ c ∷ ds) e h = ap not h

pub is_number-decimal : (n : ℕ) → is_number (decimal n) ≡ true
unfolding decimal digits
is_number-decimal zero = refl
is_number-decimal (suc n) =
    let (digit, nonzero) = decimal-first (suc n) in
    ap₂ ◌&&◌ (no_leading_zero_lem (decimal (suc n)) digit (nonzero (omega arith))) (every-decimal (suc n))
