-- Decimal numbers without leading zeros, of any length.
use Rattle.std.specs.Prelude.{ℕ, suc, zero, ◌+◌, ◌*◌, ◌-◌, ◌/◌, ◌%◌, [], ◌∷◌, ◌++◌, Bool, true, false, not, ◌&&◌, eqb, ltb}
use Rattle.grammar.specs.Bytes.{Bytes, every, is_digit}

-- the value of digits, after those that made n
abbrev pub value_after : ℕ → Bytes → ℕ
value_after n [] = n
value_after n (d ∷ ds) = value_after (n * 10 + (d - 48)) ds

abbrev pub value : Bytes → ℕ
value ds = value_after 0 ds

abbrev pub no_leading_zero : Bytes → Bool
no_leading_zero [] = false
no_leading_zero (d ∷ []) = true
no_leading_zero (d ∷ e ∷ ds) = not (eqb d 48)

-- digits, one at least, and no zero before others
abbrev pub is_number : Bytes → Bool
is_number ds = no_leading_zero ds && every is_digit ds

-- the digits of n, of which there are at most as many as `most` says
unfoldable pub digits : ℕ → ℕ → Bytes
digits zero n = []
digits (suc most) n = let more = digits most (n / 10) ++ ((48 + n % 10) ∷ []) in elim (ltb n 10) [ true ↦ (48 + n) ∷ [] | false ↦ more ]

-- the text of a number
unfoldable pub decimal : ℕ → Bytes
decimal n = digits (suc n) n
