-- What stands from a place of a text on: each definition that goes over the rest of a text, by the byte at the place.
-- Assumes nothing.
use Prim.Native.Nat.{ℕ, zero, suc, ◌+◌, ◌-◌, ◌≤◌, ◌<◌}
use native.Mathlib.Nat.{add-zero}
use native.Mathlib.Numerals.{add-one}
use native.Mathlib.Decide.{dec_lt}
use native.Mathlib.Omega.{arith}
use mathlib.Core.Path.{◌≡◌, refl, sym, ap, ◌∙◌}
use mathlib.Core.List.{List, [], ◌∷◌}
use mathlib.Core.Bool.{Bool, true, false, cond, not, ◌&&◌}
use lib.ListN.{length, length-take, length-drop, get_or, take, drop, drop_of_length-le, get_or-eq_default}
use lib.Seq.{take_all, drop-cons, get_or-drop}
use lib.Dec.{eqb}
use Rattle.std.specs.List.{take_while, prefix_len, starts_with}
use Rattle.std.proofs.lemmas.List.Sums.{take_while-cons}
use Rattle.grammar.specs.Bytes.{Bytes, next, span, begins}
use Rattle.grammar.specs.Lines.{is_lf, line_size, lines_size, line_start}

module _ (s : Bytes) (i : ℕ) where
  pub next-within : get_or s i 0 ≡ next (drop i s)
  next-within = sym (get_or-drop i s 0 0 ∙ ap (λ (j : ℕ). get_or s j 0) (add-zero i))

  pub next-beyond : length s ≤ i → 0 ≡ next (drop i s)
  next-beyond h = sym (get_or-eq_default s 0 h) ∙ next-within

  -- a byte that is not 0 stands within the text
  pub next-inside : 0 < next (drop i s) → i < length s
  next-inside h = pick (dec_lt i (length s))
    where
      pick : Dec (i < length s) → i < length s
      pick (yes k) = k
      pick (no k) = absurd (omega (arith, next-beyond (omega arith)))

  pub span-beyond : (class : ℕ → Bool) → length s ≤ i → span class (drop i s) ≡ []
  unfolding span
  span-beyond class h = rw (drop_of_length-le s h)

  module _ (h : i < length s) where
    pub span_more : (class : ℕ → Bool) → class (get_or s i 0) ≡ true → span class (drop i s) ≡ get_or s i 0 ∷ span class (drop (i + 1) s)
    unfolding span
    span_more class e = rw (add-one, drop-cons s i 0 h, e, span)

    pub span-stop : (class : ℕ → Bool) → class (get_or s i 0) ≡ false → span class (drop i s) ≡ []
    unfolding span
    span-stop class e = rw (drop-cons s i 0 h, e, span)

pub lines_size-none : (s : Bytes) → lines_size s 0 ≡ 0
lines_size-none [] = refl
lines_size-none (b ∷ s) = refl

pub line_start-later : (s : Bytes) (line : ℕ) → (line ≡ 0 → ⊥) → line_start s line ≡ lines_size s (line - 1)
line_start-later s zero h = absurd (h refl)
line_start-later s (suc line) h = ap (lines_size s) (omega arith)

-- the same by the library's words for the front of a list

pub span-front : (class : ℕ → Bool) (s : Bytes) → length (take_while class s) ≡ length (span class s)
unfolding span
span-front class [] = refl
span-front class (b ∷ s) = rw (take_while-cons class b s) (pick (class b) (span-front class s))
  where
    pick : (c : Bool) → length (take_while class s) ≡ length (span class s) → length (cond c (b ∷ take_while class s) []) ≡ length {A = ℕ} (elim c [ true ↦ b ∷ span class s | false ↦ [] ])
    pick true e = ap suc e
    pick false e = refl

pub line_size-front : (s : Bytes) → length (take_while (λ b. not (is_lf b)) s) ≡ line_size s
line_size-front [] = refl
line_size-front (b ∷ s) = rw (take_while-cons (λ (b : ℕ). not (is_lf b)) b s) (pick (is_lf b) (line_size-front s))
  where
    pick : (c : Bool) → length (take_while (λ b. not (is_lf b)) s) ≡ line_size s → length (cond (not c) (b ∷ take_while (λ b. not (is_lf b)) s) []) ≡ cond c 0 (suc (line_size s))
    pick true e = refl
    pick false e = ap suc e

pub begins-front : (w s : Bytes) → starts_with eqb s w ≡ begins w s
begins-front [] s = refl
begins-front (a ∷ w) [] = refl
begins-front (a ∷ w) (b ∷ s) = ap (◌&&◌ (eqb a b)) (begins-front w s)

-- and of the rest of a text, as a slice has it
module _ (s : Bytes) (at : ℕ) where
  abbrev pub rest : List ℕ
  rest = take (length s - at) (drop at s)

  pub rest_all : rest ≡ drop at s
  rest_all = take_all (length s - at) (drop at s) (omega (arith, length-drop at s))

  -- what is counted at the rest's front ends within the text
  pub front-within : (test : ℕ → Bool) → at ≤ length s → at + length (take_while test rest) ≤ length s
  front-within test h =
      let n : length rest ≡ length s - at = rw rest_all (length-drop at s) in
      omega (arith, length-take (prefix_len test rest) rest)
