-- One byte at a place of a text, as a word of its own.
-- Assumes nothing.
use Prim.Native.Nat.{ℕ, ◌+◌, ◌<◌}
use native.Mathlib.Omega.{arith}
use mathlib.Core.Path.{◌≡◌, refl, sym}
use mathlib.Core.List.{[], ◌∷◌}
use mathlib.Core.Bool.{true, false}
use lib.ListN.{length, drop}
use borrow.Author.Tests.{eq-eqb, ne_eqb}
use Rattle.grammar.specs.Bytes.{Bytes, next, begins}
use Rattle.text.specs.memory.Found.{WordFound}
use Rattle.text.proofs.Places.{next-inside}

module _ (text : Bytes) (at b : ℕ) where
  pub byte_inside : 0 < b → next (drop at text) ≡ b → at < length text
  byte_inside p e = next-inside text at (omega arith)

  pub byte_found : 0 < b → next (drop at text) ≡ b → WordFound (b ∷ []) text at (at + 1)
  byte_found p e = record { stands = pick (drop at text) e; ends = refl; within = omega (arith, byte_inside p e) }
    where
      pick : (s : Bytes) → next s ≡ b → begins (b ∷ []) s ≡ true
      pick [] e = absurd (omega arith)
      pick (c ∷ s) e = rw (eq-eqb b c (sym e))

  pub byte_missing : (next (drop at text) ≡ b → ⊥) → begins (b ∷ []) (drop at text) ≡ false
  byte_missing h = pick (drop at text) h
    where
      pick : (s : Bytes) → (next s ≡ b → ⊥) → begins (b ∷ []) s ≡ false
      pick [] h = refl
      pick (c ∷ s) h = rw (ne_eqb b c (λ e. h (sym e)))
