-- What is handed back as a refused line is one part of the text alone, and no line's part is a later line's: each is at the place that its promise names.
-- Assumes nothing.
use Prim.Native.Nat.{ℕ, suc, ◌<◌}
use native.Mathlib.Omega.{arith}
use mathlib.Core.Path.{◌≡◌, sym, ◌∙◌}
use denote.Slice.{shr_slice_vals}
use Rattle.grammar.specs.HandedBack.{Lent, block, offset, HandedBack}
use Rattle.grammar.proofs.Lines.{line_count, line_start_rises}

-- Any two outcomes that the promise allows are equal, in place and in bytes.
pub HandedBack-once : {text part other : Lent} {line : ℕ} → HandedBack text line part → HandedBack text line other
    → (block part ≡ block other) × (offset part ≡ offset other) × (part.now ≡ other.now)
HandedBack-once p q = (p.within ∙ sym q.within, p.begins ∙ sym q.begins, p.reads ∙ sym q.reads)

-- So the value that the caller gets, a pointer and a length, is the same.
pub HandedBack-value : {text part other : Lent} {line : ℕ} → HandedBack text line part → HandedBack text line other → shr_slice_vals part ≡ shr_slice_vals other
HandedBack-value p q = let same = HandedBack-once p q in cc

-- No line is handed back for a later one, even where their bytes are the same.
pub HandedBack-apart : {text part other : Lent} (k m : ℕ) → k < m → k < line_count text.now → HandedBack text (suc k) part → HandedBack text (suc m) other
    → offset part < offset other
HandedBack-apart {text} k m h present p q = omega (arith, line_start_rises text.now k m h present)
