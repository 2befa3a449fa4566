-- What a whole text leaves behind the first cursor, if it is no longer than a text may be: without storing its length and how it stands against the
-- claim, with storing the text itself. From the cursor's laws, since so few bytes are all counted.
-- Assumes nothing.
use Prim.Native.Nat.{ℕ, ◌≤◌, ◌<◌}
use native.Mathlib.Nat.{zero-add}
use native.Mathlib.Omega.{arith}
use mathlib.Core.Path.{◌≡◌, refl, ◌∙◌}
use mathlib.Core.List.{List, ◌++◌}
use mathlib.Core.Bool.{true, false, ◌&&◌}
use lib.Dec.{eqb}
use lib.ListN.{length, drop}
use lib.Seq.{sets-eq}
use Rattle.grammar.specs.Sizes.{text_size}
use Rattle.grammar.specs.Bytes.{Bytes, same}
use Rattle.demands.specs.Answer.{difference_line}
use Rattle.printing.specs.declared.cursor.Cursor.{Cursor}
use Rattle.printing.specs.memory.Cursor.{countless, first_cursor, Prints}
use Rattle.printing.proofs.memory.Cursor.{prints_length, prints_kept, prints_stored, prints_line, prints_same}

fits : (text : Bytes) → length text ≤ text_size → length text < countless
unfolding text_size
fits text short = omega arith

module _ {claim text : Bytes} (short : length text ≤ text_size) {out new : List ℕ} {cursor : Cursor} where
  -- counted and compared
  module _ (so : Prints claim false (first_cursor, out) text (cursor, new)) where
    pub counted-kept : new ≡ out
    counted-kept = prints_kept so

    pub counted-length : cursor.length ≡ length text
    counted-length = prints_length so (omega (arith, fits text short)) ∙ zero-add (length text)

    pub counted_same : (cursor.same && eqb cursor.length (length claim)) ≡ same claim text
    counted_same = prints_same claim false difference_line (λ t. refl) (λ a s. refl) (λ a s b t. refl) so (fits text short)

    pub counted-line : cursor.line ≡ difference_line claim text
    counted-line = prints_line claim false difference_line (λ t. refl) (λ a s. refl) (λ a s b t. refl) so (fits text short)

  -- stored
  pub stored-text : Prints claim true (first_cursor, out) text (cursor, new) → length text ≤ length out → new ≡ text ++ drop (length text) out
  stored-text so room = prints_stored so (omega (arith, fits text short)) ∙ (rw zero-add at (sets-eq text out 0 (omega arith)))
