-- A list with separators, read at a place of a text item by item: the whole is what was read, and the list from here on behind it.
-- Assumes nothing.
use Prim.Native.Nat.{ℕ, ◌+◌, ◌≤◌, ◌<◌}
use native.Mathlib.Omega.{arith}
use mathlib.Core.Path.{◌≡◌, ◌∙◌}
use mathlib.Core.List.{List, [], ◌∷◌, ◌++◌}
use lib.ListN.{length, drop}
use lib.Seq.{drop-drop}
use Rattle.grammar.specs.Bytes as bytes
use Rattle.grammar.specs.Bytes.{Bytes}
use Rattle.grammar.specs.Reading.{Reading, separated}
use Rattle.grammar.proofs.Outcome.{Allowed}
use Rattle.grammar.proofs.Separated.{prepended, prepended_none, prepended_more, separated-refused, separated-last, separated_more}
use Rattle.text.specs.memory.Found.{Found, Refused}
use Rattle.text.proofs.FoundBytes.{byte_inside}

pub record Listing {A : Type 0} (separator : ℕ) (item : Reading A) (text : Bytes) (at : ℕ) (items : List A) (i : ℕ) : Type 0 where
  pub is : separated separator item (drop at text) ≡ prepended items (separated separator item (drop i text))
  pub after : at ≤ i
  pub within : i ≤ length text

module _ {A : Type 0} (separator : ℕ) (nonzero : 0 < separator) (item : Reading A) (shrinks : (s : Bytes) → Allowed (λ p. length p.1 ≤ length s) (item s))
    (text : Bytes) (at : ℕ) where
  abbrev all : Reading (List A)
  all = separated separator item

  pub listing_first : at ≤ length text → Listing separator item text at [] at
  listing_first h = record { is = prepended_none (all (drop at text)); after = omega arith; within = h }

  module _ (items : List A) (i : ℕ) (so : Listing separator item text at items i) where
    pub listing_refused : (number : ℕ) → Refused number item text i → Refused number all text at
    listing_refused number f = record { is = so.is ∙ rw (separated-refused separator nonzero item shrinks (drop i text) number f.is) }

    module _ (a : A) (next : ℕ) (f : Found item text i a next) where
      pub listing_last : (bytes.next (drop next text) ≡ separator → ⊥) → Found all text at (items ++ (a ∷ [])) next
      listing_last h =
          record {
            is = so.is ∙ rw (separated-last separator nonzero item shrinks (drop i text) a (drop next text) f.is h);
            after = omega (arith, so.after, f.after);
            within = f.within;
          }

      pub listing_on : bytes.next (drop next text) ≡ separator → Listing separator item text at (items ++ (a ∷ [])) (next + 1)
      listing_on e =
          let h = byte_inside text next separator nonzero e in
          record {
            is = so.is ∙ rw (separated_more separator nonzero item shrinks (drop i text) a (drop next text) f.is e, drop-drop 1 next text)
                (prepended_more items (a ∷ []) (all (drop (next + 1) text)));
            after = omega (arith, so.after, f.after);
            within = omega arith;
          }
