-- Rows at a place of a text: elements and tuples, each read and kept behind those before it.
-- Assumes nothing.
use Prim.Native.Nat.{ℕ, ◌+◌, ◌≤◌}
use native.Mathlib.Omega.{arith}
use mathlib.Core.Path.{◌≡◌, refl}
use mathlib.Core.List.{List, [], ◌∷◌, ◌++◌}
use lib.ListN.{length, drop}
use Rattle.std.specs.Prelude.{Option, Some, None}
use Rattle.grammar.specs.Bytes as bytes
use Rattle.grammar.specs.Bytes.{Bytes}
use Rattle.grammar.specs.Reading.{read_number}
use Rattle.grammar.specs.Problem.{Row}
use Rattle.grammar.proofs.Outcome.{Allowed}
use Rattle.grammar.proofs.Reading.{reads-number, reads-separated}
use Rattle.grammar.proofs.Separated.{reads_shrinks}
use Rattle.text.specs.memory.Found.{Refused}
use Rattle.text.specs.memory.Numbers.{ToldNumber}
use Rattle.text.proofs.Found.{taken-found}
use Rattle.text.specs.declared.read.Read.{Read}
use Rattle.table.specs.memory.Table.{packed, rank_after}
use Rattle.problem.specs.memory.Rows.{ToldRow, RowBounded, RowMore, ElementFound, read_tuple, ToldTuple, ToldRows, RowsBounded, RowsMore, read_some, ToldTuples}
use Rattle.problem.specs.declared.rows.RowKept.{RowKept}
use Rattle.problem.specs.declared.rows.RowsKept.{RowsKept}
use Rattle.problem.specs.declared.rows.Awaited.{Awaited}
use Rattle.problem.proofs.DeclarationPlaces.{number_told}
use Rattle.problem.proofs.Listing.{Listing, listing_first, listing_refused, listing_last, listing_on}
use Rattle.problem.proofs.RowsKept.{row_bounded}

-- One element.

pub element_found : (n : ℕ) (text : Bytes) (at : ℕ) (before : Option RowKept) (read : Read (Option ℕ)) → ToldNumber text at (Some read)
    → (after : Option RowKept) → RowMore n read.value before after → ElementFound n before text at after read.next
element_found n text at before read f after more =
    let told = number_told text at read f in
    record { element = told.number; found = taken-found told.found; later = told.found.after; more = more.told told.number told.is }

-- One tuple: the elements so far, and what is kept of them.

shrinks_number : (s : Bytes) → Allowed (λ p. length p.1 ≤ length s) (read_number 3 s)
shrinks_number s = reads_shrinks (reads-number 3) s

pub record TupleGoing (n : ℕ) (text : Bytes) (at : ℕ) (kept : Option RowKept) (i : ℕ) : Type 0 where
  pub elements : Row
  pub listing : Listing 46 (read_number 3) text at elements i
  pub told : ToldRow n elements kept

module _ (n : ℕ) (text : Bytes) (at : ℕ) where
  pub tuple_first : at ≤ length text → TupleGoing n text at (Some (record { size = 0; key = 0; rank = 0 })) at
  unfolding packed rank_after
  tuple_first h =
      record {
        elements = [];
        listing = listing_first 46 (omega arith) (read_number 3) shrinks_number text at h;
        told = record { sized = refl; few = omega arith; within = refl; numbered = refl; order = refl };
      }

  module _ (kept : Option RowKept) (i : ℕ) (going : TupleGoing n text at kept i) where
    pub tuple_bounded : n ≤ 64 → RowBounded kept
    tuple_bounded small = row_bounded n going.elements kept small going.told

    pub tuple_refused : Refused 3 (read_number 3) text i → ToldTuple n text at None
    tuple_refused f = listing_refused 46 (omega arith) (read_number 3) shrinks_number text at going.elements i going.listing 3 f

    module _ (read : Read (Option RowKept)) (f : ElementFound n kept text i read.value read.next) where
      pub tuple_last : (bytes.next (drop read.next text) ≡ 46 → ⊥) → ToldTuple n text at (Some read)
      tuple_last h =
          record {
            elements = going.elements ++ (f.element ∷ []);
            found = listing_last 46 (omega arith) (read_number 3) shrinks_number text at going.elements i going.listing f.element read.next f.found h;
            later = omega (arith, going.listing.after, f.later);
            told = f.more going.elements going.told;
          }

      pub tuple_on : bytes.next (drop read.next text) ≡ 46 → TupleGoing n text at read.value (read.next + 1)
      tuple_on e =
          record {
            elements = going.elements ++ (f.element ∷ []);
            listing = listing_on 46 (omega arith) (read_number 3) shrinks_number text at going.elements i going.listing f.element read.next f.found e;
            told = f.more going.elements going.told;
          }

-- Many tuples: those so far, and what is kept of them.

shrinks_tuple : (s : Bytes) → Allowed (λ p. length p.1 ≤ length s) (read_tuple s)
shrinks_tuple s = reads_shrinks (reads-separated (reads-number 3) 46 (omega arith)) s

-- none, whatever is in memory
pub rows_none : (a : Awaited) (old : List ℕ) → ToldRows a old old [] (Some (record { count = 0; last = 0 }))
rows_none a old = record { stored = refl; counted = refl; fit = refl; ordered = refl; order = refl; room = omega (arith, a.room) }

pub record TuplesGoing (a : Awaited) (old new : List ℕ) (text : Bytes) (at : ℕ) (kept : Option RowsKept) (i : ℕ) : Type 0 where
  pub list : List Row
  pub listing : Listing 44 read_tuple text at list i
  pub told : ToldRows a old new list kept

module _ (a : Awaited) (old : List ℕ) (text : Bytes) (at : ℕ) where
  pub tuples-first : at ≤ length text → TuplesGoing a old old text at (Some (record { count = 0; last = 0 })) at
  tuples-first h =
      record { list = []; listing = listing_first 44 (omega arith) read_tuple shrinks_tuple text at h; told = rows_none a old }

  module _ (new : List ℕ) (kept : Option RowsKept) (i : ℕ) (going : TuplesGoing a old new text at kept i) where
    pub tuples_bounded : RowsBounded kept
    tuples_bounded = pick kept going.told
      where
        pick : (kept : Option RowsKept) → ToldRows a old new going.list kept → RowsBounded kept
        pick (Some one) told = omega (arith, told.counted, told.room)
        pick None told = tt

    pub tuples-refused : (left : List ℕ) → ToldTuple a.domain text i None → ToldTuples read_some a old left text at None
    tuples-refused left f = listing_refused 44 (omega arith) read_tuple shrinks_tuple text at going.list i going.listing 3 f

    module _ (read : Read (Option RowKept)) (f : ToldTuple a.domain text i (Some read)) (left : List ℕ) (after : Option RowsKept)
        (more : RowsMore a read.value kept after new left) where
      pub tuples-last : (bytes.next (drop read.next text) ≡ 44 → ⊥) → ToldTuples read_some a old left text at (Some (record { value = after; next = read.next }))
      tuples-last h =
          record {
            list = going.list ++ (f.elements ∷ []);
            found = listing_last 44 (omega arith) read_tuple shrinks_tuple text at going.list i going.listing f.elements read.next f.found h;
            told = more.told old going.list f.elements f.told going.told;
          }

      pub tuples_on : bytes.next (drop read.next text) ≡ 44 → TuplesGoing a old left text at after (read.next + 1)
      tuples_on e =
          record {
            list = going.list ++ (f.elements ∷ []);
            listing = listing_on 44 (omega arith) read_tuple shrinks_tuple text at going.list i going.listing f.elements read.next f.found e;
            told = more.told old going.list f.elements f.told going.told;
          }
