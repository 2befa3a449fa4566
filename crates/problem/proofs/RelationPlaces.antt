-- A `rows=` line at a place of a text: how its kinds are spelled, and the rows that each gives a predicate.
-- Assumes nothing.
use Prim.Native.Nat.{ℕ, suc, zero, ◌+◌, ◌≤◌, ◌<◌}
use native.Mathlib.Omega.{arith}
use mathlib.Core.Path.{◌≡◌, refl, ◌∙◌}
use mathlib.Core.List.{List, [], ◌∷◌, ◌++◌, append-nil}
use mathlib.Core.Bool.{Bool, true, false}
use lib.ListN.{length, drop, set}
use borrow.Author.Tests.{ne_eqb, le-leb}
use Rattle.std.specs.Prelude.{Option, Some, None}
use Rattle.grammar.specs.Sizes.{tuple_count}
use Rattle.grammar.specs.Bytes as bytes
use Rattle.grammar.specs.Bytes.{Bytes, bytes, begins}
use Rattle.grammar.specs.Outcome.{Outcome, done, refused, mapped, provided}
use Rattle.grammar.specs.Reading.{give, ◌>>=◌, word, judge, one_of}
use Rattle.grammar.specs.Problem.{Row, Problem, Relation, truth_value, tuples, read_tuples, read_relation, rows_for}
use Rattle.text.specs.memory.Found.{Found, Refused, WordFound}
use Rattle.text.specs.memory.Told.{Ends}
use Rattle.text.specs.declared.read.Read.{Read}
use Rattle.text.proofs.Found.{found-give, found-taken, found_then, refused-first, refused_then, found_word, refused-word}
use Rattle.text.proofs.Found.{found-later, refused-later, one_of_this, one_of_other}
use Rattle.table.specs.memory.Table.{packed}
use Rattle.problem.specs.memory.Rows.{rows_allowed, read_some, ToldRows, TuplesFound, ToldTuples, read_kind, RelationFound, ToldRelation}
use Rattle.problem.specs.memory.Rows.{read_rows, tuple_size, RowsStored, Suits, RowsAllowed, ToldGiven, RowsGiven, RowsTaken}
use Rattle.problem.specs.declared.rows.RowsKept.{RowsKept}
use Rattle.problem.specs.declared.rows.RelationKept.{RelationKept}
use Rattle.problem.specs.declared.rows.RelationKept.TheVariants.{Truth, Listed}
use Rattle.problem.specs.declared.rows.Awaited.{Awaited}
use Rattle.problem.proofs.RowsKept.{row_large, row_below, row_above, row_unfit, row_long, row_more, rows_unfit, rows_unfit_row, rows-size, rows-order, rows-full, rows_more}
use Rattle.problem.proofs.RowPlaces.{element_found, tuple_first, tuple_bounded, tuple_refused, tuple_last, tuple_on, rows_none, tuples-first, tuples_bounded, tuples-refused, tuples-last, tuples_on}

-- Tuples, or none.

module _ (a : Awaited) (old : List ℕ) (text : Bytes) (at : ℕ) where
  pub listed-none : at ≤ length text → bytes.next (drop at text) ≡ 10
      → TuplesFound read_tuples a old old text at (Some (record { count = 0; last = 0 })) at
  unfolding read_tuples
  listed-none h e = record { list = []; found = record { is = rw e; after = omega arith; within = h }; told = rows_none a old }

  module _ (some : bytes.next (drop at text) ≡ 10 → ⊥) (new : List ℕ) where
    read_tuples_some : read_tuples (drop at text) ≡ read_some (drop at text)
    unfolding read_tuples
    read_tuples_some = rw (ne_eqb (bytes.next (drop at text)) 10 some)

    pub listed_some : (r : Option (Read (Option RowsKept))) → ToldTuples read_some a old new text at r → ToldTuples read_tuples a old new text at r
    listed_some (Some read) f =
        record { list = f.list; found = record { is = read_tuples_some ∙ f.found.is; after = f.found.after; within = f.found.within }; told = f.told }
    listed_some None f = record { is = read_tuples_some ∙ f.is }

-- The kinds.

module _ (a : Awaited) (old : List ℕ) (text : Bytes) (at : ℕ) where
  -- a truth value, whose word stands there
  module _ (value : Bool) {end : ℕ} (named : read_kind (drop at text) ≡ done (truth_value value, drop end text)) where
    kind_truth : at ≤ end → end ≤ length text → RelationFound read_kind a old old text at (Truth value) end
    kind_truth h k = record { relation = truth_value value; found = record { is = named; after = h; within = k }; told = (refl, refl) }

  pub kind_true : WordFound (bytes "true") text at (at + 4) → RelationFound read_kind a old old text at (Truth true) (at + 4)
  kind_true w = kind_truth true (one_of_this text at (bytes "true") _ _ _ w) (omega arith) w.within

  module _ (untrue : begins (bytes "true") (drop at text) ≡ false) where
    pub kind_false : WordFound (bytes "false") text at (at + 5) → RelationFound read_kind a old old text at (Truth false) (at + 5)
    kind_false w =
        kind_truth false (one_of_other text at (bytes "true") _ _ _ untrue ∙ one_of_this text at (bytes "false") _ _ _ w) (omega arith) w.within

    module _ (unfalse : begins (bytes "false") (drop at text) ≡ false) (new : List ℕ) where
      behind : read_kind (drop at text) ≡ (read_tuples >>= λ rows. give (tuples rows)) (drop at text)
      unfolding one_of
      behind = rw (one_of_other text at (bytes "true") _ _ _ untrue, one_of_other text at (bytes "false") _ _ _ unfalse)

      pub kind_listed : (read : Read (Option RowsKept)) → ToldTuples read_tuples a old new text at (Some read)
          → RelationFound read_kind a old new text at (Listed read.value) read.next
      kind_listed read f =
          record {
            relation = tuples f.list;
            found = found-later text at (read_tuples >>= λ rows. give (tuples rows)) behind (omega arith) (found_then _ f.found (found-give (tuples f.list) f.found.within));
            told = (f.list, refl, f.told);
          }

      pub kind_misspelled : ToldTuples read_tuples a old new text at None → ToldRelation read_kind a old new text at None
      kind_misspelled f = refused-later text at (read_tuples >>= λ rows. give (tuples rows)) behind (refused-first _ f)

  -- with the word before it and the line's end
  pub relation_unnamed : begins (bytes "rows=") (drop at text) ≡ false → (new : List ℕ) → ToldRelation read_relation a old new text at None
  unfolding read_relation
  relation_unnamed e new = refused-first _ (refused-word text at 3 (bytes "rows=") e)

  module _ (named : WordFound (bytes "rows=") text at (at + 5)) (new : List ℕ) where
    pub relation_misspelled : ToldRelation read_kind a old new text (at + 5) None → ToldRelation read_relation a old new text at None
    unfolding read_relation
    relation_misspelled f = refused_then _ (found_word text at 3 (bytes "rows=") named) (refused-first _ f)

    module _ (kept : RelationKept) (mid : ℕ) (f : RelationFound read_kind a old new text (at + 5) kept mid) where
      pub relation_open : Refused 3 (word 3 (bytes "\n")) text mid → ToldRelation read_relation a old new text at None
      unfolding read_relation
      relation_open g = refused_then _ (found_word text at 3 (bytes "rows=") named) (refused_then _ f.found (refused-first _ g))

      pub relation_closed : (next : ℕ) → Ends (word 3 (bytes "\n")) text mid next → RelationFound read_relation a old new text at kept next
      unfolding read_relation
      relation_closed next g =
          record {
            relation = f.relation;
            found = found_then _ (found_word text at 3 (bytes "rows=") named) (found_then _ f.found (found_then _ g.found (found-give f.relation g.found.within)));
            told = f.told;
          }

-- The rows of a predicate.

module _ (text : Bytes) (at : ℕ) {A : Type 0} {o : Outcome ℕ A} where
  found-judge : {a : A} → o ≡ done a → at ≤ length text → Found (judge o) text at a at
  found-judge e h = record { is = rw e; after = omega arith; within = h }

  refused-judge : {number : ℕ} → o ≡ refused number → Refused number (judge o) text at
  refused-judge e = record { is = rw e }

-- the kinds that do not suit an arity
truth_unsuited : (P : Problem) (value : Bool) (arity : ℕ) → (arity ≡ 0 → ⊥) → rows_for P arity (truth_value value) ≡ refused 4
truth_unsuited P value zero h = absurd (h refl)
truth_unsuited P value (suc arity) h = refl

list_unsuited : (P : Problem) (ts : List Row) (arity : ℕ) → arity ≡ 0 → rows_for P arity (tuples ts) ≡ refused 4
list_unsuited P ts zero h = refl
list_unsuited P ts (suc arity) h = absurd (omega arith)

-- what no domain, no place to store from, no tuples before them and nothing that was kept of them changes
pub given-list_unsuited : (P : Problem) (ts : List Row) (arity : ℕ) → arity ≡ 0
    → (rows_for P arity (tuples ts) ≡ refused 4)
    × ((text : Bytes) (at next : ℕ) → Found read_relation text at (tuples ts) next → Refused 4 (read_rows P arity) text at)
given-list_unsuited P ts arity h =
    (list_unsuited P ts arity h, λ text at next f. refused_then _ f (refused-judge text next (list_unsuited P ts arity h)))

-- tuples for an arity, by whether they may stand
list-judged : (P : Problem) (a : Awaited) → Suits a P → (ts : List Row) (arity : ℕ) → (arity ≡ 0 → ⊥)
    → rows_for P arity (tuples ts) ≡ mapped (λ u. ts) (provided (rows_allowed a.domain a.total arity ts) 4)
list-judged P a suits ts zero h = absurd (h refl)
list-judged P a suits ts (suc arity) h = rw (suits.domain, suits.tuples)

module _ (a : Awaited) (lent : List ℕ) where
  pub given-truth_unsuited : (value : Bool) → (a.arity ≡ 0 → ⊥) → RowsGiven a (Truth value) lent lent None
  given-truth_unsuited value h = record { told = λ old r told P suits. rw told.0 (truth_unsuited P value a.arity h) }

  -- rows that a truth value is
  given-truth : (value : Bool) (left : List ℕ) (ts : List Row) (count : ℕ) → a.arity ≡ 0 → ((P : Problem) → rows_for P 0 (truth_value value) ≡ done ts)
      → ((old : List ℕ) → lent ≡ old → RowsStored a old left ts count) → RowsGiven a (Truth value) lent left (Some count)
  given-truth value left ts count none is stored =
      record { told = λ old r told. record { list = ts; is = λ P suits. rw (told.0, none) (is P); stored = stored old told.1 } }

  pub given_true : (left : List ℕ) → a.arity ≡ 0 → left ≡ set lent a.to 0 → RowsGiven a (Truth true) lent left (Some 1)
  unfolding packed
  given_true left none e =
      given-truth true left ([] ∷ []) 1 none (λ P. refl)
      λ old same. record { stored = e ∙ rw same; counted = refl; fit = rw none; room = rw none (omega (arith, a.room)); few = omega arith }

  pub given_false : a.arity ≡ 0 → RowsGiven a (Truth false) lent lent (Some 0)
  given_false none =
      given-truth false lent [] 0 none (λ P. refl)
      λ old same. record { stored = same; counted = refl; fit = refl; room = rw none (omega (arith, a.room)); few = omega arith }

  pub given_unsuited : (kept : Option RowsKept) → a.arity ≡ 0 → RowsGiven a (Listed kept) lent lent None
  given_unsuited kept h = record { told = λ old r told P suits. rw told.1 (given-list_unsuited P told.0 a.arity h).0 }

  -- rows that are unfit, whatever the arity
  pub given_unfit : RowsGiven a (Listed None) lent lent None
  given_unfit = record { told = λ old r told P suits. rw told.1 (pick P suits told.0 told.2 a.arity refl) }
    where
      pick : (P : Problem) → Suits a P → (ts : List Row) → (1 ≤ a.arity → (more : List Row) → rows_allowed a.domain a.total a.arity (ts ++ more) ≡ false)
          → (n : ℕ) → a.arity ≡ n → rows_for P a.arity (tuples ts) ≡ refused 4
      pick P suits ts told zero e = (given-list_unsuited P ts a.arity e).0
      pick P suits ts told (suc n) e =
          let unfit : rows_allowed a.domain a.total a.arity ts ≡ false = rw append-nil at (told (omega arith) []) in
          list-judged P a suits ts a.arity (λ none. absurd (omega arith)) ∙ rw unfit

  module _ (some : a.arity ≡ 0 → ⊥) where
    pub given_fitting : (kept : RowsKept) → RowsGiven a (Listed (Some kept)) lent lent (Some kept.count)
    unfolding tuple_count
    given_fitting kept = record { told = λ old r told. fitting old r told.0 told.1 told.2 }
      where
        fitting : (old : List ℕ) (r : Relation) (ts : List Row) → r ≡ tuples ts → ToldRows a old lent ts (Some kept) → RowsAllowed a old lent r kept.count
        fitting old r ts e told =
            let fit : rows_allowed a.domain a.total a.arity ts ≡ true = rw (told.fit, told.ordered) (le-leb (a.total + length ts) 1024 told.room) in
            let size : tuple_size a.arity ts ≡ length ts = rw (ne_eqb a.arity 0 some) in
            record {
              list = ts;
              is = λ P suits. rw e (list-judged P a suits ts a.arity some ∙ rw fit);
              stored = record { stored = told.stored; counted = told.counted; fit = told.fit; room = rw size told.room; few = rw size (omega arith) };
            }

-- Read, and given.

module _ (a : Awaited) (old left : List ℕ) (text : Bytes) (at : ℕ) where
  module _ (kept : RelationKept) (next : ℕ) {lent : List ℕ} (f : RelationFound read_relation a old lent text at kept next) where
    pub rows_unfit_lem : ToldGiven a old left f.relation None → (P : Problem) → Suits a P → Refused 4 (read_rows P a.arity) text at
    rows_unfit_lem given P suits = refused_then _ f.found (refused-judge text next (given P suits))

    pub rows_taken : (count : ℕ) → ToldGiven a old left f.relation (Some count) → at < next → RowsTaken a old left text at count next
    rows_taken count given h =
        record {
          list = given.list;
          found = λ P suits. found-taken (found_then _ f.found (found-judge text next (given.is P suits) f.found.within)) h;
          stored = given.stored;
        }

-- what the code's answers follow from
pub ruleset told = (
  row_large,
  row_below,
  row_above,
  row_unfit,
  row_long,
  row_more,
  rows_unfit,
  rows_unfit_row,
  rows_more,
  element_found,
  tuple_first,
  tuple_on,
  tuples-first,
  tuples_bounded,
  tuples_on,
  listed-none,
  listed_some,
  kind_listed,
  relation_open,
  relation_closed,
  given-truth_unsuited,
  given_true,
  given_false,
  given_unsuited,
  given_unfit,
  given_fitting,
)
