-- What reading leaves in memory, put together: what was entered before keeps its words when more is entered behind it, since no index changes.
-- Assumes nothing.
use Prim.Native.Nat.{ℕ, suc, ◌+◌, ◌*◌, ◌<◌}
use native.Mathlib.Numerals.{add-one}
use native.Mathlib.Omega.{arith}
use mathlib.Core.Path.{◌≡◌, refl, sym, ap, ◌∙◌}
use mathlib.Core.List.{List, [], ◌∷◌, ◌++◌}
use mathlib.Core.Bool.{Bool, true, ◌&&◌}
use lib.ListN.{length, set}
use lib.Seq.{sets, set_comm}
use Rattle.grammar.specs.Bytes.{Bytes}
use Rattle.grammar.specs.Problem.{Name}
use Rattle.grammar.specs.Each.{Each}
use Rattle.grammar.proofs.Laws.{and_left, and_right, each_weaken, sets_append}
use Rattle.terms.specs.declared.name_table.NameTable.{NameTable}
use Rattle.terms.specs.memory.NameTable.{settled, extended, extended_by, index_in, names_in, NameListed}
use Rattle.terms.specs.memory.Entries.{Memory, memory, Entered}
use Rattle.terms.proofs.memory.NameTable.{extended_settles, extended_by-append, extended_by_settles, index-extended_by}

-- words that go by the indices of some variables alone
abbrev pub GoesBy : List Name → ((Name → ℕ) → List ℕ) → Type 0
GoesBy variables words = (ix jx : Name → ℕ) → Each (λ x. ix x ≡ jx x) variables → words ix ≡ words jx

-- a store before a run of stores
set_sets : (l : List ℕ) (j a : ℕ) (vs : List ℕ) (i : ℕ) → j < i → set (sets l i vs) j a ≡ sets (set l j a) i vs
set_sets l j a [] i h = refl
set_sets l j a (v ∷ vs) i h =
    set_sets (set l i v) j a vs (suc i) (omega arith) ∙ rw (set_comm l i j v a (λ e. omega arith))

-- an index does not change when other variables are listed
pub index_kept : (variables more names : List Name)
    → Each (λ x. index_in (extended_by names variables) x ≡ index_in (extended_by (extended_by names variables) more) x) variables
index_kept variables more names =
    each_weaken (λ x. settled (extended_by names variables) x ≡ true) _
    (λ x h. sym (index-extended_by x more (extended_by names variables) h)) variables (extended_by_settles variables names)

module _ (text : Bytes) where
  -- put otherwise
  pub entered_alike : {variables others : List Name} {known alike : Bool} {words further : (Name → ℕ) → List ℕ} {old new : Memory} {to : ℕ}
      → variables ≡ others → (alike ≡ true → known ≡ true) → ((ix : Name → ℕ) → words ix ≡ further ix) → Entered text variables known words old to new
      → Entered text others alike further old to new
  entered_alike {old = old} {new} {to} v k w e =
      record { names = e.names ∙ ap (extended_by (names_in text old.names)) v; work = λ h. e.work (k h) ∙ ap (sets old.work to) (w (index_in (names_in text new.names))) }

  pub entered-none : (m : Memory) (to : ℕ) → Entered text [] true (λ ix. []) m to m
  unfolding extended_by
  entered-none m to = record { names = refl; work = λ h. refl }

  -- one behind the other
  pub entered_then : {variables more : List Name} {known alike : Bool} {words further : (Name → ℕ) → List ℕ} {old mid new : Memory} {to size : ℕ}
      → Entered text variables known words old to mid → GoesBy variables words → ((ix : Name → ℕ) → length (words ix) ≡ size)
      → Entered text more alike further mid (to + size) new → Entered text (variables ++ more) (known && alike) (λ ix. words ix ++ further ix) old to new
  entered_then {variables} {more} {known} {alike} {words} {further} {old} {mid} {new} {to} {size} first goes long second =
      let N = names_in text old.names in
      let whole : names_in text new.names ≡ extended_by (extended_by N variables) more = second.names ∙ rw first.names in
      record {
        names = whole ∙ sym (extended_by-append variables more N);
        work = λ h.
            let same : words (index_in (names_in text mid.names)) ≡ words (index_in (names_in text new.names)) =
            rw (whole, first.names) (goes _ _ (index_kept variables more N)) in
            second.work (and_right known alike h)
            ∙ rw (first.work (and_left known alike h), same, ← long (index_in (names_in text new.names)))
            (sym (sets_append old.work to (words (index_in (names_in text new.names))) (further (index_in (names_in text new.names)))));
      }

  -- behind a word
  pub entered_header : {variables : List Name} {known : Bool} {words : (Name → ℕ) → List ℕ} {old : Memory} {to : ℕ} {names : NameTable} {mid : List ℕ} (word : ℕ)
      → Entered text variables known words old (to + 1) (memory names mid) → Entered text variables known (λ ix. word ∷ words ix) old to (memory names (set mid to word))
  entered_header {words = words} {old} {to} {names} {mid} word e =
      record {
        names = e.names;
        work = λ h. rw (e.work h, add-one to) (set_sets old.work to word (words (index_in (names_in text names))) (suc to) (omega arith));
      }

  -- behind a word that has the index of a variable, listed before
  pub entered-index : {x : Name} {variables : List Name} {known : Bool} {words : (Name → ℕ) → List ℕ} {old between names : NameTable} {work mid : List ℕ} {to index : ℕ} (tag : ℕ)
      → NameListed text x old between index → Entered text variables known words (memory between work) (to + 1) (memory names mid)
      → Entered text (x ∷ variables) known (λ ix. (ix x * 16 + tag) ∷ words ix) (memory old work) to (memory names (set mid to (index * 16 + tag)))
  unfolding extended_by
  entered-index {x} {variables} {words = words} {old} {between} {names} {work} {mid} {to} {index} tag listed e =
      let whole : names_in text names ≡ extended_by (extended (names_in text old) x) variables = e.names ∙ rw listed.names in
      record {
        names = whole;
        work = λ h.
            let same : index ≡ index_in (names_in text names) x =
            listed.is ∙ rw (listed.names, whole) (sym (index-extended_by x variables (extended (names_in text old) x) (extended_settles (names_in text old) x))) in
            rw (← same, e.work h, add-one to) (set_sets work to (index * 16 + tag) (words (index_in (names_in text names))) (suc to) (omega arith));
      }
