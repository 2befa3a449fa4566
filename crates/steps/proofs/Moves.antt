-- What working memory holds after a rule line: the words, the names, and the rows as they were.
-- Assumes nothing.
use Prim.Native.Nat.{ℕ, ◌+◌, ◌-◌, ◌≤◌, ◌<◌}
use native.Mathlib.Omega.{arith}
use mathlib.Core.Path.{◌≡◌, sym, ap, ap₂, ◌∙◌}
use Rattle.std.specs.Prelude.{Option}
use mathlib.Core.List.{List, [], ◌++◌}
use mathlib.Core.Bool.{Bool, false}
use borrow.Rule.Slice.PartMut.{put_mid}
use lib.ListN.{length, take, drop, length-drop}
use lib.Seq.{slice, length-take-le, length_front, take-take}
use Rattle.grammar.specs.Outcome.{Outcome, done, refused}
use Rattle.words.specs.memory.Storing.{spliced, Fronted}
use Rattle.formula.specs.memory.Rewriting.{end_within, rewritten_words}
use Rattle.formula.specs.declared.decide.Fit.{Fit}
use Rattle.steps.specs.memory.Held.{Held, held, exchanged, sized_in, opened_in}
use Rattle.steps.specs.memory.Steps.{live_names, rows_in, held_in, Arranged, Few}
use Rattle.steps.specs.declared.live.Live.{Live}
use Rattle.steps.specs.declared.live.Layout.{Layout}
use Rattle.steps.proofs.Regions.{behind_front, within_front, slice_behind, within_end, end-part, slice_before, spliced_front, made_front, part_end, put_end}
use Rattle.steps.proofs.Decisions.{made_words, sized_over, sized-within}

-- the live formulas after a line are in memory, and the rows are as they were
pub record Moved (outcome : Outcome ℕ Held) (layout : Layout) (old : List ℕ) (live : Live) (work : List ℕ) : Type 0 where
  pub is : outcome ≡ done (held_in layout live work)
  pub rows : rows_in layout work ≡ rows_in layout old

abbrev with_full : Live → ℕ → Bool → Live
with_full live full ended = record { count = live.count; full = full; top = live.top; ended = ended }

module _ (layout : Layout) (live : Live) (old : List ℕ) (arranged : Arranged layout (length old)) (few : Few live) where
  abbrev words : List ℕ
  words = take live.full old

  -- the part of the words, which is longer than the theory
  abbrev front : List ℕ
  front = take layout.rows old

  front_long : length front ≡ layout.rows
  front_long = length-take-le layout.rows old (omega (arith, arranged))

  front_words : take live.full front ≡ words
  front_words = take-take live.full layout.rows old (omega (arith, arranged, few))

  module _ (at : ℕ) (here : at < live.full) where
    module _ (decided : Option Fit) (flags : List Bool) (total : ℕ) (new : List ℕ)
        (f : Fronted (spliced front at (end_within front at live.full) live.full (rewritten_words decided front at live.full flags)) layout.next total new) where
      made : spliced front at (end_within front at live.full) live.full (rewritten_words decided front at live.full flags) ≡ made_words (held_in layout live old) at decided flags
      made =
          made_front front live.full (omega (arith, front_long, arranged, few)) decided at flags here
          ∙ ap (λ (w : List ℕ). exchanged w at (end_within w at (length w)) (rewritten_words decided w at (length w) flags)) front_words

      pub rewritten_over : 4096 < total → sized_in (held_in layout live old) at decided flags ≡ refused 15
      rewritten_over h = sized_over (held_in layout live old) at decided flags (let e = f.sized ∙ ap length made in omega arith)

      pub rewritten_moved : length new ≡ length front → total ≤ 4096
          → Moved (sized_in (held_in layout live old) at decided flags) layout old (with_full live total false) (new ++ drop layout.rows old)
      rewritten_moved same h =
          let room : layout.rows ≤ length old = omega (arith, arranged) in
          let e = f.sized ∙ ap length made in
          let w : take total (new ++ drop layout.rows old) ≡ made_words (held_in layout live old) at decided flags =
          within_front old new layout.rows room same total (omega (arith, arranged)) ∙ f.stands (omega (arith, arranged)) ∙ made in
          let n : live_names layout live (new ++ drop layout.rows old) ≡ live_names layout live old = ap (take live.count) (behind_front old new layout.rows room same layout.names arranged.names) in
          record {
            is = sized-within (held_in layout live old) at decided flags (omega arith) ∙ ap₂ (λ (w n : List ℕ). done (held w n live.top false)) (sym w) (sym n);
            rows = slice_behind old new layout.rows room same layout.rows layout.names (omega arith) arranged.names;
          }

-- TRIVIAL and SPLITC
module _ (layout : Layout) (live : Live) (old : List ℕ) (arranged : Arranged layout (length old)) (few : Few live) (index at : ℕ)
    (known : index < live.count) (here : at < live.full) (new : List ℕ) (same : length new ≡ length (take layout.rows old)) where
  -- after the write of the words
  abbrev mid : List ℕ
  mid = new ++ drop layout.rows old

  room : layout.rows ≤ length old
  room = omega (arith, arranged)

  pub mid_long : length mid ≡ length old
  mid_long = length_front old new layout.rows same

  mid_names : drop layout.names mid ≡ drop layout.names old
  mid_names = behind_front old new layout.rows room same layout.names arranged.names

  module _ (full : ℕ) (f : Fronted (spliced (take layout.rows old) at (at + 1) live.full []) layout.next full new) (less : full < live.full)
      (numbers list : List ℕ) (count top : ℕ)
      (g : Fronted (spliced (take (length mid - layout.names) (drop layout.names mid)) index (index + 1) live.count numbers) layout.spare count list)
      (small : count ≤ layout.spare) where
    abbrev work : List ℕ
    work = put_mid layout.names (length mid - layout.names) mid list

    put : work ≡ take layout.names mid ++ list
    put = put_end mid list layout.names (omega (arith, arranged, mid_long))

    full-words : take full work ≡ exchanged (take live.full old) at (at + 1) []
    full-words =
        let long = length-take-le layout.rows old room in
        ap (take full) put ∙ within_end mid list layout.names (omega (arith, arranged, mid_long)) full (omega (arith, arranged, few))
        ∙ within_front old new layout.rows room same full (omega (arith, arranged, few)) ∙ f.stands (omega (arith, arranged, few))
        ∙ spliced_front (take layout.rows old) live.full (omega (arith, long, arranged, few)) at (at + 1) [] (omega arith)
        ∙ ap (λ (w : List ℕ). exchanged w at (at + 1) []) (take-take live.full layout.rows old (omega (arith, arranged, few)))

    count-names : take count (drop layout.names work) ≡ exchanged (live_names layout live old) index (index + 1) numbers
    count-names =
        let e = ap length (part_end mid layout.names) in
        let l = length-drop layout.names mid in
        ap (λ (s : List ℕ). take count (drop layout.names s)) put
        ∙ ap (take count) (end-part mid list layout.names (omega (arith, arranged, mid_long))) ∙ g.stands small
        ∙ spliced_front (take (length mid - layout.names) (drop layout.names mid)) live.count (omega (arith, arranged, mid_long, few)) index (index + 1) numbers (omega arith)
        ∙ ap (λ (s : List ℕ). exchanged (take live.count s) index (index + 1) numbers) (part_end mid layout.names ∙ mid_names)

    pub opened_moved : Moved (opened_in (held_in layout live old) (index, at) numbers top) layout old (record { count = count; full = full; top = top; ended = false }) work
    unfolding opened_in
    opened_moved =
        record {
          is = ap₂ (λ (w n : List ℕ). done (held w n top false)) (sym full-words) (sym count-names);
          rows =
              ap (λ (s : List ℕ). slice layout.rows layout.names s) put
              ∙ slice_before mid list layout.names (omega (arith, arranged, mid_long)) layout.rows layout.names (omega arith)
              ∙ slice_behind old new layout.rows room same layout.rows layout.names (omega arith) arranged.names;
        }
