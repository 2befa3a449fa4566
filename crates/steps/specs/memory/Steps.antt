-- What the code tells of a rule line, and what working memory holds after it.
use Rattle.std.specs.Prelude.{ℕ, ◌+◌, ◌≤◌, ◌≡◌, List, take, drop}
use Rattle.std.proofs.Math.Seq.{slice}
use Rattle.grammar.specs.Outcome.{Outcome, done}
use Rattle.steps.specs.memory.Held.{Held, held}
use Rattle.steps.specs.declared.live.Live.{Live}
use Rattle.steps.specs.declared.live.Layout.{Layout}

-- the parts of working memory
abbrev pub live_names : Layout → Live → List ℕ → List ℕ
live_names layout live work = take live.count (drop layout.names work)

abbrev pub rows_in : Layout → List ℕ → List ℕ
rows_in layout work = slice layout.rows layout.names work

abbrev pub held_in : Layout → Live → List ℕ → Held
held_in layout live work = held (take live.full work) (live_names layout live work) live.top live.ended

-- where they begin, and that each has room
pub record Arranged (layout : Layout) (size : ℕ) : Type 0 where
  pub next : layout.next ≡ 4096
  pub rows : layout.next + 4096 ≤ layout.rows
  pub names : layout.rows ≤ layout.names
  pub room : layout.rows + 1056 ≤ layout.names
  pub spare : layout.spare ≡ 1024
  pub end : layout.names + (layout.spare + 1024) ≤ size
  pub long : size ≤ 16384

-- the live formulas are within their sizes
pub record Few (live : Live) : Type 0 where
  pub full : live.full ≤ 4096
  pub count : live.count ≤ 1024

-- the live formulas after a line are in memory, and the rows are as they were
pub record Stepped (outcome : Outcome ℕ Held) (layout : Layout) (old : List ℕ) (live : Live) (work : List ℕ) : Type 0 where
  pub is : outcome ≡ done (held_in layout live work)
  pub few : Few live
  pub rows : rows_in layout work ≡ rows_in layout old
