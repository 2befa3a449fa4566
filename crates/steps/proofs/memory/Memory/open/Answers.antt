-- `Memory::open` writes the part of the words, then the part of the names.
use borrow.Author.Rules.{rules}
use mathlib.Core.Path.{◌≡◌, refl}
use lib.ListN.{length, take}
use Rattle.steps.proofs.Moves.{opened_moved}
use Rattle.steps.proofs.memory.Memory.open.Goals as goal

pub returns-clause-told : goal.returns-clause-told
returns-clause-told c =
    let m = c.args.self.now in
    let same : length c.front_without-full.new.words ≡ length (take m.layout.rows m.work.now) = search rules in
    let moved = opened_moved m.layout m.live m.work.now m.arranged m.few c.args.target.index c.args.target.at c.requires.0 c.requires.1 c.front_without-full.new.words same _ c.front_without-full.ensures.0 c.front_without-full.ensures.1
    _ _ _ _ c.with_names-count.ensures.0 c.with_names-count.ensures.1 in
    record { is = moved.is; rows = moved.rows; layout = refl }
