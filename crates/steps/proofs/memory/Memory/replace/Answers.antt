-- `Memory::replace`: the words' part is written alone, so the rows and the names stay; what was made on the part is made on the theory.
use borrow.Author.Rules.{rules}
use mathlib.Core.Path.{◌≡◌, refl}
use lib.ListN.{length, take}
use Rattle.std.specs.Prelude.{Some}
use Rattle.steps.proofs.Moves.{rewritten_over, rewritten_moved}
use Rattle.steps.proofs.memory.Memory.replace.Goals as goal

pub returns-then-total-gt-THEORY_SIZE-clause-told : goal.returns-then-total-gt-THEORY_SIZE-clause-told
returns-then-total-gt-THEORY_SIZE-clause-told c =
    let m = c.args.self.now in
    rewritten_over m.layout m.live m.work.now m.arranged m.few c.args.at c.requires.0 (Some c.args.fit) c.args.flags.now _ _ c.front_rewritten-total.ensures c.if-total-gt-THEORY_SIZE.true

pub returns-clause-told : goal.returns-clause-told
returns-clause-told c =
    let m = c.args.self.now in
    let same : length c.front_rewritten-total.new.words ≡ length (take m.layout.rows m.work.now) = search rules in
    let moved = rewritten_moved m.layout m.live m.work.now m.arranged m.few c.args.at c.requires.0 (Some c.args.fit) c.args.flags.now _ _ c.front_rewritten-total.ensures same c.if-total-gt-THEORY_SIZE.false in
    record { is = moved.is; rows = moved.rows; layout = refl }
