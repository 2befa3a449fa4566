-- `grounding::ground_theory`: the rows' part is written, and the rest is done where the problem is read.
use borrow.Author.Rules.{rules}
use Prim.Native.Nat.{◌-◌}
use mathlib.Core.Path.{◌≡◌}
use lib.ListN.{length, take, drop}
use borrow.Rule.Slice.PartMut.{put_mid}
use Rattle.grounding.proofs.GroundReads.{problem-small, problem_read, rows_read}
use Rattle.grounding.proofs.grounding.ground_theory.Goals as goal

pub ground_read-requires : goal.ground_read-requires
ground_read-requires c =
    let found = c.in_ok-table.ensures in
    let kept : length (put_mid c.args.layout.rows (c.args.layout.names - c.args.layout.rows) c.args.work.now c.read_problem.new.rows) ≡ length c.args.work.now = search rules in
    (rw kept c.requires.0, c.requires.2, c.requires.3, problem-small found, found.few)

pub returns-clause-told : goal.returns-clause-told
returns-clause-told c =
    let found = c.in_ok-table.ensures in
    let same : length c.read_problem.new.rows ≡ length (take (c.args.layout.names - c.args.layout.rows) (drop c.args.layout.rows c.args.work.now)) = search rules in
    c.ground_read.ensures.told (problem_read found _ (rows_read c.args.layout c.args.work.now c.read_problem.new.rows c.requires.0 same)) found.inside
