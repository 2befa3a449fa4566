-- `problem_line::read_problem` reads line after line. The invariant: what the text is, is what its rest makes of the part that is read so far.
use mathlib.Core.Path.{refl, sym, ◌∙◌}
use Rattle.problem.proofs.ProblemLoop.{problem-first, problem-stopped, problem_on, problem-end, problem-unended}
use Rattle.problem.proofs.problem_line.read_problem.Goals as goal

pub loop-at-init : goal.loop-at-init
loop-at-init c = (problem-first c.args.text.now c.new-progress.result c.args.rows.now c.new-progress.ensures, refl)

pub loop-at-preserved : goal.loop-at-preserved
loop-at-preserved c = (
  problem_on c.args.text.now c.loop-at.progress c.loop-at.rows c.loop-at.at c.loop-at.line c.loop-at.invariant.0 c.loop-at-test.true
      c.in-Ok.field-0 c.line_at.new.rows c.in-Ok.ensures,
  c.line_at.auto.rows ∙ c.loop-at.invariant.1,
)

pub returns-in-Err : goal.returns-in-Err
returns-in-Err c =
    problem-stopped c.args.text.now c.loop-at.progress c.loop-at.rows c.loop-at.at c.loop-at.line c.loop-at.invariant.0 c.loop-at-test.true
    c.in-Err.fault c.line_at.new.rows c.in-Err.ensures

pub returns-then-not-may_end : goal.returns-then-not-may_end
returns-then-not-may_end c =
    problem-unended c.args.text.now c.loop-at.progress c.loop-at.rows c.loop-at.at c.loop-at.line c.loop-at.invariant.0 c.loop-at-test.false
    (sym c.may_end.ensures ∙ c.if-not-may_end.true)

pub returns : goal.returns
returns c =
    problem-end c.args.text.now c.loop-at.progress c.loop-at.rows c.loop-at.at c.loop-at.line c.loop-at.invariant.0 c.loop-at-test.false
    (sym c.may_end.ensures ∙ c.if-not-may_end.false)
