-- `theory_reader::read_theory` reads line after line. The invariant: what the text is, is what its rest makes of the formulas read so far, which are
-- in memory.
use native.Mathlib.Omega.{arith}
use Prim.Native.Nat.{ℕ}
use mathlib.Core.Path.{◌≡◌, refl, sym, ◌∙◌}
use mathlib.Core.List.{List, []}
use Rattle.grammar.specs.Problem.{Problem}
use Rattle.table.specs.memory.Table.{problem_in}
use Rattle.terms.specs.memory.Entries.{predicate_index, memory}
use Rattle.terms.specs.memory.NameTable.{names_in}
use Rattle.theory.proofs.TheoryReads.{theory_first, names-none, totals_small, theory_refused, theory_over, theory_on, theory_end}
use Rattle.theory.proofs.theory_reader.read_theory.Goals as goal
use Rattle.theory.proofs.theory_reader.read_theory.Goals.{Start}

module _ (start : Start) where
  -- the problem, on any rows
  abbrev problem : List ℕ → Problem
  problem rows = problem_in start.args.problem.now start.args.table.now rows

  -- no name is in the table before
  empty : names_in start.args.text.now start.args.names.now ≡ []
  empty = names-none start.args.text.now start.args.names.now start.requires.3

pub loop-at-init : goal.loop-at-init
loop-at-init c =
    record {
      within = omega arith;
      small = omega arith;
      few = omega arith;
      long = refl;
      going = λ rows. theory_first (problem (goal.at.loop-at-init c).Start rows) c.args.text.now (predicate_index c.args.problem.now c.args.table.now) (memory c.args.names.now c.args.work.now);
    }

pub returns-in-Err : goal.returns-in-Err
returns-in-Err c =
    λ rows. theory_refused (empty (goal.at.returns-in-Err c).Start) (c.loop-at.invariant.going rows) c.loop-at-test.true _ (rw (c.new-setting.ensures.text, c.new-setting.ensures.problem, c.new-setting.ensures.table) at (c.in-Err.ensures rows))

pub overflow_add-theory-in-loop-at : goal.overflow_add-theory-in-loop-at
overflow_add-theory-in-loop-at c =
    let f = rw (c.new-setting.ensures.text, c.new-setting.ensures.problem, c.new-setting.ensures.table) at (c.in-Ok.ensures []) in
    omega (arith, f.after, f.within, c.loop-at.invariant.small, c.requires.0)

pub returns-then-not-limits_fit : goal.returns-then-not-limits_fit
returns-then-not-limits_fit c =
    λ rows. theory_over (empty (goal.at.returns-then-not-limits_fit c).Start) (c.loop-at.invariant.going rows) c.loop-at-test.true (rw (c.new-setting.ensures.text, c.new-setting.ensures.problem, c.new-setting.ensures.table) at (c.in-Ok.ensures rows)) (sym c.limits_fit.ensures ∙ c.if-not-limits_fit.true)

pub loop-at-smaller : goal.loop-at-smaller
loop-at-smaller c = let f = rw (c.new-setting.ensures.text, c.new-setting.ensures.problem, c.new-setting.ensures.table) at (c.in-Ok.ensures []) in omega (arith, f.after, f.within)

pub loop-at-preserved : goal.loop-at-preserved
loop-at-preserved c =
    let all = sym c.limits_fit.ensures ∙ c.if-not-limits_fit.false in
    record {
      within = (rw (c.new-setting.ensures.text, c.new-setting.ensures.problem, c.new-setting.ensures.table) at (c.in-Ok.ensures [])).within;
      small = (totals_small _ _ _ _ all).0;
      few = (totals_small _ _ _ _ all).1;
      long = c.read_theory_line.auto.work ∙ c.loop-at.invariant.long;
      going = λ rows. theory_on (empty (goal.at.loop-at-preserved c).Start) (c.loop-at.invariant.going rows) c.loop-at-test.true (rw (c.new-setting.ensures.text, c.new-setting.ensures.problem, c.new-setting.ensures.table) at (c.in-Ok.ensures rows)) all;
    }

pub returns : goal.returns
returns c =
    λ rows. theory_end (empty (goal.at.returns c).Start) (c.loop-at.invariant.going rows) c.loop-at-test.false (omega (arith, c.loop-at.invariant.small, c.requires.4))
