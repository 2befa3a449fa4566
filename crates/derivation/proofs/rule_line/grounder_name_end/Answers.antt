-- `rule_line::grounder_name_end` reads a run of 1 to 31 printable bytes.
use Rattle.std.proofs.Common.{arith}
use Rattle.derivation.proofs.LinePlaces.{grounder_empty, grounder-long, grounder-named}
use Rattle.derivation.proofs.rule_line.grounder_name_end.Goals as goal
use Rattle.derivation.proofs.rule_line.grounder_name_end.Goals.{then-end-at-via-then-end-at, then-end-at-via-else-end-at+then-end-at-gt-GROUNDER_SIZE}

pub returns-then-end-at : goal.returns-then-end-at
returns-then-end-at c =
    let ends = c.run_end-end.ensures.0 in
    elim c.then-end-at.branch [
      | then-end-at-via-then-end-at w ↦ grounder_empty c.args.text.now c.args.at (omega arith)
      | then-end-at-via-else-end-at+then-end-at-gt-GROUNDER_SIZE w ↦ grounder-long c.args.text.now c.args.at (omega arith)
    ]

pub returns : goal.returns
returns c =
    let ends = c.run_end-end.ensures.0 in
    grounder-named c.args.text.now c.args.at _ ends c.run_end-end.ensures.1 (omega arith) (omega arith)
