-- `kept` judges a row against those before it, and stores it where it may stand.
use Rattle.problem.proofs.RowsKept.{rows-size, rows-order, rows-full}
use Rattle.problem.proofs.rows.Awaited.kept.Goals as goal
use Rattle.problem.proofs.rows.Awaited.kept.Goals.{then-size-self-via-then-size-self, then-size-self-via-else-size-self+then-rank-last, then-size-self-via-else-size-self+else-rank-last+then-self-count-ge-TUPLE_COUNT}

pub returns-then-size-self : goal.returns-then-size-self
returns-then-size-self c =
    let a = c.args.self.now in
    let rows = c.args.rows.now in
    rw (c.in_ok-count.was, c.in_ok-size.was)
    (elim c.then-size-self.branch [
      | then-size-self-via-then-size-self w ↦ rows-size a rows rows c.in_ok-count.field-0 c.in_ok-size.field-0 w.if-size-self.true
      | then-size-self-via-else-size-self+then-rank-last w ↦
          rows-order a rows rows c.in_ok-count.field-0 c.in_ok-size.field-0 w.if-size-self.false w.if-rank-last.true
      | then-size-self-via-else-size-self+else-rank-last+then-self-count-ge-TUPLE_COUNT w ↦
          rows-full a rows rows c.in_ok-count.field-0 c.in_ok-size.field-0 w.if-size-self.false w.if-self-count-ge-TUPLE_COUNT.true
    ])
