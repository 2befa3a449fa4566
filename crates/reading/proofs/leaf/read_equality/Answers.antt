-- `leaf::read_equality` reads at most two terms and a bracket, and asks for two.
use Rattle.terms.specs.memory.Entries.{setting_of, memory}
use Rattle.reading.proofs.memory.Leaves.{equality-refused, equality_other, equality-found}
use Rattle.reading.proofs.leaf.read_equality.Goals as goal

pub returns-in_err-terms : goal.returns-in_err-terms
returns-in_err-terms c =
    rw c.from_residual.ensures (equality-refused (setting_of c.args.setting.now) _ (memory c.args.names.now c.args.work.now) c.args.to c.in_err-terms.ensures)

pub returns-then-terms-ne2 : goal.returns-then-terms-ne2
returns-then-terms-ne2 c = equality_other _ _ _ _ _ _ _ _ c.in_ok-terms.ensures c.if-terms-ne2.true

pub returns : goal.returns
returns c =
    rw (c.set.ensures, c.word.ensures, c.simple-facts.ensures)
    (equality-found _ _ _ _ _ _ _ _ c.in_ok-terms.ensures c.if-terms-ne2.false)
