-- `instance::store_instantiated` stores the connective's word with the count of copies, and the copies of the body.
use native.Mathlib.Omega.{arith}
use mathlib.Core.Path.{◌∙◌}
use lib.ListN.{get_or}
use Rattle.formula.proofs.memory.Instances.{instantiated_stores}
use Rattle.formula.proofs.instance.store_instantiated.Goals as goal

pub returns : goal.returns
returns c =
    instantiated_stores c.args.at c.args.end c.past-body.result (get_or c.args.work.now c.args.at 0) c.junction_word.result c.args.flags.now (omega (arith, c.requires.0)) c.past-body.ensures.0
    (c.junction_word.ensures ∙ rw (c.set_count-count.ensures.0, c.is_of.ensures)) c.put-next.ensures c.instances.ensures
