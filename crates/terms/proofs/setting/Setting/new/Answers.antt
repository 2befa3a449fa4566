-- `Setting::new` binds no variable.
use mathlib.Core.Path.{refl, ap}
use Rattle.terms.specs.memory.Entries.{setting, predicate_index}
use Rattle.terms.specs.memory.Signature.{signature_of}
use Rattle.terms.proofs.memory.Bindings.{bound-none}
use Rattle.terms.proofs.setting.Setting.new.Goals as goal

pub returns : goal.returns
returns c =
    let text = c.args.text.now in
    let problem = c.args.problem.now in
    let table = c.args.table.now in
    record {
      is = ap (λ bound. setting text bound (signature_of problem table) (predicate_index problem table)) (bound-none text c.new.result c.new.ensures);
      text = refl;
      problem = refl;
      table = refl;
      count = c.new.ensures;
    }
