-- `leaf::read_atom` reads a predicate's name and its terms, and stores the word of both before the terms.
use mathlib.Core.Path.{◌≡◌, ◌∙◌}
use Rattle.table.specs.memory.Table.{name_at}
use Rattle.table.proofs.Tables.{found_or_count}
use Rattle.terms.specs.memory.Entries.{predicate_index, setting_of, memory}
use Rattle.terms.proofs.memory.Signature.{position_table}
use Rattle.reading.proofs.memory.Leaves.{atom_nameless, atom-refused, atom-found}
use Rattle.reading.proofs.leaf.read_atom.Goals as goal

pub returns-in_err-name : goal.returns-in_err-name
returns-in_err-name c =
    rw c.from_residual.ensures (atom_nameless (setting_of c.args.setting.now) c.args.at (memory c.args.names.now c.args.work.now) c.args.to c.in_err-name.ensures)

pub returns-in_err-terms : goal.returns-in_err-terms
returns-in_err-terms c =
    rw c.from_residual-in_err-terms.ensures
    (atom-refused (setting_of c.args.setting.now) c.args.at (memory c.args.names.now c.args.work.now) c.args.to _ _ c.in_ok-name.ensures c.in_err-terms.ensures)

pub returns : goal.returns
returns c =
    let p = name_at c.args.setting.now.text.now c.in_ok-name.name.value in
    let index : c.unwrap_or-index.result ≡ predicate_index c.args.setting.now.problem.now c.args.setting.now.table.now p =
    c.unwrap_or-index.ensures ∙ rw (c.find-found.ensures, c.of.ensures) (found_or_count _ c.args.setting.now.table.now p (position_table _ c.args.setting.now.table.now p)) in
    rw (c.set.ensures, c.word.ensures, c.atom_facts.ensures)
    (atom-found _ _ _ _ _ _ c.in_ok-name.ensures _ _ _ _ c.in_ok-terms.ensures _ index)
