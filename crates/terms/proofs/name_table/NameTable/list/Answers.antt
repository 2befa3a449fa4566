-- `NameTable::list` puts a name behind the others, unless it is there or there is no room.
use borrow.Author.Rules.{rules}
use Rattle.std.specs.Prelude.{Some, None}
use Rattle.table.specs.memory.Table.{name_at}
use Rattle.terms.proofs.memory.NameTable.{found_in, listed_there, listed_new}
use Rattle.terms.proofs.name_table.NameTable.list.Goals as goal

pub returns-in-Some : goal.returns-in-Some
returns-in-Some c =
    let f = found_in c.args.text.now c.args.self.now (search rules) (name_at c.args.text.now c.args.name) (Some c.in-Some.index) (rw c.of.ensures at c.in-Some.ensures) in
    listed_there c.args.text.now c.args.name c.args.self.now (search rules) c.in-Some.index f.0 f.1

pub returns-in-None : goal.returns-in-None
returns-in-None c =
    let f = found_in c.args.text.now c.args.self.now (search rules) (name_at c.args.text.now c.args.name) None (rw c.of.ensures at c.in-None.ensures) in
    listed_new c.args.text.now c.args.name c.args.self.now (search rules) f c.add.new.self c.add.result c.add.ensures
