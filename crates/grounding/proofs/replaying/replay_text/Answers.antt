-- `replaying::replay_text`: the heading's two lines, and the rest.
use Rattle.grounding.proofs.Turns.{version-refused, grounder-refused, grounder_on}
use Rattle.grounding.proofs.replaying.replay_text.Goals as goal

pub returns-in_default-clause-told : goal.returns-in_default-clause-told
returns-in_default-clause-told c =
    let f = rw (c.new-reader.ensures.0, c.new-reader.ensures.1) at c.in_default.ensures.read in
    rw (c.malformed.ensures.0, c.malformed.ensures.1) (version-refused c.args.table.now c.args.memory.now c.args.text.now f)

pub returns-in_default-grounder-clause-told : goal.returns-in_default-grounder-clause-told
returns-in_default-grounder-clause-told c =
    let version = rw (c.new-reader.ensures.0, c.new-reader.ensures.1) at c.in-Some.ensures.read in
    let more = rw c.new-reader.ensures.1 at c.in-Some.ensures.on.0 in
    let f = rw (c.version.ensures.text, c.new-reader.ensures.0) at c.in_default-grounder.ensures.read in
    rw (c.malformed-in_default-grounder.ensures.0, c.malformed-in_default-grounder.ensures.1)
    (grounder-refused c.args.table.now c.args.memory.now c.args.text.now _ version more f)

pub replay_lines-requires-clause-replaying : goal.replay_lines-requires-clause-replaying
replay_lines-requires-clause-replaying c =
    let version = rw (c.new-reader.ensures.0, c.new-reader.ensures.1) at c.in-Some.ensures.read in
    let more = rw c.new-reader.ensures.1 at c.in-Some.ensures.on.0 in
    let grounder = rw (c.version.ensures.text, c.new-reader.ensures.0) at c.in-Some-grounder.ensures.read in
    rw (c.grounder.ensures.text, c.version.ensures.text, c.new-reader.ensures.0, c.in-Some-grounder.ensures.on.1, c.in-Some.ensures.on.1, c.new-reader.ensures.2)
    (grounder_on c.args.table.now c.args.memory.now c.args.text.now _ version more _ grounder c.in-Some-grounder.ensures.on.0)
