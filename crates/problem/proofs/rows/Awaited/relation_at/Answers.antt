-- `relation_at` reads a relation between `rows=` and the line's end.
use Prim.Native.Nat.{◌+◌}
use mathlib.Core.Path.{sym, ◌∙◌}
use Rattle.grammar.specs.Bytes.{bytes}
use Rattle.text.specs.memory.Found.{WordFound}
use Rattle.text.proofs.Found.{word-found}
use Rattle.problem.proofs.RelationPlaces.{relation_unnamed, relation_misspelled}
use Rattle.problem.proofs.rows.Awaited.relation_at.Goals as goal
use Rattle.problem.proofs.rows.Awaited.relation_at.Goals.{Else-not-begins_at}

-- the word is there
word : (c : Else-not-begins_at) → WordFound (bytes "rows=") c.args.text.now c.args.at (c.args.at + 5)
word c = word-found c.args.text.now c.args.at (bytes "rows=") c.requires (sym c.begins_at.ensures ∙ c.if-not-begins_at.false)

pub returns-then-not-begins_at-clause-read : goal.returns-then-not-begins_at-clause-read
returns-then-not-begins_at-clause-read c =
    relation_unnamed c.args.self.now c.args.rows.now c.args.text.now c.args.at (sym c.begins_at.ensures ∙ c.if-not-begins_at.true) c.args.rows.now

pub kind_at-requires : goal.kind_at-requires
kind_at-requires c = (word (goal.at.kind_at-requires c).Else-not-begins_at).within

pub returns-in_err-value-clause-read : goal.returns-in_err-value-clause-read
returns-in_err-value-clause-read c =
    rw c.from_residual.ensures
    (relation_misspelled c.args.self.now c.args.rows.now c.args.text.now c.args.at (word (goal.at.returns-in_err-value-clause-read c).Else-not-begins_at)
    c.kind_at.new.rows c.in_err-value.ensures)
