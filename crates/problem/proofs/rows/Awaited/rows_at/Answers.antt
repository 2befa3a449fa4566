-- `rows_at` reads a `rows=` line and takes the rows that it gives.
use Prim.Native.Nat.{ℕ, ◌<◌}
use mathlib.Core.Path.{◌≡◌, subst}
use Rattle.std.specs.Prelude.{Option, None, IfSome}
use Rattle.grammar.specs.Problem.{read_relation}
use Rattle.text.specs.declared.read.Read.{Read}
use Rattle.problem.specs.memory.Rows.{RelationFound, ToldRelation, ToldGiven, ToldRowsRead}
use Rattle.problem.specs.declared.rows.RelationKept.{RelationKept}
use Rattle.problem.specs.declared.fault.Fault.TheVariants.{Unfit}
use Rattle.problem.proofs.Refusing.{answered}
use Rattle.problem.proofs.RelationPlaces.{rows_unfit_lem, rows_taken}
use Rattle.problem.proofs.rows.Awaited.rows_at.Goals as goal
use Rattle.problem.proofs.rows.Awaited.rows_at.Goals.{After-rows_of}

-- a relation is read, and what it gives
module _ (read : After-rows_of) where
  found : RelationFound read_relation read.args.self.now read.args.rows.now read.relation_at.new.rows read.args.text.now read.args.at read.in_ok-value.field-0.value read.in_ok-value.field-0.next
  found = subst (ToldRelation read_relation read.args.self.now read.args.rows.now read.relation_at.new.rows read.args.text.now read.args.at) read.in_ok-value.ensures.ok_part read.relation_at.ensures.read

  given : (answer : Option ℕ) → read.rows_of.result ≡ answer → ToldGiven read.args.self.now read.args.rows.now read.rows_of.new.rows found.relation answer
  given answer e =
      subst (ToldGiven read.args.self.now read.args.rows.now read.rows_of.new.rows found.relation) e
      (read.rows_of.ensures.told read.args.rows.now found.relation found.told)

pub returns-in_err-value-2 : goal.returns-in_err-value-2
returns-in_err-value-2 c =
    let r = (goal.at.returns-in_err-value-2 c).After-rows_of in
    answered (ToldRowsRead c.args.self.now c.args.rows.now c.rows_of.new.rows c.args.text.now c.args.at) c.from_residual-in_err-value-2.result
    c.in_err-value-2.field-0.0 c.from_residual-in_err-value-2.ensures.1 c.rows_of.result Unfit c.in_err-value-2.ensures.value
    (rows_unfit_lem c.args.self.now c.args.rows.now c.rows_of.new.rows c.args.text.now c.args.at c.in_ok-value.field-0.value c.in_ok-value.field-0.next (found r)
    (given r None c.in_err-value-2.ensures.ok_part))

pub returns : goal.returns
returns c =
    let r = (goal.at.returns c).After-rows_of in
    let after : c.args.at < c.in_ok-value.field-0.next =
    subst (λ (r : Option (Read RelationKept)). IfSome r (λ r. c.args.at < r.next)) c.in_ok-value.ensures.ok_part c.relation_at.ensures.after in
    rows_taken c.args.self.now c.args.rows.now c.rows_of.new.rows c.args.text.now c.args.at c.in_ok-value.field-0.value c.in_ok-value.field-0.next (found r)
    c.in_ok-value-2.value (given r _ c.in_ok-value-2.ensures.ok_part) after
