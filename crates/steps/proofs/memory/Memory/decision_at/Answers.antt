-- `Memory::decision_at`: the rule's decision and its flags, on the theory's words and the rows.
use native.Mathlib.Omega.{arith}
use Prim.Native.Nat.{ℕ, ◌-◌}
use mathlib.Core.Path.{◌≡◌, sym, ap, subst, ◌∙◌}
use mathlib.Core.List.{List}
use mathlib.Core.Bool.{Bool}
use lib.ListN.{take, drop}
use lib.Seq.{length-take-le}
use Rattle.std.specs.Prelude.{Option, Some, Ok, Err}
use Rattle.table.specs.declared.table.Table.{Table}
use Rattle.derivation.specs.declared.rule_line.Rule.{Rule}
use Rattle.formula.specs.memory.Deciding.{rule_fit}
use Rattle.formula.specs.declared.decide.Fit.{Fit}
use Rattle.steps.specs.memory.Held.{misfit}
use Rattle.steps.specs.memory.Memory.{rows_of, held_of}
use Rattle.steps.specs.memory.Decisions.{Flagged, ToldFlags, Decides}
use Rattle.steps.specs.declared.memory.Memory.{Memory}
use Rattle.steps.proofs.Regions.{slice_part}
use Rattle.steps.proofs.Decisions.{fit_here, decision-told, handed_on, some_of_ok, none_of_err}
use Rattle.steps.proofs.memory.Memory.decision_at.Goals as goal
use Rattle.steps.proofs.memory.Memory.decision_at.Goals.{In_ok-fit, In_err-fit}

module _ (m : Memory) where
  -- the rows as the code takes them
  abbrev taken : List ℕ
  taken = take (m.layout.names - m.layout.rows) (drop m.layout.rows m.work.now)

  rows : taken ≡ rows_of m
  rows = slice_part m.work.now m.layout.rows m.layout.names m.arranged.names

  told : (table : Table) (rule : Rule) (at : ℕ) {decided : Option Fit} → decided ≡ rule_fit table taken rule (drop at (held_of m).words)
      → decided ≡ rule_fit table (rows_of m) rule (drop at (held_of m).words)
  told table rule at e = e ∙ ap (λ rows. rule_fit table rows rule (drop at (held_of m).words)) rows

-- the rule fits
fits : (c : In_ok-fit) → rule_fit c.args.table.now (rows_of c.args.self.now) c.args.rule (drop c.args.at (held_of c.args.self.now).words) ≡ Some c.in_ok-fit.fit
fits c =
    sym (told c.args.self.now c.args.table.now c.args.rule c.args.at c.rule_fit.ensures) ∙ some_of_ok _ _ (sym c.ok_or.ensures.value ∙ c.in_ok-fit.was)

-- it does not
no_fit : (c : In_err-fit) → Decides c.args.table.now (rows_of c.args.self.now) c.args.rule (drop c.args.at (held_of c.args.self.now).words) (Err c.in_err-fit.field-0.0)
no_fit c =
    let m = c.args.self.now in
    let rest = drop c.args.at (held_of m).words in
    let none = none_of_err _ _ (sym c.ok_or.ensures.value ∙ c.in_err-fit.was) in
    rw none.1 (ap (λ d. misfit d rest) (sym (told m c.args.table.now c.args.rule c.args.at c.rule_fit.ensures) ∙ none.0))

-- with which flags
flagged : (c : In_ok-fit) (flags : List Bool) → ToldFlags c.args.table.now (taken c.args.self.now) (drop c.args.at (held_of c.args.self.now).words) c.in_ok-fit.fit (Ok flags)
    → Decides c.args.table.now (rows_of c.args.self.now) c.args.rule (drop c.args.at (held_of c.args.self.now).words) (Ok (record { fit = c.in_ok-fit.fit; flags = flags }))
flagged c flags f =
    let m = c.args.self.now in
    (fits c, (f.0, subst (λ rows. Flagged c.args.table.now rows (drop c.args.at (held_of m).words) c.in_ok-fit.fit flags) (rows m) f.1))

pub returns-in_err-fit-clause-decides : goal.returns-in_err-fit-clause-decides
returns-in_err-fit-clause-decides c =
    let m = c.args.self.now in
    handed_on (Decides c.args.table.now (rows_of m) c.args.rule (drop c.args.at (held_of m).words)) c.from_residual.result c.in_err-fit.field-0.0 c.from_residual.ensures.1
    (no_fit (goal.at.returns-in_err-fit-clause-decides c).In_err-fit)

pub returns-in_err-fit-clause-decided : goal.returns-in_err-fit-clause-decided
returns-in_err-fit-clause-decided c =
    let m = c.args.self.now in
    decision-told c.args.table.now (rows_of m) c.args.rule (held_of m) c.args.at c.from_residual.result
    (handed_on (Decides c.args.table.now (rows_of m) c.args.rule (drop c.args.at (held_of m).words)) c.from_residual.result c.in_err-fit.field-0.0 c.from_residual.ensures.1
    (no_fit (goal.at.returns-in_err-fit-clause-decided c).In_err-fit))

pub flags_for-requires : goal.flags_for-requires
flags_for-requires c =
    let m = c.args.self.now in
    fit_here c.args.table.now (rows_of m) c.args.rule (held_of m).words c.args.at _ (fits (goal.at.flags_for-requires c).In_ok-fit)

pub returns-in_err-flags-clause-decides : goal.returns-in_err-flags-clause-decides
returns-in_err-flags-clause-decides c =
    let m = c.args.self.now in
    handed_on (Decides c.args.table.now (rows_of m) c.args.rule (drop c.args.at (held_of m).words)) c.from_residual-in_err-flags.result c.in_err-flags.field-0.0 c.from_residual-in_err-flags.ensures.1
    (rw (fits (goal.at.returns-in_err-flags-clause-decides c).In_ok-fit) c.in_err-flags.ensures)

pub returns-in_err-flags-clause-decided : goal.returns-in_err-flags-clause-decided
returns-in_err-flags-clause-decided c =
    let m = c.args.self.now in
    decision-told c.args.table.now (rows_of m) c.args.rule (held_of m) c.args.at c.from_residual-in_err-flags.result
    (handed_on (Decides c.args.table.now (rows_of m) c.args.rule (drop c.args.at (held_of m).words)) c.from_residual-in_err-flags.result c.in_err-flags.field-0.0 c.from_residual-in_err-flags.ensures.1
    (rw (fits (goal.at.returns-in_err-flags-clause-decided c).In_ok-fit) c.in_err-flags.ensures))

pub returns-clause-decides : goal.returns-clause-decides
returns-clause-decides c = flagged (goal.at.returns-clause-decides c).In_ok-fit c.in_ok-flags.flags c.in_ok-flags.ensures

pub returns-clause-decided : goal.returns-clause-decided
returns-clause-decided c =
    let m = c.args.self.now in
    decision-told c.args.table.now (rows_of m) c.args.rule (held_of m) c.args.at (Ok (record { fit = c.in_ok-fit.fit; flags = c.in_ok-flags.flags }))
    (flagged (goal.at.returns-clause-decided c).In_ok-fit c.in_ok-flags.flags c.in_ok-flags.ensures)

pub returns-clause-within : goal.returns-clause-within
returns-clause-within c =
    let m = c.args.self.now in
    let here = fit_here c.args.table.now (rows_of m) c.args.rule (held_of m).words c.args.at _ (fits (goal.at.returns-clause-within c).In_ok-fit) in
    let l = length-take-le m.live.full m.work.now (omega arith) in
    omega arith
