-- The cycle of calls that reads a formula meets its contracts: each return hands what was told of the parts to the law of its kind.
use native.Mathlib.Omega.{arith}
use Prim.Native.Nat.{◌+◌, ◌-◌, ◌≤◌, ◌<◌}
use mathlib.Core.Path.{sym, ◌∙◌}
use lib.ListN.{length, drop}
use Rattle.std.proofs.lemmas.Result.{err_from_is_err_and}
use Rattle.logic.specs.Reading.{read_formula}
use Rattle.words.specs.memory.Stored.{side_of, connective_of}
use Rattle.terms.specs.memory.Entries.{setting_of, memory}
use Rattle.reading.specs.declared.fault.Fault.TheVariants.{Malformed}
use Rattle.reading.proofs.memory.PartReads.{parts_few, parts_first, parts_refused, parts_last, parts_on, some_more}
use Rattle.reading.proofs.memory.Connectives.{shrinks_formula, connective-none, connective-refused, connective_open, connective-found}
use Rattle.reading.proofs.memory.Quantifiers.{guarded-refused, guarded_open, guarded-within, guarded_bodiless, guarded-found, guarded-few, quantifier_nameless, quantifier_open, bracket_within, quantifier-refused, quantifier-found}
use Rattle.reading.proofs.memory.Levels.{no_level, refused_behind, opens_so, leaf_read, sign_read}
use Rattle.reading.proofs.read.+formula.Goals as goal

-- A connective.

pub read_connective-returns-then-none_follow : goal.read_connective-returns-then-none_follow
read_connective-returns-then-none_follow t c =
    rw (c.set.ensures, c.connective_word.ensures, c.of_connective-facts.ensures, c.simple.ensures)
    (connective-none _ _ (connective_of c.args.sign) c.args.at (sym c.none_follow.ensures ∙ c.if-none_follow.true) _ _ _)

pub read_connective-returns-in_err-parts : goal.read_connective-returns-in_err-parts
read_connective-returns-in_err-parts t c =
    let p = err_from_is_err_and c.from_residual.result c.from_residual.ensures.1 in
    rw (p.1, p.2)
    (refused_behind c.args.setting.now.text.now _
    (connective-refused (setting_of c.args.setting.now) _ (connective_of c.args.sign) c.args.at (shrinks_formula c.args.levels) (sym c.none_follow.ensures ∙ c.if-none_follow.false) _ c.further_parts-most.ensures _ c.in_err-parts.ensures.is)
    c.in_err-parts.ensures.early)

pub read_connective-returns-then-not-parts_close : goal.read_connective-returns-then-not-parts_close
read_connective-returns-then-not-parts_close t c =
    refused_behind {fault = Malformed} c.args.setting.now.text.now _
    (connective_open _ _ (connective_of c.args.sign) _ (shrinks_formula c.args.levels) (sym c.none_follow.ensures ∙ c.if-none_follow.false) _ c.further_parts-most.ensures _ _ _ _ _ c.in_ok-parts.ensures
    (sym c.parts_close.ensures ∙ c.if-not-parts_close.true))
    (omega arith)

pub read_connective-overflow_cast-count : goal.read_connective-overflow_cast-count
read_connective-overflow_cast-count t c = omega (arith, parts_few _ c.in_ok-parts.ensures.taken, c.in_ok-parts.ensures)

pub read_connective-connective_word-requires-2 : goal.read_connective-connective_word-requires-2
read_connective-connective_word-requires-2 t c = omega (arith, parts_few _ c.in_ok-parts.ensures.taken, c.in_ok-parts.ensures)

pub read_connective-returns : goal.read_connective-returns
read_connective-returns t c =
    rw (c.set-2.ensures, c.connective_word-2.ensures, c.of_connective-facts-2.ensures, c.close_size.ensures.0)
    (connective-found _ _ (connective_of c.args.sign) _ (shrinks_formula c.args.levels) (sym c.none_follow.ensures ∙ c.if-none_follow.false) _ c.further_parts-most.ensures _ _ _ _ _ c.in_ok-parts.ensures
    (sym c.parts_close.ensures ∙ c.if-not-parts_close.false))

-- A formula.

pub read_formula-returns-then-levels-eq0 : goal.read_formula-returns-then-levels-eq0
read_formula-returns-then-levels-eq0 t c = no_level c.args.levels _ c.if-levels-eq0.true

pub read_formula-read_connective-requires : goal.read_formula-read_connective-requires
read_formula-read_connective-requires t c = omega (arith, opens_so _ _ c.requires.0 _ c.opening_at.ensures _ c.in-Some.is)

pub read_formula-read_quantifier-requires : goal.read_formula-read_quantifier-requires
read_formula-read_quantifier-requires t c = omega (arith, opens_so _ _ c.requires.0 _ c.opening_at.ensures _ c.in-Some.is)

pub read_formula-returns-in_default : goal.read_formula-returns-in_default
read_formula-returns-in_default t c =
    leaf_read _ _ c.if-levels-eq0.false _ _ _ _ _ (opens_so _ _ c.requires.0 _ c.opening_at.ensures _ c.in_default.is) _ c.read_leaf.ensures c.ok_or.ensures.value

pub read_formula-returns-in-Connective : goal.read_formula-returns-in-Connective
read_formula-returns-in-Connective t c =
    let o = opens_so _ _ c.requires.0 _ c.opening_at.ensures _ c.in-Some.is in
    sign_read _ _ c.if-levels-eq0.false _ _ _ _ _ _ _ (rw c.in-Connective.is at o) c.read_connective.ensures

pub read_formula-returns-in-Quantifier : goal.read_formula-returns-in-Quantifier
read_formula-returns-in-Quantifier t c =
    let o = opens_so _ _ c.requires.0 _ c.opening_at.ensures _ c.in-Some.is in
    sign_read _ _ c.if-levels-eq0.false _ _ _ _ _ _ _ (rw c.in-Quantifier.is at o) c.read_quantifier.ensures

-- A guard and a body.

pub read_guarded-returns-in_err-guard : goal.read_guarded-returns-in_err-guard
read_guarded-returns-in_err-guard t c =
    let p = err_from_is_err_and c.from_residual.result c.from_residual.ensures.1 in
    rw (p.1, p.2)
    record { is = guarded-refused (setting_of c.args.setting.now) _ c.args.at (memory c.args.names.now c.args.work.now) c.args.to _ c.in_err-guard.ensures.is; early = c.in_err-guard.ensures.early }

pub read_guarded-returns-then-not-begins_at : goal.read_guarded-returns-then-not-begins_at
read_guarded-returns-then-not-begins_at t c =
    record { is = guarded_open _ _ _ _ _ _ _ c.in_ok-guard.ensures (sym c.begins_at.ensures ∙ c.if-not-begins_at.true); early = omega arith }

pub read_guarded-read_formula-requires-2 : goal.read_guarded-read_formula-requires-2
read_guarded-read_formula-requires-2 t c =
    omega (arith, c.requires, c.in_ok-guard.ensures, guarded-within _ _ _ _ _ _ _ c.in_ok-guard.ensures (sym c.begins_at.ensures ∙ c.if-not-begins_at.false))

pub read_guarded-returns-in_err-body : goal.read_guarded-returns-in_err-body
read_guarded-returns-in_err-body t c =
    let p = err_from_is_err_and c.from_residual-in_err-body.result c.from_residual-in_err-body.ensures.1 in
    rw (p.1, p.2)
    record { is = guarded_bodiless _ _ _ _ _ _ _ c.in_ok-guard.ensures (sym c.begins_at.ensures ∙ c.if-not-begins_at.false) _ c.in_err-body.ensures.is; early = c.in_err-body.ensures.early }

pub read_guarded-returns : goal.read_guarded-returns
read_guarded-returns t c =
    guarded-found _ _ _ _ _ _ _ c.in_ok-guard.ensures (sym c.begins_at.ensures ∙ c.if-not-begins_at.false) _ _ c.in_ok-body.ensures

-- The parts of a connective.

pub read_parts-loop-one-init : goal.read_parts-loop-one-init
read_parts-loop-one-init t c = record { few = rw c.none-parts.ensures (omega arith); passed = rw c.none-parts.ensures (parts_first _ _ _ _ _ _ c.requires.0 _ (omega arith)) }

pub read_parts-returns-in_err-one : goal.read_parts-returns-in_err-one
read_parts-returns-in_err-one t c =
    let p = err_from_is_err_and c.from_residual.result c.from_residual.ensures.1 in
    rw (p.1, p.2) record { is = parts_refused _ _ _ _ _ _ _ _ _ _ c.loop-one.invariant.passed _ c.in_err-one.ensures.is; early = c.in_err-one.ensures.early }

pub read_parts-returns-then-not-another_follows : goal.read_parts-returns-then-not-another_follows
read_parts-returns-then-not-another_follows t c =
    rw c.with-parts.ensures (parts_last _ _ _ _ _ _ _ _ _ _ c.loop-one.invariant.passed _ _ c.in_ok-one.ensures (sym c.another_follows.ensures ∙ c.if-not-another_follows.true))

pub read_parts-loop-one-smaller : goal.read_parts-loop-one-smaller
read_parts-loop-one-smaller t c =
    let some : 0 < (c.args.most - c.loop-one.parts.count) = some_more _ (drop c.in_ok-one.one.next c.args.setting.now.text.now) (sym c.another_follows.ensures ∙ c.if-not-another_follows.false) in
    rw c.with-parts.ensures (omega arith)

pub read_parts-loop-one-preserved : goal.read_parts-loop-one-preserved
read_parts-loop-one-preserved t c =
    let another = sym c.another_follows.ensures ∙ c.if-not-another_follows.false in
    let some : 0 < (c.args.most - c.loop-one.parts.count) = some_more _ (drop c.in_ok-one.one.next c.args.setting.now.text.now) another in
    rw c.with-parts.ensures
    record {
      few = omega arith;
      passed = parts_on _ _ _ _ _ _ _ _ _ _ c.loop-one.invariant.passed _ _ c.in_ok-one.ensures another _ (omega arith);
    }

-- A quantifier.

pub read_quantifier-returns-in_default : goal.read_quantifier-returns-in_default
read_quantifier-returns-in_default t c =
    refused_behind {fault = Malformed} c.args.setting.now.text.now _ (quantifier_nameless (setting_of c.args.setting.now) _ _ c.args.at c.in_default.ensures) (omega arith)

pub read_quantifier-returns-then-peek-ne91 : goal.read_quantifier-returns-then-peek-ne91
read_quantifier-returns-then-peek-ne91 t c =
    refused_behind {fault = Malformed} c.args.setting.now.text.now _ (quantifier_open (setting_of c.args.setting.now) _ _ _ _ _ c.in-Some.ensures (λ e. c.if-peek-ne91.true (c.peek.ensures ∙ e))) (omega arith)

pub read_quantifier-read_guarded-requires : goal.read_quantifier-read_guarded-requires
read_quantifier-read_guarded-requires t c =
    let within : c.in-Some.variable.next + 1 ≤ length c.binding-inner.result.text.now =
    rw c.binding-inner.ensures.text (bracket_within (setting_of c.args.setting.now) (read_formula c.args.levels) (side_of c.args.every) _ _ _ c.in-Some.ensures (sym c.peek.ensures ∙ c.if-peek-ne91.false)) in
    omega (arith, within, c.in-Some.ensures, c.requires, c.binding-inner.ensures.count)

pub read_quantifier-returns-in_err-guarded : goal.read_quantifier-returns-in_err-guarded
read_quantifier-returns-in_err-guarded t c =
    let p = err_from_is_err_and c.from_residual.result c.from_residual.ensures.1 in
    rw (p.1, p.2)
    (refused_behind c.args.setting.now.text.now _
    (quantifier-refused (setting_of c.args.setting.now) _ _ _ _ _ c.in-Some.ensures (sym c.peek.ensures ∙ c.if-peek-ne91.false) _ (rw c.binding-inner.ensures.text at c.in_err-guarded.ensures.is))
    c.in_err-guarded.ensures.early)

pub read_quantifier-of_quantifier-requires : goal.read_quantifier-of_quantifier-requires
read_quantifier-of_quantifier-requires t c = guarded-few _ _ _ _ _ _ _ c.in_ok-guarded.ensures (rw c.binding-inner.ensures.text (omega arith))

pub read_quantifier-returns : goal.read_quantifier-returns
read_quantifier-returns t c =
    rw (c.set.ensures, c.quantifier_word.ensures, c.of_quantifier.ensures)
    (quantifier-found (setting_of c.args.setting.now) _ _ _ _ _ c.in-Some.ensures (sym c.peek.ensures ∙ c.if-peek-ne91.false) _ c.binding-inner.ensures.is _ _ _ _ _ c.list-index.ensures _ _ _ c.in_ok-guarded.ensures)
