-- `grounding::ground_read`: the theory's words and names begin the replay, whose end is the ground theory.
use borrow.Author.Rules.{rules}
use native.Mathlib.Omega.{arith}
use mathlib.Core.Path.{◌≡◌, sym, ◌∙◌}
use mathlib.Core.List.{◌++◌}
use lib.ListN.{length, take, drop}
use lib.Seq.{length_front}
use Rattle.logic.specs.Meaning.{count_from}
use mathlib.Core.Bool.{false}
use Rattle.std.specs.Prelude.{Ok}
use Rattle.demands.specs.Answer.{grounded}
use Rattle.steps.specs.memory.Held.{held}
use Rattle.steps.specs.memory.Steps.{rows_in}
use Rattle.steps.specs.memory.Memory.{rows_of, held_of}
use Rattle.held.proofs.Begins.{found-full, found-count}
use Rattle.grounding.specs.declared.fault.Fault.TheVariants.{Derivation}
use Rattle.grounding.specs.memory.Grounds.{GroundTold, ended_in}
use Rattle.grounding.proofs.GroundReads.{theory_ground, end-stopped, ended-first, handed_on}
use Rattle.grounding.proofs.grounding.ground_read.Goals as goal
use Rattle.grounding.proofs.grounding.ground_read.Goals.{After-named-memory, After-read_theory}

-- the theory's part of memory is written, and memory is as long as it was
same : (c : After-read_theory) → length c.read_theory.new.work ≡ length (take c.args.layout.rows c.args.work.now)
same c = search rules

long : (c : After-read_theory) → length (c.read_theory.new.work ++ drop c.args.layout.rows c.args.work.now) ≡ length c.args.work.now
long c = length_front c.args.work.now c.read_theory.new.work c.args.layout.rows (same c)

-- the derivation is replayed on the theory's words
first : (c : After-named-memory)
    → let m = c.named-memory.result in let t = c.in_ok-read.read in
    ended_in c.args.table (rows_of m) (held_of m) c.args.derivation.now
    ≡ ended_in c.args.table (rows_in c.args.layout c.args.work.now) (held (take t.full c.read_theory.new.work) (count_from 1 t.count) t.count false) c.args.derivation.now
first c =
    let found = c.in_ok-read.ensures (rows_in c.args.layout c.args.work.now) in
    ended-first c.args.layout c.args.work.now c.read_theory.new.work c.requires.0 (search rules) c.args.table c.in_ok-read.read (found-full found)
    c.named-memory.result c.named-memory.ensures.named c.args.derivation.now

pub named-memory-requires : goal.named-memory-requires
named-memory-requires c =
    let found = c.in_ok-read.ensures (rows_in c.args.layout c.args.work.now) in
    (rw (long (goal.at.named-memory-requires c).After-read_theory) c.requires.0, found-count found, found-full found)

pub returns-in_err-rules-clause-told : goal.returns-in_err-rules-clause-told
returns-in_err-rules-clause-told c =
    let f = c.in_err-rules.field-0.0 in
    λ is_problem inside.
    handed_on (GroundTold (grounded c.args.problem.now c.args.theory.now c.args.derivation.now) c.args.problem.now) c.from_residual-in_err-rules.result
    (record { fault = Derivation f.fault; line = f.line }) c.from_residual-in_err-rules.ensures.1
    (end-stopped c.args.problem.now c.args.theory.now c.args.derivation.now c.args.table _ is_problem inside (c.in_ok-read.ensures _) _
    (sym (first (goal.at.returns-in_err-rules-clause-told c).After-named-memory) ∙ c.in_err-rules.ensures.told))

pub returns-clause-told : goal.returns-clause-told
returns-clause-told c =
    let e = c.in_ok-rules.ensures.told in
    let m = c.replay_end.new.memory in
    λ is_problem inside.
    theory_ground c.args.problem.now c.args.theory.now c.args.derivation.now c.args.table _ is_problem inside (c.in_ok-read.ensures _)
    m.layout m.live m.work.now (omega (arith, m.arranged)) (Ok c.in_ok-rules.rules)
    (record { final = e.final; is = sym (first (goal.at.returns-clause-told c).After-named-memory) ∙ e.is; few = e.few })
