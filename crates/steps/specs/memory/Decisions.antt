-- What the code tells of a rule at a place, before anything is written.
use Rattle.std.specs.Prelude.{ℕ, ◌≡◌, List, Bool, take, Some, Result, Ok, Err}
use Rattle.grammar.specs.Outcome.{refused}
use Rattle.table.specs.declared.table.Table.{Table}
use Rattle.derivation.specs.declared.rule_line.Rule.{Rule}
use Rattle.guards.specs.memory.Admitted.{admitted_flags}
use Rattle.formula.specs.declared.decide.Fit.{Fit}
use Rattle.formula.specs.declared.decide.Fit.TheVariants as fit
use Rattle.formula.specs.memory.Deciding.{rule_fit}
use Rattle.steps.specs.memory.Fault.{number}
use Rattle.steps.specs.memory.Held.{Held, misfit, sized_in, made_in}
use Rattle.steps.specs.declared.fault.Fault.{Fault}
use Rattle.steps.specs.declared.rewriting.Decision.{Decision}

-- the flags are those of the guard, if a quantifier is instantiated
abbrev pub Flagged : Table → List ℕ → List ℕ → Fit → List Bool → Type 0
Flagged table rows s (fit.Value b) flags = Unit {0}
Flagged table rows s (fit.Junction every) flags = Unit {0}
Flagged table rows s fit.Quantifier flags = take table.domain flags ≡ admitted_flags table rows 32 s

-- the flags, or the number that IQ is refused with
abbrev pub ToldFlags : Table → List ℕ → List ℕ → Fit → Result (List Bool) Fault → Type 0
ToldFlags table rows s decided (Ok flags) = (misfit (Some decided) s ≡ 0) × Flagged table rows s decided flags
ToldFlags table rows s decided (Err fault) = misfit (Some decided) s ≡ number fault

-- the rule fits so, and with such flags; or the number that it is refused with before anything is written
abbrev pub Decides : Table → List ℕ → Rule → List ℕ → Result Decision Fault → Type 0
Decides table rows rule s (Ok d) = (rule_fit table rows rule s ≡ Some d.fit) × ToldFlags table rows s d.fit (Ok d.flags)
Decides table rows rule s (Err fault) = misfit (rule_fit table rows rule s) s ≡ number fault

-- what the rule comes to is what was decided, done; or the rule is refused
abbrev pub ToldDecision : Table → List ℕ → Rule → Held → ℕ → Result Decision Fault → Type 0
ToldDecision table rows rule m at (Ok d) = made_in table rows rule m at ≡ sized_in m at (Some d.fit) (take table.domain d.flags)
ToldDecision table rows rule m at (Err fault) = made_in table rows rule m at ≡ refused (number fault)
