-- The numbers of the refusals, and their files.
use Rattle.std.specs.Prelude.{ℕ}
use Rattle.grammar.specs.Lines.{Refusal as Refused, refusal}
use Rattle.problem.specs.memory.Faults.{fault_number}
use Rattle.reading.specs.memory.Faults.{number_of as theory_number}
use Rattle.steps.specs.memory.Fault.{number as derivation_number}
use Rattle.grounding.specs.declared.fault.Fault.{Fault}
use Rattle.grounding.specs.declared.fault.Fault.TheVariants.{Problem, Theory, Derivation}
use Rattle.grounding.specs.declared.fault.Refusal.{Refusal}

abbrev pub number_of : Fault → ℕ
number_of (Problem fault) = fault_number fault
number_of (Theory fault) = theory_number fault
number_of (Derivation fault) = derivation_number fault

abbrev pub file_of : Fault → ℕ
file_of (Problem fault) = 1
file_of (Theory fault) = 2
file_of (Derivation fault) = 3

-- a refusal as the statement has it
abbrev pub refusal_of : Refusal → Refused
refusal_of r = refusal (number_of r.fault) (file_of r.fault) r.line
