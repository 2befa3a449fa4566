-- The statement's numbers of refusals.
use Rattle.std.specs.Prelude.{ℕ}
use Rattle.problem.specs.declared.fault.Fault.{Fault}
use Rattle.problem.specs.declared.fault.Fault.TheVariants.{Malformed, Unfit}

abbrev pub fault_number : Fault → ℕ
fault_number Malformed = 3
fault_number Unfit = 4
