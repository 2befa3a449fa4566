-- The numbers that a line of the theory is refused with.
use Rattle.std.specs.Prelude.{ℕ}
use Rattle.reading.specs.declared.fault.Fault.{Fault}
use Rattle.reading.specs.declared.fault.Fault.TheVariants.{Malformed, Deep, Unnamed, Unnormal, Over}

abbrev pub number_of : Fault → ℕ
number_of Malformed = 5
number_of Deep = 6
number_of Unnamed = 7
number_of Unnormal = 8
number_of Over = 9
