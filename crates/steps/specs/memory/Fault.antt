-- The numbers of the faults, as in the statement's table.
use Rattle.std.specs.Prelude.{ℕ}
use Rattle.steps.specs.declared.fault.Fault.{Fault}
use Rattle.steps.specs.declared.fault.Fault.TheVariants.{Malformed, Name, Path, Rule, Guard, Size, Footer, Clause}

abbrev pub number : Fault → ℕ
number Malformed = 10
number Name = 11
number Path = 12
number Rule = 13
number Guard = 14
number Size = 15
number Footer = 16
number Clause = 17
