-- Which file is named where some can't be opened or read.
use Rattle.std.specs.Prelude.{ℕ, Bool, true, false}
use Rattle.desk.specs.declared.input.File.{File}

-- The number of the first file that is not open, by whether problem, theory, derivation and claim are; 0 where all are.
abbrev pub first_unread : Bool → Bool → Bool → Bool → ℕ
first_unread false theory derivation claim = 1
first_unread true false derivation claim = 2
first_unread true true false claim = 3
first_unread true true true false = 4
first_unread true true true true = 0

-- A file's number.
abbrev pub number : File → ℕ
number File.Problem = 1
number File.Theory = 2
number File.Derivation = 3
number File.Claim = 4
