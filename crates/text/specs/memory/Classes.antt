-- The code's classes of bytes.
use Rattle.std.specs.Prelude.{ℕ, Bool}
use Rattle.grammar.specs.Bytes.{is_digit, is_small_or_digit, is_letter_or_digit, is_printable}
use Rattle.text.specs.declared.byte.Class.{Class}
use Rattle.text.specs.declared.byte.Class.TheVariants.{Digit, SmallOrDigit, LetterOrDigit, Printable}

abbrev pub in_class : Class → ℕ → Bool
in_class Digit = is_digit
in_class SmallOrDigit = is_small_or_digit
in_class LetterOrDigit = is_letter_or_digit
in_class Printable = is_printable
