-- What the code tells of numbers in a text, whatever stands there: places, and values as far as they matter.
use Rattle.std.specs.Prelude.{Option, Some, None, ℕ, zero, suc, ◌+◌, ◌≤◌, ◌<◌, min, max, ◌≡◌, List, [], ◌∷◌, length, drop}
use Rattle.grammar.specs.Bytes.{Bytes, span, is_digit}
use Rattle.grammar.specs.Numbers.{value}
use Rattle.grammar.specs.Outcome.{done, refused}
use Rattle.grammar.specs.Reading.{read_number}
use Rattle.text.specs.declared.read.Read.{Read}

-- larger than every number that the statement asks for: numbers from here on are not told apart
abbrev pub beyond : ℕ
beyond = 1000000

-- the digits at a place
abbrev pub digits_at : Bytes → ℕ → Bytes
digits_at text at = span is_digit (drop at text)

unfoldable pub number_at : Bytes → ℕ → ℕ
number_at text at = min (value (digits_at text at)) beyond

unfoldable pub number_end : Bytes → ℕ → ℕ
number_end text at = at + length (digits_at text at)

-- numbers one after the other, each with one byte behind it
unfoldable pub numbers_at : Bytes → ℕ → ℕ → List ℕ
numbers_at text at zero = []
numbers_at text at (suc many) = number_at text at ∷ numbers_at text (number_end text at + 1) many

pub record DigitsTold (text : Bytes) (at : ℕ) (r : Read ℕ) : Type 0 where
  pub value : r.value ≡ number_at text at
  pub next : r.next ≡ number_end text at
  pub within : r.next ≤ max at (length text)

-- a number is read at a place: its digits, whatever would be refused with
pub record NumberFound (text : Bytes) (at number next : ℕ) : Type 0 where
  pub is : (refusal : ℕ) → read_number refusal (drop at text) ≡ done (number, drop next text)
  pub ends : next ≡ number_end text at
  pub after : at < next
  pub within : next ≤ length text

pub record SmallFound (text : Bytes) (at number next : ℕ) : Type 0 where
  pub found : NumberFound text at number next
  pub stands : number ≡ number_at text at
  pub small : number < beyond

pub record LargeFound (text : Bytes) (at next : ℕ) : Type 0 where
  pub number : ℕ
  pub found : NumberFound text at number next
  pub large : beyond ≤ number

-- its value, where that matters
abbrev pub ToldValue : Bytes → ℕ → ℕ → Option ℕ → Type 0
ToldValue text at next (Some number) = SmallFound text at number next
ToldValue text at next None = LargeFound text at next

abbrev pub ToldNumber : Bytes → ℕ → Option (Read (Option ℕ)) → Type 0
ToldNumber text at (Some r) = ToldValue text at r.next r.value
ToldNumber text at None = (refusal : ℕ) → read_number refusal (drop at text) ≡ refused refusal
