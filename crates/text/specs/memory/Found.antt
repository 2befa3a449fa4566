-- A reader at a place of a text: what it finds there and where the text goes on, or that it refuses.
use Rattle.std.specs.Prelude.{ℕ, ◌+◌, ◌≤◌, ◌<◌, ◌≡◌, true, length, drop}
use Rattle.grammar.specs.Bytes.{Bytes, begins}
use Rattle.grammar.specs.Outcome.{done, refused}
use Rattle.grammar.specs.Reading.{Reading}

pub record Found {A : Type 0} (reader : Reading A) (text : Bytes) (at : ℕ) (a : A) (next : ℕ) : Type 0 where
  pub is : reader (drop at text) ≡ done (a, drop next text)
  pub after : at ≤ next
  pub within : next ≤ length text

-- and it takes a byte at least
pub record Taken {A : Type 0} (reader : Reading A) (text : Bytes) (at : ℕ) (a : A) (next : ℕ) : Type 0 where
  pub is : reader (drop at text) ≡ done (a, drop next text)
  pub after : at < next
  pub within : next ≤ length text

pub record Refused {A : Type 0} (number : ℕ) (reader : Reading A) (text : Bytes) (at : ℕ) : Type 0 where
  pub is : reader (drop at text) ≡ refused number

-- a word stands at a place
pub record WordFound (w text : Bytes) (at next : ℕ) : Type 0 where
  pub stands : begins w (drop at text) ≡ true
  pub ends : next ≡ at + length w
  pub within : next ≤ length text
