-- What the code tells of a reader at a place of a text, by an option: None exactly if the reader refuses.
use Rattle.std.specs.Prelude.{ℕ, Option, Some, None}
use Rattle.grammar.specs.Bytes.{Bytes}
use Rattle.grammar.specs.Reading.{Reading}
use Rattle.text.specs.memory.Found.{Found, Refused}
use Rattle.text.specs.declared.read.Read.{Read}

-- the value stands for what the reader finds, as a view sees it, and the text goes on at the place behind it
abbrev pub Told : {A T : Type 0} → ℕ → Reading A → (T → A) → Bytes → ℕ → Option (Read T) → Type 0
Told number reader view text at None = Refused number reader text at
Told number reader view text at (Some read) = Found reader text at (view read.value) read.next

-- something is found
pub record Ends {A : Type 0} (reader : Reading A) (text : Bytes) (at next : ℕ) : Type 0 where
  pub thing : A
  pub found : Found reader text at thing next

-- where the code keeps the place behind what is found, and nothing else of it
abbrev pub ToldEnd : {A : Type 0} → ℕ → Reading A → Bytes → ℕ → Option ℕ → Type 0
ToldEnd number reader text at None = Refused number reader text at
ToldEnd number reader text at (Some next) = Ends reader text at next

-- what a reader that moves on tells: the value, and the place where it stands then
abbrev pub read_to : {T : Type 0} → ℕ → T → Read T
read_to next value = record { value = value; next = next }
