-- What is handed back as a refused line: that part of the caller's own text.
use Rattle.std.specs.Prelude.{ℕ, ◌+◌, ◌≡◌}
use Rattle.std.specs.Borrow.{Bor}
use Rattle.grammar.specs.Bytes.{Bytes}
use Rattle.grammar.specs.Lines.{line_start, refused_line}

-- a text as it is lent: where it stands in memory, and its bytes, `now`
abbrev pub Lent : Type 0
Lent = Bor Bytes

-- the block of memory that it lies in
abbrev pub block : Lent → ℕ
block text = text.ref_ptr.0

-- where in the block it begins, in bytes
abbrev pub offset : Lent → ℕ
offset text = text.ref_ptr.1

-- the part is not merely alike: it begins where the line does, and its bytes tell where it ends
pub record HandedBack (text : Lent) (line : ℕ) (part : Lent) : Type 0 where
  pub within : block part ≡ block text
  pub begins : offset part ≡ offset text + line_start text.now line
  pub reads : part.now ≡ refused_line text.now line
