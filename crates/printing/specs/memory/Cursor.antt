-- Printing with a cursor: bytes are counted, compared with a claim, and stored only if asked.
use Rattle.std.specs.Prelude.{ℕ, ◌+◌, min, ◌≡◌, List, [], ◌∷◌, Bool, true, false, cond, ◌&&◌, eqb, drop, set}
use Rattle.grammar.specs.Bytes.{Bytes}
use Rattle.grammar.specs.Lines.{is_lf}
use Rattle.printing.specs.declared.cursor.Cursor.{Cursor}
use Rattle.printing.specs.declared.cursor.Printer.{Printer}

-- larger than every text: from here on bytes and lines are not counted
abbrev pub countless : ℕ
countless = 1000000000

abbrev pub counted : ℕ → ℕ
counted n = min (n + 1) countless

-- a text begins with a byte
abbrev pub first_is : Bytes → ℕ → Bool
first_is [] b = false
first_is (a ∷ s) b = eqb a b

-- all is the same, with one byte more
unfoldable pub agrees_after : Bytes → Cursor → ℕ → Bool
agrees_after claim cursor b = cursor.same && first_is (drop cursor.length claim) b

-- an LF counts only if all is the same, itself too
unfoldable pub line_after : Bool → ℕ → ℕ → ℕ
line_after agrees b line = cond (agrees && is_lf b) (counted line) line

-- the cursor behind one byte more
unfoldable pub cursor_after : Bytes → Cursor → ℕ → Cursor
cursor_after claim cursor b =
    record {
      length = counted cursor.length;
      same = agrees_after claim cursor b;
      line = line_after (agrees_after claim cursor b) b cursor.line;
    }

-- before the first byte
abbrev pub first_cursor : Cursor
first_cursor = record { length = 0; same = true; line = 1 }

-- the cursor, and what the output holds
abbrev pub Print : Type 0
Print = Cursor × List ℕ

module _ (claim : Bytes) (store : Bool) where
  unfoldable pub emitted : Print → ℕ → Print
  emitted p b = (cursor_after claim p.0 b, cond store (set p.1 p.0.length b) p.1)

  -- after some bytes
  unfoldable pub printed : Print → Bytes → Print
  printed p [] = p
  printed p (b ∷ s) = printed (emitted p b) s

-- a text leads from one print to another
pub record Prints (claim : Bytes) (store : Bool) (p : Print) (text : Bytes) (q : Print) : Type 0 where
  pub is : q ≡ printed claim store p text

-- a text leads from one printer to another, with the same claim and output, and stored or not as before
pub record Writes (p : Printer) (text : Bytes) (q : Printer) : Type 0 where
  pub claim : q.claim.now ≡ p.claim.now
  pub store : q.store ≡ p.store
  pub out : q.out.ghost_name ≡ p.out.ghost_name
  pub prints : Prints p.claim.now p.store (p.cursor, p.out.now) text (q.cursor, q.out.now)
