-- How a formula opens: by the sign that the text begins with, and where what follows the sign begins.
use Rattle.std.specs.Prelude.{ℕ, ◌+◌, ◌≤◌, ◌<◌, ◌≡◌, true, false, cond, List, [], ◌∷◌, Option, Some, None, length, drop}
use Rattle.std.specs.Borrow.{Bor}
use Rattle.grammar.specs.Bytes.{Bytes, bytes, next, begins}
use Rattle.grammar.specs.Reading.{Reading, one_of}
use Rattle.logic.specs.Formula.{Connective, negation, implies, implied_by, equivalent, junction, Formula}
use Rattle.logic.specs.Reading.{read_atom, read_negation, read_two, read_junction, read_quantifier, formula_kinds}
use Rattle.words.specs.memory.Stored.{side_of, connective_of}
use Rattle.words.specs.declared.word.Sign.TheVariants.{Negation, Implies, ImpliedBy, Equivalent, Junction}
use Rattle.reading.specs.memory.FormulaReads.{read_leaf}
use Rattle.text.specs.declared.read.Read.{Read}
use Rattle.reading.specs.declared.opening.Opening.{Opening}
use Rattle.reading.specs.declared.opening.Opening.TheVariants as opening

-- a sign, and where what follows it begins
abbrev pub opens : Opening → ℕ → Option (Read Opening)
opens opening next = Some (record { value = opening; next = next })

-- the first of some signs, each with its word, that a text begins with
abbrev pub opening_among : ℕ → Bytes → List (Bor Bytes × Opening) → Option (Read Opening)
opening_among at s [] = None
opening_among at s (k ∷ openings) = cond (begins k.0.now s) (opens k.1 (at + length k.0.now)) (opening_among at s openings)

unfoldable pub bracket_opening : ℕ → Bytes → Option (Read Opening)
bracket_opening at s =
    cond (begins (bytes "&(") s) (opens (opening.Connective (Junction true)) (at + 2))
    (cond (begins (bytes "|(") s) (opens (opening.Connective (Junction false)) (at + 2))
    (cond (begins (bytes "=>(") s) (opens (opening.Connective Implies) (at + 3))
    (cond (begins (bytes "<=(") s) (opens (opening.Connective ImpliedBy) (at + 3))
    (cond (begins (bytes "<=>(") s) (opens (opening.Connective Equivalent) (at + 4)) None))))

unfoldable pub opening_of : ℕ → Bytes → Option (Read Opening)
opening_of at s =
    cond (begins (bytes "~") s) (opens (opening.Connective Negation) (at + 1))
    (cond (begins (bytes "!") s) (opens (opening.Quantifier true) (at + 1))
    (cond (begins (bytes "?") s) (opens (opening.Quantifier false) (at + 1)) (bracket_opening at s)))

-- what follows a connective's sign, where each part is read by r
abbrev pub read_connective : Reading Formula → Connective → Reading Formula
read_connective r negation = read_negation r
read_connective r implies = read_two r implies
read_connective r implied_by = read_two r implied_by
read_connective r equivalent = read_two r equivalent
read_connective r (junction c) = read_junction r c

-- what follows a sign
abbrev pub read_opening : Reading Formula → Opening → Reading Formula
read_opening r (opening.Connective sign) = read_connective r (connective_of sign)
read_opening r (opening.Quantifier every) = read_quantifier r (side_of every)

-- a formula whose parts are read by r
abbrev pub read_kind : Reading Formula → Reading Formula
read_kind r = one_of (formula_kinds r) read_atom

-- what stands at a place is read by another reader, further on
pub record Opens (text : Bytes) (at : ℕ) (other : Reading Formula → Reading Formula) (next : ℕ) : Type 0 where
  pub is : (r : Reading Formula) → read_kind r (drop at text) ≡ other r (drop next text)
  pub after : at < next
  pub within : next ≤ length text

abbrev pub ToldOpening : Bytes → ℕ → Option (Read Opening) → Type 0
ToldOpening text at None = (r : Reading Formula) → read_kind r (drop at text) ≡ read_leaf (drop at text)
ToldOpening text at (Some o) = Opens text at (λ r. read_opening r o.value) o.next
