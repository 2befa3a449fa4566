-- What is printed of the ground clause in memory, whatever the words are: of what no ground clause has, nothing or its parts alone.
use Rattle.std.specs.Prelude.{ℕ, zero, suc, ◌/◌, ◌%◌, List, [], ◌∷◌, ◌++◌, true, false, get_or, drop}
use Rattle.grammar.specs.Bytes.{Bytes, bytes, joined}
use Rattle.grammar.specs.Numbers.{decimal}
use Rattle.logic.specs.Text.{truth_text, bracketed}
use Rattle.table.specs.memory.Table.{table_name}
use Rattle.table.specs.declared.table.Table.{Table}
use Rattle.words.specs.memory.Kinds.{kind_of}
use Rattle.words.specs.memory.Stored.{after_first}
use Rattle.words.specs.memory.Paths.{subformula_count}
use Rattle.words.specs.declared.word.Sign.{Sign}
use Rattle.words.specs.declared.word.Sign.TheVariants.{Negation, Implies, ImpliedBy, Equivalent, Junction}
use Rattle.words.specs.declared.word.Kind.{Kind}
use Rattle.words.specs.declared.word.Kind.TheVariants.{Truth, Atom, Equality, Connective, Quantifier, Term}

-- the element of a term's word
abbrev pub element_of : ℕ → ℕ
element_of word = word / 16 % 256

unfoldable pub element_texts : ℕ → List ℕ → List Bytes
element_texts zero s = []
element_texts (suc n) s = decimal (element_of (get_or s 0 0)) ∷ element_texts n (drop 1 s)

unfoldable pub arguments_at : ℕ → List ℕ → Bytes
arguments_at zero s = []
arguments_at (suc n) s = bracketed (element_texts (suc n) s)

-- before and behind a connective's parts
abbrev pub sign_opening : Sign → Bytes
sign_opening Negation = bytes "~"
sign_opening Implies = []
sign_opening ImpliedBy = []
sign_opening Equivalent = []
sign_opening (Junction true) = []
sign_opening (Junction false) = bytes "|("

abbrev pub sign_closing : Sign → Bytes
sign_closing Negation = []
sign_closing Implies = []
sign_closing ImpliedBy = []
sign_closing Equivalent = []
sign_closing (Junction true) = []
sign_closing (Junction false) = bytes ")"

abbrev pub closing : Kind → Bytes
closing (Truth b) = []
closing (Atom p n) = []
closing Equality = []
closing (Connective o n) = sign_closing o
closing (Quantifier every x) = []
closing Term = []

-- so many formulas, one after the other, each with the text that `text` gives
unfoldable pub part_texts : (List ℕ → Bytes) → ℕ → List ℕ → List Bytes
part_texts text zero s = []
part_texts text (suc n) s = text s ∷ part_texts text n (after_first s)

module _ (problem : Bytes) (table : Table) where
  abbrev pub atom_text : ℕ → ℕ → List ℕ → Bytes
  atom_text p n s = table_name problem table p ++ arguments_at n s

  -- before a formula's parts: all of it, where it has none
  abbrev pub opening : Kind → List ℕ → Bytes
  opening (Truth b) s = truth_text b
  opening (Atom p n) s = atom_text p (n % 4) s
  opening Equality s = []
  opening (Connective o n) s = sign_opening o
  opening (Quantifier every x) s = []
  opening Term s = []

  abbrev pub kind_text : (List ℕ → Bytes) → Kind → List ℕ → Bytes
  kind_text text kind s = opening kind s ++ (joined 44 (part_texts text (subformula_count kind) s) ++ closing kind)

  -- within so many levels
  unfoldable pub clause_text : ℕ → List ℕ → Bytes
  clause_text zero s = []
  clause_text (suc levels) [] = []
  clause_text (suc levels) (w ∷ s) = kind_text (clause_text levels) (kind_of w) s

  -- so many formulas, one a line
  unfoldable pub clause_lines : ℕ → ℕ → List ℕ → Bytes
  clause_lines levels zero s = []
  clause_lines levels (suc n) s = clause_text levels s ++ (bytes "\n" ++ clause_lines levels n (after_first s))
