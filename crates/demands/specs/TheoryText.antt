-- The theory's text: one formula a line, with 5 to 9.
use Rattle.std.specs.Prelude.{List, [], ◌∷◌, ◌++◌}
use Rattle.grammar.specs.Sizes.{level_count}
use Rattle.grammar.specs.Bytes.{Bytes, bytes}
use Rattle.grammar.specs.Outcome.{done}
use Rattle.grammar.specs.Reading.{Reading, give, require, word, ◌>>=◌, ◌>>◌}
use Rattle.grammar.specs.Lines.{Judged, read_text}
use Rattle.grammar.specs.Problem.{Problem}
use Rattle.logic.specs.Formula.{Formula}
use Rattle.logic.specs.Text.{text_of}
use Rattle.logic.specs.Reading.{read_formula}
use Rattle.logic.specs.Names.{names_fit}
use Rattle.logic.specs.Normal.{is_gnf}
use Rattle.logic.specs.Limits.{limits_fit}

unfoldable pub theory_line : Problem → List Formula → Reading (List Formula)
theory_line P fs = do
  f ← read_formula level_count  -- 5, 6
  word 5 (bytes "\n")
  require 7 (names_fit P f)
  require 8 (is_gnf P f)
  require 9 (limits_fit (fs ++ (f ∷ [])))
  give (fs ++ (f ∷ []))

-- the theory that a text is
unfoldable pub theory_of : Problem → Bytes → Judged (List Formula)
theory_of P s = read_text 2 (theory_line P) done [] s

-- one formula a line, without names
abbrev pub theory_text : List Formula → Bytes
theory_text [] = []
theory_text (f ∷ fs) = text_of f ++ (bytes "\n" ++ theory_text fs)
