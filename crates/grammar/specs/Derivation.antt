-- Derivation lines: their text, and their reading with number 10.
use Rattle.std.specs.Prelude.{ℕ, List, [], ◌∷◌, ◌++◌, map, Bool, true, false, ◌&&◌, leb, length}
use Rattle.grammar.specs.Sizes.{greatest_name, greatest_path_number, grounder_size}
use Rattle.grammar.specs.Bytes.{Bytes, bytes, every, is_printable, joined}
use Rattle.grammar.specs.Numbers.{decimal}
use Rattle.grammar.specs.Reading.{Reading, give, refuse, require, ◌>>=◌, ◌>>◌, word, token, read_number, ◌⇒◌, one_of, separated}

-- a formula's name, and a path in it
pub record Position : Type 0 where
  pub name : ℕ
  pub path : List ℕ

-- the rules that change a formula, or a part of one
pub data Rule : Type 0 where
  SNAND SNOR STN EPRED EPROP IQ : Rule

pub data RuleLine : Type 0 where
  rewrite : Rule → Position → RuleLine
  unsat trivial : Position → RuleLine
  splitc : Position → List ℕ → RuleLine

-- what may follow the heading
pub data Line : Type 0 where
  step : RuleLine → Line
  footer : List ℕ → Line

-- the heading's grounder, the rule lines, and the footer's names
pub record Derivation : Type 0 where
  pub grounder : Bytes
  pub lines : List RuleLine
  pub final : List ℕ

-- an UNSAT line
abbrev pub is_unsat : RuleLine → Bool
is_unsat (rewrite r p) = false
is_unsat (unsat p) = true
is_unsat (trivial p) = false
is_unsat (splitc p names) = false

-- the derivation ends in UNSAT: its last rule line is one
abbrev pub ends_in_unsat : List RuleLine → Bool
ends_in_unsat [] = false
ends_in_unsat (l ∷ []) = is_unsat l
ends_in_unsat (l ∷ m ∷ ls) = ends_in_unsat (m ∷ ls)

-- Which are well formed.

abbrev pub in_bounds : ℕ → ℕ → ℕ → Bool
in_bounds least greatest n = leb least n && leb n greatest

abbrev pub all_in_bounds : ℕ → ℕ → List ℕ → Bool
all_in_bounds least greatest ns = every (in_bounds least greatest) ns

abbrev pub are_names : List ℕ → Bool
are_names ns = all_in_bounds 1 greatest_name ns

abbrev pub position_fits : Position → Bool
position_fits p = in_bounds 1 greatest_name p.name && all_in_bounds 0 greatest_path_number p.path

-- one or more new names
abbrev pub new_names_fit : List ℕ → Bool
new_names_fit [] = false
new_names_fit (n ∷ ns) = are_names (n ∷ ns)

abbrev pub rule_line_fits : RuleLine → Bool
rule_line_fits (rewrite r p) = position_fits p
rule_line_fits (unsat p) = position_fits p
rule_line_fits (trivial p) = position_fits p
rule_line_fits (splitc p names) = position_fits p && new_names_fit names

abbrev pub rule_lines_fit : List RuleLine → Bool
rule_lines_fit ls = every rule_line_fits ls

abbrev pub line_fits : Line → Bool
line_fits (step l) = rule_line_fits l
line_fits (footer names) = are_names names

-- 1 to 31 bytes from 33 to 126
abbrev pub is_grounder : Bytes → Bool
is_grounder g = leb 1 (length g) && (leb (length g) grounder_size && every is_printable g)

abbrev pub derivation_fits : Derivation → Bool
derivation_fits D = is_grounder D.grounder && (rule_lines_fit D.lines && are_names D.final)

-- Their text.

abbrev pub rule_text : Rule → Bytes
rule_text SNAND = bytes "SNAND"
rule_text SNOR = bytes "SNOR"
rule_text STN = bytes "STN"
rule_text EPRED = bytes "EPRED"
rule_text EPROP = bytes "EPROP"
rule_text IQ = bytes "IQ"

abbrev pub numbers_text : List ℕ → Bytes
numbers_text ns = joined 44 (map decimal ns)

abbrev pub path_text : List ℕ → Bytes
path_text [] = []
path_text (i ∷ is) = bytes "[" ++ (numbers_text (i ∷ is) ++ bytes "]")

abbrev pub position_text : Position → Bytes
position_text p = decimal p.name ++ path_text p.path

abbrev pub footer_text : List ℕ → Bytes
footer_text [] = bytes "-"
footer_text (n ∷ ns) = numbers_text (n ∷ ns)

unfoldable pub rule_line_text : RuleLine → Bytes
rule_line_text (rewrite r p) = rule_text r ++ (bytes " @ " ++ (position_text p ++ bytes "\n"))
rule_line_text (unsat p) = bytes "UNSAT @ " ++ (position_text p ++ bytes "\n")
rule_line_text (trivial p) = bytes "TRIVIAL - " ++ (position_text p ++ bytes "\n")
rule_line_text (splitc p names) = bytes "SPLITC " ++ (position_text p ++ (bytes " -> " ++ (numbers_text names ++ bytes "\n")))

unfoldable pub line_text : Line → Bytes
line_text (step l) = rule_line_text l
line_text (footer names) = bytes "FINAL IDS : " ++ (footer_text names ++ bytes "\n")

abbrev pub version_text : Bytes
version_text = bytes "version=1\n"

abbrev pub grounder_text : Bytes → Bytes
grounder_text g = bytes "grounder=" ++ (g ++ bytes "\n")

-- rule lines, and then some bytes
abbrev pub rule_lines_text : List RuleLine → Bytes → Bytes
rule_lines_text [] rest = rest
rule_lines_text (l ∷ ls) rest = rule_line_text l ++ rule_lines_text ls rest

unfoldable pub derivation_text : Derivation → Bytes
derivation_text D = version_text ++ (grounder_text D.grounder ++ rule_lines_text D.lines (line_text (footer D.final)))

-- Their reading.

-- a number from `least` to `greatest`
unfoldable pub read_ranged : ℕ → ℕ → Reading ℕ
read_ranged least greatest = do
  n ← read_number 10
  require 10 (in_bounds least greatest n)
  give n

unfoldable pub read_formula_name : Reading ℕ
read_formula_name = read_ranged 1 greatest_name

unfoldable pub read_path : Reading (List ℕ)
read_path = one_of (bytes "[" ⇒ (do is ← separated 44 (read_ranged 0 greatest_path_number); word 10 (bytes "]"); give is) ∷ []) (give [])

unfoldable pub read_position : Reading Position
read_position = do
  n ← read_formula_name
  is ← read_path
  give (record { name = n; path = is })

-- a rule line that ends with its position
abbrev pub at_position : (Position → RuleLine) → Reading Line
at_position make = do
  p ← read_position
  word 10 (bytes "\n")
  give (step (make p))

unfoldable pub read_split : Reading Line
read_split = do
  p ← read_position
  word 10 (bytes " -> ")
  names ← separated 44 read_formula_name
  word 10 (bytes "\n")
  give (step (splitc p names))

unfoldable pub read_footer : Reading Line
read_footer = do
  names ← one_of (bytes "-" ⇒ give [] ∷ []) (separated 44 read_formula_name)
  word 10 (bytes "\n")
  give (footer names)

abbrev pub rewrite_rules : List Rule
rewrite_rules = SNAND ∷ SNOR ∷ STN ∷ EPRED ∷ EPROP ∷ IQ ∷ []

unfoldable pub line_kinds : List (Bytes × Reading Line)
line_kinds =
    map (λ r. (rule_text r ++ bytes " @ ") ⇒ at_position (rewrite r)) rewrite_rules
    ++ (bytes "UNSAT @ " ⇒ at_position unsat
    ∷ bytes "TRIVIAL - " ⇒ at_position trivial
    ∷ bytes "SPLITC " ⇒ read_split
    ∷ bytes "FINAL IDS : " ⇒ read_footer
    ∷ [])

-- a rule line, or the footer
unfoldable pub read_line : Reading Line
read_line = one_of line_kinds (refuse 10)

-- the heading's two lines
unfoldable pub read_version : Reading (Unit {0})
read_version = word 10 version_text

unfoldable pub read_grounder : Reading Bytes
read_grounder = do
  word 10 (bytes "grounder=")
  g ← token 10 is_printable is_grounder
  word 10 (bytes "\n")
  give g
