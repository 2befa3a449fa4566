-- What the code tells of derivation lines: for each list of numbers the place of the first and how many there are.
use Rattle.std.specs.Prelude.{ℕ, ◌+◌, ◌≤◌, ◌<◌, ◌≡◌, List, [], ◌∷◌, map, Option, Some, None, IfSome}
use Rattle.std.specs.Borrow.{Bor}
use Rattle.grammar.specs.Bytes.{Bytes, bytes}
use Rattle.grammar.specs.Reading.{Reading, give, refuse, ◌⇒◌, one_of, separated}
use Rattle.grammar.specs.Derivation.{Position, Rule, SNAND, SNOR, STN, EPRED, EPROP, IQ, RuleLine, rewrite, unsat, trivial, splitc, Line, step, footer}
use Rattle.grammar.specs.Derivation.{read_formula_name, at_position, read_split, read_footer, line_kinds, read_line, read_version, read_grounder}
use Rattle.text.specs.memory.Found.{Refused}
use Rattle.text.specs.memory.Told.{Told, Ends, read_to}
use Rattle.text.specs.memory.Numbers.{numbers_at}
use Rattle.text.specs.declared.read.Read.{Read}
use Rattle.text.specs.declared.number.Numbers.{Numbers}
use Rattle.derivation.specs.declared.rule_line.Rule.{Rule as RuleName}
use Rattle.derivation.specs.declared.rule_line.Rule.TheVariants.{Snand, Snor, Stn, Epred, Eprop, Iq}
use Rattle.derivation.specs.declared.rule_line.Position.{Position as PositionRead}
use Rattle.derivation.specs.declared.rule_line.AtPosition.{AtPosition}
use Rattle.derivation.specs.declared.rule_line.AtPosition.TheVariants as made
use Rattle.derivation.specs.declared.rule_line.Kind.{Kind}
use Rattle.derivation.specs.declared.rule_line.Kind.TheVariants as kind
use Rattle.derivation.specs.declared.rule_line.RuleLine.{RuleLine as RuleLineRead}
use Rattle.derivation.specs.declared.rule_line.RuleLine.TheVariants as rule_line
use Rattle.derivation.specs.declared.rule_line.Line.{Line as LineRead}
use Rattle.derivation.specs.declared.rule_line.Line.TheVariants as line
use Rattle.derivation.specs.declared.reader.Awaited.{Awaited}
use Rattle.derivation.specs.declared.reader.Awaited.TheVariants as awaited

abbrev pub rule_of : RuleName → Rule
rule_of Snand = SNAND
rule_of Snor = SNOR
rule_of Stn = STN
rule_of Epred = EPRED
rule_of Eprop = EPROP
rule_of Iq = IQ

-- the line that is made of its position
abbrev pub make_of : AtPosition → Position → RuleLine
make_of (made.Rewrite rule) = rewrite (rule_of rule)
make_of made.Unsat = unsat
make_of made.Trivial = trivial

-- What the code's values stand for, by the text that their numbers stand in.

abbrev pub numbers_in : Bytes → Numbers → List ℕ
numbers_in text n = numbers_at text n.at n.many

abbrev pub position_in : Bytes → PositionRead → Position
position_in text p = record { name = p.name; path = numbers_in text p.path }

abbrev pub rule_line_in : Bytes → RuleLineRead → RuleLine
rule_line_in text (rule_line.Rewrite rule p) = rewrite (rule_of rule) (position_in text p)
rule_line_in text (rule_line.Unsat p) = unsat (position_in text p)
rule_line_in text (rule_line.Trivial p) = trivial (position_in text p)
rule_line_in text (rule_line.Splitc p names) = splitc (position_in text p) (numbers_in text names)

abbrev pub line_in : Bytes → LineRead → Line
line_in text (line.Step l) = step (rule_line_in text l)
line_in text (line.Footer names) = footer (numbers_in text names)

-- Each number takes a byte at least: the numbers of a line stand before the place behind it.

abbrev pub NumbersBefore : Numbers → ℕ → Type 0
NumbersBefore n next = n.at + n.many ≤ next

abbrev pub RuleLineBefore : RuleLineRead → ℕ → Type 0
RuleLineBefore (rule_line.Rewrite rule p) next = NumbersBefore p.path next
RuleLineBefore (rule_line.Unsat p) next = NumbersBefore p.path next
RuleLineBefore (rule_line.Trivial p) next = NumbersBefore p.path next
RuleLineBefore (rule_line.Splitc p names) next = NumbersBefore p.path next × NumbersBefore names next

abbrev pub LineBefore : LineRead → ℕ → Type 0
LineBefore (line.Step l) next = RuleLineBefore l next
LineBefore (line.Footer names) next = NumbersBefore names next

-- a line is read, which takes a byte at least, and its numbers stand before the place behind it
abbrev pub ToldLine : Reading Line → Bytes → ℕ → Option (Read LineRead) → Type 0
ToldLine reader text at told =
    Told 10 reader (line_in text) text at told × IfSome told (λ r. (at < r.next) × LineBefore r.value r.next)

-- The kinds of a line.

-- what is read behind a kind's word
abbrev pub reader_of : Kind → Reading Line
reader_of (kind.At make) = at_position (make_of make)
reader_of kind.Splitc = read_split
reader_of kind.Footer = read_footer

-- a kind with its word, as a reader by that word
abbrev pub entry_of : Bor Bytes × Kind → Bytes × Reading (Reading Line)
entry_of k = k.0.now ⇒ give (reader_of k.1)

-- the word alone, and what is to be read behind it
unfoldable pub read_kind : Reading (Reading Line)
read_kind = one_of (map (λ k. k.0 ⇒ give k.1) line_kinds) (refuse 10)

-- the footer's names
abbrev pub read_final_names : Reading (List ℕ)
read_final_names = one_of (bytes "-" ⇒ give [] ∷ []) (separated 44 read_formula_name)

-- What is awaited under a line's number, with the place behind what is read.

-- a line of the heading
abbrev pub ToldHeading : {A : Type 0} → Reading A → Awaited → Bytes → ℕ → Option Awaited → ℕ → Type 0
ToldHeading reader heading text at None next = Refused 10 reader text at
ToldHeading reader heading text at (Some told) next = Ends reader text at next × (told ≡ heading)

-- a rule line or the footer
abbrev pub ToldRule : Bytes → ℕ → Option Awaited → ℕ → Type 0
ToldRule text at None next = Refused 10 read_line text at
ToldRule text at (Some awaited.Version) next = ⊥
ToldRule text at (Some awaited.Grounder) next = ⊥
ToldRule text at (Some (awaited.Line l)) next = ToldLine read_line text at (Some (read_to next l))

-- the version is line 1, the grounder line 2; rule lines and the footer follow
pub record ToldAwaited (text : Bytes) (at number : ℕ) (told : Option Awaited) (next : ℕ) : Type 0 where
  pub version : number ≡ 1 → ToldHeading read_version awaited.Version text at told next
  pub grounder : number ≡ 2 → ToldHeading read_grounder awaited.Grounder text at told next
  pub rule : 3 ≤ number → ToldRule text at told next

-- A reader, by its place and its line's number: behind a line that it reads the next has the next number, and where none is read it stays.
abbrev pub MovesOn : {T : Type 0} → Option T → ℕ → ℕ → ℕ → ℕ → Type 0
MovesOn None at next line counted = (next ≡ at) × (counted ≡ line)
MovesOn (Some value) at next line counted = (at < next) × (counted ≡ line + 1)
