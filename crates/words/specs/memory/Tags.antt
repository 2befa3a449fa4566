-- The number of a tag in a word.
use Rattle.std.specs.Prelude.{ℕ}
use Rattle.words.specs.declared.tag.Tag.{Tag}
use Rattle.words.specs.declared.tag.Tag.TheVariants as tag

abbrev pub tag_number : Tag → ℕ
tag_number tag.False = 0
tag_number tag.True = 1
tag_number tag.Negation = 2
tag_number tag.Conjunction = 3
tag_number tag.Disjunction = 4
tag_number tag.Implies = 5
tag_number tag.ImpliedBy = 6
tag_number tag.Equivalent = 7
tag_number tag.Every = 8
tag_number tag.Any = 9
tag_number tag.Atom = 10
tag_number tag.Equality = 11
tag_number tag.Element = 12
tag_number tag.Variable = 13
