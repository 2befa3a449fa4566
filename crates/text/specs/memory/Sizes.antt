-- The statement's sizes, as contracts ask for them.
use Rattle.std.specs.Prelude.{ℕ, ◌+◌, ◌≤◌, List, length}

-- a text within its size
abbrev pub ShortText : List ℕ → Type 0
ShortText text = length text ≤ 65536

-- no more than working memory has
abbrev pub InWork : List ℕ → Type 0
InWork work = length work ≤ 16384

-- elements of the domain
abbrev pub FewElements : ℕ → Type 0
FewElements domain = domain ≤ 64

-- predicates of a problem, and terms of one
abbrev pub FewPredicates : ℕ → Type 0
FewPredicates count = count ≤ 32

abbrev pub FewTerms : ℕ → Type 0
FewTerms arity = arity ≤ 3

-- numbers that stand in a text, where each takes a byte at least
abbrev pub FewNumbers : ℕ → Type 0
FewNumbers many = many ≤ 65536

-- and from a place of it on: the place and their count, each within the text's size, with room to go on behind its end
abbrev pub NearNumbers : ℕ → ℕ → Type 0
NearNumbers at many = at + many ≤ 200000
