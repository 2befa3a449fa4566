-- Items with commas between them, at most so many: the terms of an atom or an equality, the parts of a connective.
use Rattle.std.specs.Prelude.{ℕ, List, ◌∷◌}
use Rattle.grammar.specs.Reading.{Reading, give, ◌>>=◌, further}

-- one item, and at most so many more behind commas
unfoldable pub up_to : {A : Type 0} → ℕ → Reading A → Reading (List A)
up_to most item = do
  a ← item
  rest ← further 44 item most
  give (a ∷ rest)
