-- IQ on words: the body's words once for each element that the guard admits, with the element for the variable.
use Rattle.std.specs.Prelude.{ℕ, zero, suc, ◌+◌, ◌*◌, ◌/◌, ◌%◌, List, [], ◌∷◌, ◌++◌, Bool, cond, ◌||◌, eqb}
use Rattle.logic.specs.Formula.{junction}
use Rattle.words.specs.memory.Kinds.{kind_of, part_count}
use Rattle.words.specs.memory.Stored.{side_of, after_first}
use Rattle.words.specs.memory.Words.{connective_tag}

-- a word with v for x, where `held` formulas are still to be copied as they are
unfoldable pub word_with : ℕ → ℕ → ℕ → ℕ → ℕ
word_with x v zero word = cond (eqb word (x * 16 + 13)) (v * 16 + 12) word
word_with x v (suc held) word = word

-- how many after it: the guard and the body of a quantifier that binds x again
unfoldable pub held_after : ℕ → ℕ → ℕ → ℕ
held_after x zero word = cond (eqb word (x * 16 + 8) || eqb word (x * 16 + 9)) 2 0
held_after x (suc held) word = held + part_count (kind_of word)

-- words with v for x
unfoldable pub words_with : ℕ → ℕ → List ℕ → ℕ → List ℕ
words_with x v [] held = []
words_with x v (word ∷ s) held = word_with x v held word ∷ words_with x v s (held_after x held word)

-- for each element from v on whose flag is set, the words with the element for x
unfoldable pub copies : List Bool → ℕ → List ℕ → ℕ → List ℕ
copies [] x s v = []
copies (chosen ∷ flags) x s v = cond chosen (words_with x v s 0) [] ++ copies flags x s (suc v)

unfoldable pub set_count : List Bool → ℕ
set_count [] = 0
set_count (chosen ∷ flags) = cond chosen 1 0 + set_count flags

-- what is made of a quantifier's word and the words of its guard and its body, by a flag for each element: `&` for `!`, `|` for `?`
unfoldable pub instantiated_words : ℕ → List ℕ → List Bool → List ℕ
instantiated_words word s flags = (set_count flags * 16 + connective_tag (junction (side_of (eqb (word % 16) 8)))) ∷ copies flags (word / 16) (after_first s) 1
