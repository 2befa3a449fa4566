-- SNAND and SNOR on words: among the parts of a connective, those that are a truth value.
use Rattle.std.specs.Prelude.{ℕ, zero, suc, ◌+◌, ◌-◌, ◌*◌, ◌≤◌, List, [], ◌∷◌, ◌++◌, Bool, cond, not, eqb, get_or, take}
use Rattle.logic.specs.Formula.{junction}
use Rattle.words.specs.memory.Kinds.{skip}
use Rattle.words.specs.memory.Words.{truth_word, connective_tag}
use Rattle.words.specs.memory.Stored.{side_of, after_first}
use Rattle.formula.specs.declared.simplify.Simplified.{Simplified}
use Rattle.formula.specs.declared.simplify.Simplified.TheVariants.{Value, Parts}

-- the first formula is a truth value
abbrev pub starts_truth : Bool → List ℕ → Bool
starts_truth b s = eqb (get_or s 0 0) (truth_word b)

-- how many of so many formulas are a truth value
unfoldable pub truth_count : Bool → ℕ → List ℕ → ℕ
truth_count b zero s = 0
truth_count b (suc n) s = cond (starts_truth b s) 1 0 + truth_count b n (after_first s)

-- the words of the others
unfoldable pub words_without : Bool → ℕ → List ℕ → List ℕ
words_without b zero s = []
words_without b (suc n) s = cond (starts_truth b s) [] (take (skip s 1) s) ++ words_without b n (after_first s)

-- a value, or so many parts that stay: a part `false` decides an `&`, parts `true` are dropped; an `|` likewise with the values exchanged
unfoldable pub simplification : Bool → ℕ → List ℕ → Simplified
simplification every n s =
    cond (eqb (truth_count (not every) n s) 0)
    (cond (eqb (n - truth_count every n s) 0) (Value every) (Parts (n - truth_count every n s)))
    (Value (not every))

abbrev pub simplified_by : Bool → ℕ → List ℕ → Simplified → List ℕ
simplified_by every n s (Value b) = truth_word b ∷ []
simplified_by every n s (Parts count) = (count * 16 + connective_tag (junction (side_of every))) ∷ words_without every n s

-- what is made of an `&` or `|` of n parts with those words
unfoldable pub simplified_words : Bool → ℕ → List ℕ → List ℕ
simplified_words every n s = simplified_by every n s (simplification every n s)

-- no more parts stay than there were
abbrev pub Fewer : ℕ → Simplified → Type 0
Fewer n (Value b) = Unit {0}
Fewer n (Parts count) = count ≤ n
