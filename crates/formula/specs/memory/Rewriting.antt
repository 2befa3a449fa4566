-- A rule on the words of a formula, as it is decided.
use Rattle.std.specs.Prelude.{ℕ, ◌+◌, ◌/◌, ◌≤◌, ◌<◌, List, [], ◌∷◌, Option, Some, None, Bool, length, get_or}
use Rattle.std.proofs.Math.Seq.{slice}
use Rattle.words.specs.memory.Kinds.{skip}
use Rattle.words.specs.memory.Words.{truth_word}
use Rattle.formula.specs.memory.Instances.{instantiated_words}
use Rattle.formula.specs.memory.Simplified.{simplified_words}
use Rattle.formula.specs.declared.decide.Fit.{Fit}
use Rattle.formula.specs.declared.decide.Fit.TheVariants.{Value, Junction, Quantifier}

-- where the formula at a place of the theory up to `full` ends
abbrev pub end_within : List ℕ → ℕ → ℕ → ℕ
end_within work at full = at + skip (slice at full work) 1

-- what is made of a first word and the others; what does not fit stays
abbrev pub fit_words : Option Fit → ℕ → List ℕ → List Bool → List ℕ
fit_words (Some (Value b)) word s flags = truth_word b ∷ []
fit_words (Some (Junction every)) word s flags = simplified_words every (word / 16) s
fit_words (Some Quantifier) word s flags = instantiated_words word s flags
fit_words None word s flags = word ∷ s

-- what is made of the formula at a place
unfoldable pub rewritten_words : Option Fit → List ℕ → ℕ → ℕ → List Bool → List ℕ
rewritten_words fit work at full flags = fit_words fit (get_or work at 0) (slice (at + 1) (end_within work at full) work) flags

-- a place of a theory, behind which the next theory is made
pub record Standing (work : List ℕ) (at full to : ℕ) : Type 0 where
  pub here : at < full
  pub apart : full ≤ to
  pub within : to ≤ length work
  pub long : length work ≤ 16384
