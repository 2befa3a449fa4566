-- The words of the live formulas, one formula after the other, and what memory holds of a state. Each formula is passed over whole, so that so many
-- formulas are found by counting; the length is the size, so that the limits of the live formulas are those of two lengths.
-- Assumes nothing.
use Prim.Native.Nat.{ℕ, ◌≤◌}
use mathlib.Core.Path.{◌≡◌, refl, sym, ap, ◌∙◌}
use mathlib.Core.List.{List, [], ◌∷◌, ◌++◌, append_assoc}
use mathlib.Core.Bool.{Bool, true, false, ◌&&◌, and-true}
use lib.Dec.{leb}
use lib.ListN.{length, length-append}
use borrow.Author.Tests.{leb-true, le-leb}
use Rattle.grammar.specs.Sizes.{formula_count, theory_size}
use Rattle.grammar.specs.Outcome.{done, mapped, provided, ◌>>◌}
use Rattle.grammar.proofs.Laws.{and_left, and_right}
use Rattle.logic.specs.Formula.{Formula, parts_of}
use Rattle.logic.specs.Limits.{sizes_fit}
use Rattle.demands.specs.Theory.{Theory, formulas_of, names_of, State, live, ended, live_theory, greatest_used, within}
use Rattle.demands.proofs.Theory.{length-names, length-formulas}
use Rattle.words.specs.memory.Kinds.{skip}
use Rattle.words.specs.memory.Words.{words}
use Rattle.words.proofs.memory.Kinds.{skip-none}
use Rattle.words.proofs.memory.Naming.{Naming, all_words_in}
use Rattle.words.proofs.memory.Words.{length-words, all_words-sizes, skip-words}
use Rattle.reading.proofs.memory.TheoryLines.{sizes-total}
use Rattle.steps.specs.memory.Held.{Held, held}

-- UNSAT was
abbrev pub is_over : State → Bool
is_over (live t top) = false
is_over (ended n top) = true

module _ (N : Naming) where
  -- the words of each formula, one after the other
  abbrev pub theory_words : List Formula → List ℕ
  theory_words fs = all_words_in N (parts_of fs)

  abbrev pub live_words : Theory → List ℕ
  live_words t = theory_words (formulas_of t)

  -- what memory holds of a state
  abbrev pub held_of : State → Held
  held_of s = held (live_words (live_theory s)) (names_of (live_theory s)) (greatest_used s) (is_over s)

  pub words_append : (t u : Theory) → live_words (t ++ u) ≡ live_words t ++ live_words u
  unfolding words
  words_append [] u = refl
  words_append (e ∷ es) u = rw (words_append es u, append_assoc)

  -- so many formulas are passed over whole
  pub skip-live : (t : Theory) (s : List ℕ) → skip (live_words t ++ s) (length t) ≡ length (live_words t)
  unfolding words
  skip-live [] s = skip-none s
  skip-live (e ∷ es) s =
      rw (append_assoc, skip-words N e.formula (length es) (live_words es ++ s), skip-live es s, length-append, length-words N e.formula)

  -- The limits.

  sizes-held : (t : Theory) → sizes_fit (formulas_of t) ≡ (leb (length (live_words t)) 4096 && leb (length (names_of t)) 1024)
  unfolding theory_size formula_count
  sizes-held t = rw (all_words-sizes N.variable_index N.predicate_index (parts_of (formulas_of t)), sizes-total (formulas_of t), length-formulas t, length-names t)

  module _ (t : Theory) (fits : sizes_fit (formulas_of t) ≡ true) where
    pub words-few : length (live_words t) ≤ 4096
    words-few = leb-true (length (live_words t)) 4096 (and_left _ _ (sym (sizes-held t) ∙ fits))

    pub names-few : length (names_of t) ≤ 1024
    names-few = leb-true (length (names_of t)) 1024 (and_right (leb (length (live_words t)) 4096) _ (sym (sizes-held t) ∙ fits))

  -- what 15 leaves of live formulas
  module _ (top : ℕ) (t : Theory) where
    within_held : mapped held_of (within top t)
        ≡ (provided (leb (length (live_words t)) 4096 && leb (length (names_of t)) 1024) 15 >> done (held_of (live t top)))
    within_held = rw (sizes-held t) (pick (leb (length (live_words t)) 4096 && leb (length (names_of t)) 1024))
      where
        pick : (b : Bool) → mapped {E = ℕ} held_of (mapped (λ u. live t top) (provided b 15)) ≡ (provided b 15 >> done (held_of (live t top)))
        pick true = refl
        pick false = refl

    pub within-words : length (names_of t) ≤ 1024 → mapped held_of (within top t) ≡ (provided (leb (length (live_words t)) 4096) 15 >> done (held_of (live t top)))
    within-words h =
        within_held
        ∙ ap (λ (b : Bool). provided b 15 >> done (held_of (live t top)))
        (ap (λ (b : Bool). leb (length (live_words t)) 4096 && b) (le-leb (length (names_of t)) 1024 h) ∙ and-true (leb (length (live_words t)) 4096))

    pub within-names : length (live_words t) ≤ 4096 → mapped held_of (within top t) ≡ (provided (leb (length (names_of t)) 1024) 15 >> done (held_of (live t top)))
    within-names h =
        within_held
        ∙ ap (λ (b : Bool). provided (b && leb (length (names_of t)) 1024) 15 >> done (held_of (live t top))) (le-leb (length (live_words t)) 4096 h)
