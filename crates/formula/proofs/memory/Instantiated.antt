-- What IQ makes of the words of a quantifier is the words of what it makes of the quantifier, where the flags are what the guard admits.
-- Assumes nothing.
use Prim.Native.Nat.{ℕ, zero, suc, ◌+◌, ◌*◌, ◌%◌}
use native.Mathlib.Nat.{zero-add}
use native.Mathlib.Omega.{arith}
use mathlib.Core.Path.{◌≡◌, refl, sym, ap, ◌∙◌}
use mathlib.Core.List.{List, [], ◌++◌, map, append-nil}
use mathlib.Core.Bool.{Bool, true, false, cond}
use borrow.Author.Tests.{eq-eqb, ne_eqb}
use lib.Dec.{eqb}
use lib.ListN.{length, get_or, drop}
use lib.Seq.{slice}
use Rattle.grammar.specs.Problem.{Name, Problem}
use Rattle.logic.specs.Formula.{Side, all, any, Formula, quantifier, Formulas, part, size, replace}
use Rattle.logic.specs.Meaning.{count_from, elements_to}
use Rattle.logic.specs.Rules.{admits, instances, instantiated}
use Rattle.words.specs.memory.Words.{quantifier_tag, part_total, words}
use Rattle.words.specs.memory.Stored.{side_of}
use Rattle.words.proofs.memory.Naming.{Naming, words_in, all_words_in, Storable, VariableListed}
use Rattle.words.proofs.memory.Words.{quantifier-index, length-words, after_first-words}
use Rattle.words.proofs.memory.Standing.{first-stands, others_stand}
use Rattle.formula.specs.memory.Instances.{words_with, copies, set_count, instantiated_words}
use Rattle.formula.proofs.memory.Replaced.{words_replaced}

-- `&` for `!`, `|` for `?`
junction_side : (c : Side) (x : ℕ) → side_of (eqb ((x * 16 + quantifier_tag c) % 16) 8) ≡ c
junction_side all x = let e : (x * 16 + 8) % 16 ≡ 8 = omega arith in rw (eq-eqb ((x * 16 + 8) % 16) 8 e)
junction_side any x = let e : (x * 16 + 9) % 16 ≡ 8 → ⊥ = λ q. omega arith in rw (ne_eqb ((x * 16 + 9) % 16) 8 e)

module _ (N : Naming) (P : Problem) (x : Name) (listed : VariableListed N x) (g f : Formula) (storable : Storable N f) where
  copy_words : (v : ℕ) → words_with (N.variable_index x) v (words_in N f) 0 ≡ words_in N (replace x v f)
  unfolding words_with
  copy_words v =
      ap (λ (s : List ℕ). words_with (N.variable_index x) v s 0) (sym (append-nil (words_in N f)))
      ∙ words_replaced N x listed v f [] storable ∙ append-nil (words_in N (replace x v f))

  copies-words : (n v : ℕ) → copies (map (admits P x g) (count_from v n)) (N.variable_index x) (words_in N f) v ≡ all_words_in N (instances P x g f (count_from v n))
  unfolding copies instances words
  copies-words zero v = refl
  copies-words (suc n) v = rw (copy_words v, copies-words n (suc v)) (pick (admits P x g v))
    where
      later : Formulas
      later = instances P x g f (count_from (suc v) n)

      pick : (b : Bool) → cond b (words_in N (replace x v f)) [] ++ all_words_in N later ≡ all_words_in N (cond b (part (replace x v f) later) later)
      pick true = refl
      pick false = refl

  set_count-instances : (n v : ℕ) → set_count (map (admits P x g) (count_from v n)) ≡ part_total (instances P x g f (count_from v n))
  unfolding set_count instances
  set_count-instances zero v = refl
  set_count-instances (suc n) v = rw (set_count-instances n (suc v)) (pick (admits P x g v))
    where
      later : Formulas
      later = instances P x g f (count_from (suc v) n)

      pick : (b : Bool) → cond b 1 0 + part_total later ≡ part_total (cond b (part (replace x v f) later) later)
      pick true = omega arith
      pick false = zero-add _

  module _ (c : Side) where
    pub instantiated_words_lem : instantiated_words (N.variable_index x * 16 + quantifier_tag c) (words_in N g ++ words_in N f) (map (admits P x g) (elements_to P.domain))
        ≡ words_in N (instantiated P c x g f)
    unfolding instantiated_words words
    instantiated_words_lem =
        rw (
          set_count-instances P.domain 1,
          junction_side c (N.variable_index x),
          quantifier-index c (N.variable_index x),
          after_first-words N g (words_in N f),
          copies-words P.domain 1,
        )

    -- where the quantifier stands in memory
    pub instantiated-stands : (work : List ℕ) (at end : ℕ) (rest : List ℕ) (flags : List Bool) → drop at work ≡ words_in N (quantifier c x g f) ++ rest
        → end ≡ at + size (quantifier c x g f) → flags ≡ map (admits P x g) (elements_to P.domain)
        → instantiated_words (get_or work at 0) (slice (at + 1) end work) flags ≡ words_in N (instantiated P c x g f)
    unfolding words
    instantiated-stands work at end rest flags stands ends admitted =
        let others = words_in N g ++ words_in N f in
        let long : end ≡ at + (1 + length others) = omega (arith, ends, length-words N (quantifier c x g f)) in
        rw (admitted, first-stands work at _ others rest stands, others_stand work at _ others rest stands end long) instantiated_words_lem
