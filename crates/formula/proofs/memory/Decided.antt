-- What is decided of a formula in memory is what the rule says of the formula: by the kind of its first word, and for EPRED and EPROP by its value in the input structure.
-- Assumes nothing.
use Prim.Native.Nat.{ℕ, suc, ◌%◌, ◌≤◌}
use native.Mathlib.Omega.{arith}
use mathlib.Core.Path.{◌≡◌, refl, sym, ap, ◌∙◌}
use mathlib.Core.List.{List, [], ◌++◌, append_assoc}
use Rattle.std.specs.Prelude.{Option, Some, None}
use mathlib.Core.Bool.{Bool, true, false, cond, not, ◌&&◌, and-true}
use borrow.Author.Tests.{ne_eqb, lt-ltb}
use lib.Dec.{eqb, ltb}
use lib.ListN.{get_or, drop, replicate}
use Rattle.grammar.specs.Bytes.{Bytes}
use Rattle.grammar.specs.Outcome.{Outcome, done, refused}
use Rattle.grammar.specs.Problem.{Name, Problem, is_input, given}
use Rattle.grammar.specs.Valid.{Valid}
use Rattle.logic.specs.Formula.{Term, Terms, no_terms, term, term_count, Side, all, any, negation, implies, implied_by, equivalent, junction}
use Rattle.logic.specs.Formula.{Formula, truth, atom, equal, connective, quantifier, Formulas, no_parts, part, depth}
use Rattle.logic.specs.Names.{known, closed_but}
use Rattle.logic.specs.Normal.{mentions_only, is_element_term, elements_only}
use Rattle.logic.specs.Meaning.{nowhere, value_of, values_of, unit, holds}
use Rattle.logic.specs.Rules.{on_truth, simplified, simplify, negate, looked, compared, evaluate_predicate, evaluate_proposition, instantiated, instantiate, apply}
use Rattle.table.specs.memory.Table.{position, table_names, problem_in}
use Rattle.table.specs.declared.table.Table.{Table}
use Rattle.table.proofs.Tables.{is_input_in}
use Rattle.derivation.specs.memory.RuleLines.{rule_of}
use Rattle.derivation.specs.declared.rule_line.Rule.{Rule}
use Rattle.derivation.specs.declared.rule_line.Rule.TheVariants.{Snand, Snor, Stn, Epred, Eprop, Iq}
use Rattle.words.specs.memory.Kinds.{kind_of, elements_at}
use Rattle.words.specs.memory.Words.{part_total, words}
use Rattle.words.specs.declared.word.Kind.{Kind}
use Rattle.words.specs.declared.word.Kind.TheVariants as kind
use Rattle.words.proofs.memory.Naming.{Naming, words_in, Storable}
use Rattle.words.proofs.memory.Words.{elements-words, sign_of, kind_truth, kind_atom, kind_equal, kind_connective, kind_quantifier}
use Rattle.guards.specs.memory.Values.{true_at}
use Rattle.guards.proofs.memory.Evaluated.{matches_nowhere, value-words}
use Rattle.formula.specs.memory.Deciding.{junction_fit, negated_fit, negation_fit, quantifier_fit, value_fit, input_fit, evaluation_fit, rule_fit}
use Rattle.formula.specs.declared.decide.Fit.{Fit}
use Rattle.formula.specs.declared.decide.Fit.TheVariants as fit

-- the formula is an `&`, if every part counts, or an `|`, and its parts are simplified
pub record JunctionFits (f : Formula) (every : Bool) (made : Outcome ℕ Formula) : Type 0 where
  pub side : Side
  pub parts : Formulas
  pub is : f ≡ connective (junction side) parts
  pub sided : unit side ≡ every
  pub makes : made ≡ done (simplified side parts)

-- the formula is a quantifier, and it is instantiated if no other variable is free in its guard
pub record QuantifierFits (P : Problem) (f : Formula) (made : Outcome ℕ Formula) : Type 0 where
  pub side : Side
  pub name : Name
  pub guard : Formula
  pub body : Formula
  pub is : f ≡ quantifier side name guard body
  pub makes : made ≡ cond (closed_but name guard) (done (instantiated P side name guard body)) (refused 14)

-- what a rule makes of a formula, as it is decided
abbrev pub Told : Problem → Formula → Outcome ℕ Formula → Option Fit → Type 0
Told P f made (Some (fit.Value b)) = made ≡ done (truth b)
Told P f made (Some (fit.Junction every)) = JunctionFits f every made
Told P f made (Some fit.Quantifier) = QuantifierFits P f made
Told P f made None = made ≡ refused 13

module _ (N : Naming) where
  abbrev first_kind : Formula → Kind
  first_kind (truth b) = kind.Truth b
  first_kind (atom p ts) = kind.Atom (N.predicate_index p) (term_count ts)
  first_kind (equal s t) = kind.Equality
  first_kind (connective o fs) = kind.Connective (sign_of o) (part_total fs)
  first_kind (quantifier c x g f) = kind.Quantifier (unit c) (N.variable_index x)

  first_kind_lem : (f : Formula) (s : List ℕ) → kind_of (get_or (words_in N f ++ s) 0 0) ≡ first_kind f
  unfolding words
  first_kind_lem (truth b) s = kind_truth b
  first_kind_lem (atom p ts) s = kind_atom (N.predicate_index p) (term_count ts) (N.small p)
  first_kind_lem (equal t u) s = kind_equal
  first_kind_lem (connective o fs) s = kind_connective o (part_total fs)
  first_kind_lem (quantifier c x g f) s = kind_quantifier c (N.variable_index x)

  -- SNAND and SNOR, STN, IQ: by the kind.

  module _ (P : Problem) where
    junction-told : (c : Side) (f : Formula) → Told P f (simplify c f) (junction_fit (unit c) (first_kind f))
    junction-told c (truth b) = refl
    junction-told c (atom p ts) = refl
    junction-told c (equal s t) = refl
    junction-told c (connective negation fs) = refl
    junction-told c (connective implies fs) = refl
    junction-told c (connective implied_by fs) = refl
    junction-told c (connective equivalent fs) = refl
    junction-told all (connective (junction all) fs) = record { side = all; parts = fs; is = refl; sided = refl; makes = refl }
    junction-told all (connective (junction any) fs) = refl
    junction-told any (connective (junction all) fs) = refl
    junction-told any (connective (junction any) fs) = record { side = any; parts = fs; is = refl; sided = refl; makes = refl }
    junction-told c (quantifier d x g f) = refl

    quantifier-told : (f : Formula) → Told P f (instantiate P f) (quantifier_fit (first_kind f))
    quantifier-told (truth b) = refl
    quantifier-told (atom p ts) = refl
    quantifier-told (equal s t) = refl
    quantifier-told (connective o fs) = refl
    quantifier-told (quantifier c x g f) = record { side = c; name = x; guard = g; body = f; is = refl; makes = refl }

    negated_told : (f g : Formula) → Told P f (on_truth (refused 13) (λ b. done (truth (not b))) g) (negated_fit (first_kind g))
    negated_told f (truth b) = refl
    negated_told f (atom p ts) = refl
    negated_told f (equal s t) = refl
    negated_told f (connective o fs) = refl
    negated_told f (quantifier c x g h) = refl

    negation_told : (f : Formula) (s : List ℕ) → Told P f (negate f) (negation_fit (first_kind f) (kind_of (get_or (words_in N f ++ s) 1 0)))
    unfolding words
    negation_told (truth b) s = refl
    negation_told (atom p ts) s = refl
    negation_told (equal t u) s = refl
    negation_told (connective negation no_parts) s = refl
    negation_told (connective negation (part g no_parts)) s =
        rw (append_assoc, first_kind_lem g ([] ++ s)) (negated_told (connective negation (part g no_parts)) g)
    negation_told (connective negation (part g (part h fs))) s = rw (ne_eqb (suc (suc (part_total fs))) 1 (λ e. omega arith))
    negation_told (connective implies fs) s = refl
    negation_told (connective implied_by fs) s = refl
    negation_told (connective equivalent fs) s = refl
    negation_told (connective (junction c) fs) s = refl
    negation_told (quantifier c x g f) s = refl

-- EPRED and EPROP, in the problem that a table and its rows are.

module _ (N : Naming) (text : Bytes) (table : Table) (rows : List ℕ) (inside : table.inputs ≤ table.count)
    (valid : Valid (problem_in text table rows)) (index : (p : Name) → N.predicate_index p ≡ position p (table_names text table)) where
  abbrev P : Problem
  P = problem_in text table rows

  -- an atom or equality of n terms, whose value in the input structure is b
  value-told : (f : Formula) (n : ℕ) (s : List ℕ) (d b : Bool) → elements_at n (drop 1 (words_in N f ++ s)) ≡ d
      → (d ≡ true → b ≡ true_at table rows 1 (replicate 64 0) (words_in N f ++ s))
      → Told P f (cond d (done (truth b)) (refused 13)) (value_fit table rows n (words_in N f ++ s))
  unfolding value_fit
  value-told f n s true b e h = rw e (ap (λ (v : Bool). done (truth v)) (h refl))
  value-told f n s false b e h = rw e

  atom-told : (p : Name) (ts : Terms) (s : List ℕ) → Storable N (atom p ts) → known P (atom p ts) ≡ true
      → Told P (atom p ts) (looked P p ts) (input_fit table rows (N.predicate_index p) (term_count ts) (words_in N (atom p ts) ++ s))
  unfolding words depth holds mentions_only
  atom-told p ts s storable k =
      let few : term_count ts % 4 ≡ term_count ts = omega (arith, storable.1) in
      let input : is_input P p ≡ ltb (N.predicate_index p) table.inputs = rw (index p) (is_input_in text table rows inside p) in
      rw (few, ← input) (pick (is_input P p) refl)
    where
      value : Bool
      value = given P p (values_of nowhere ts)

      pick : (i : Bool) → is_input P p ≡ i
          → Told P (atom p ts) (cond (i && elements_only ts) (done (truth value)) (refused 13))
          (cond i (value_fit table rows (term_count ts) (words_in N (atom p ts) ++ s)) None)
      pick true i =
          value-told (atom p ts) (term_count ts) s (elements_only ts) value (elements-words N ts s)
          (λ e. sym (value-words N text table rows inside valid index (atom p ts) 1 s (replicate 64 0) nowhere storable (omega arith) k i (matches_nowhere N) (λ x. omega arith)))
      pick false i = refl

  equal-told : (t u : Term) (s : List ℕ) → Storable N (equal t u) → known P (equal t u) ≡ true
      → Told P (equal t u) (compared t u) (value_fit table rows 2 (words_in N (equal t u) ++ s))
  unfolding words depth holds mentions_only
  equal-told t u s storable k =
      value-told (equal t u) 2 s (is_element_term t && is_element_term u) (eqb (value_of nowhere t) (value_of nowhere u))
      (elements-words N (term t (term u no_terms)) s ∙ ap (λ (b : Bool). is_element_term t && b) (and-true (is_element_term u)))
      (λ e. sym (value-words N text table rows inside valid index (equal t u) 1 s (replicate 64 0) nowhere storable (omega arith) k refl (matches_nowhere N) (λ x. omega arith)))

  predicate-told : (f : Formula) (s : List ℕ) → Storable N f → known P f ≡ true
      → Told P f (evaluate_predicate P f) (evaluation_fit table rows true (first_kind N f) (words_in N f ++ s))
  predicate-told (truth b) s h k = refl
  predicate-told (atom p no_terms) s h k = refl
  predicate-told (atom p (term t ts)) s h k = rw (lt-ltb 0 (suc (term_count ts)) (omega arith)) (atom-told p (term t ts) s h k)
  predicate-told (equal t u) s h k = equal-told t u s h k
  predicate-told (connective o fs) s h k = refl
  predicate-told (quantifier c x g f) s h k = refl

  proposition-told : (f : Formula) (s : List ℕ) → Storable N f → known P f ≡ true
      → Told P f (evaluate_proposition P f) (evaluation_fit table rows false (first_kind N f) (words_in N f ++ s))
  proposition-told (truth b) s h k = refl
  proposition-told (atom p no_terms) s h k = atom-told p no_terms s h k
  proposition-told (atom p (term t ts)) s h k = rw (lt-ltb 0 (suc (term_count ts)) (omega arith))
  proposition-told (equal t u) s h k = refl
  proposition-told (connective o fs) s h k = refl
  proposition-told (quantifier c x g f) s h k = refl

  pub rule_told : (rule : Rule) (f : Formula) (s : List ℕ) → Storable N f → known P f ≡ true
      → Told P f (apply P (rule_of rule) f) (rule_fit table rows rule (words_in N f ++ s))
  rule_told Snand f s h k = rw (first_kind_lem N f s) (junction-told N P all f)
  rule_told Snor f s h k = rw (first_kind_lem N f s) (junction-told N P any f)
  rule_told Stn f s h k = rw (first_kind_lem N f s) (negation_told N P f s)
  rule_told Epred f s h k = rw (first_kind_lem N f s) (predicate-told f s h k)
  rule_told Eprop f s h k = rw (first_kind_lem N f s) (proposition-told f s h k)
  rule_told Iq f s h k = rw (first_kind_lem N f s) (quantifier-told N P f)
