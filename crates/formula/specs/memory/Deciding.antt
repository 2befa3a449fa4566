-- Which rules fit the formula at the head of a list of words, and what they make of it.
use Rattle.std.specs.Prelude.{ℕ, ◌%◌, List, Option, Some, None, Bool, true, false, cond, not, eqb, ltb, get_or, drop, replicate}
use Rattle.std.specs.Bool.{beq}
use Rattle.table.specs.declared.table.Table.{Table}
use Rattle.derivation.specs.declared.rule_line.Rule.{Rule}
use Rattle.derivation.specs.declared.rule_line.Rule.TheVariants.{Snand, Snor, Stn, Epred, Eprop, Iq}
use Rattle.words.specs.memory.Kinds.{kind_of, elements_at}
use Rattle.words.specs.declared.word.Sign.{Sign}
use Rattle.words.specs.declared.word.Sign.TheVariants as sign
use Rattle.words.specs.declared.word.Kind.{Kind}
use Rattle.words.specs.declared.word.Kind.TheVariants as kind
use Rattle.guards.specs.memory.Values.{true_at}
use Rattle.formula.specs.declared.decide.Fit.{Fit}
use Rattle.formula.specs.declared.decide.Fit.TheVariants.{Value, Junction, Quantifier}

-- SNAND for an `&`, SNOR for an `|`
abbrev pub sign_fit : Bool → Sign → Option Fit
sign_fit every sign.Negation = None
sign_fit every sign.Implies = None
sign_fit every sign.ImpliedBy = None
sign_fit every sign.Equivalent = None
sign_fit every (sign.Junction side) = cond (beq every side) (Some (Junction every)) None

abbrev pub junction_fit : Bool → Kind → Option Fit
junction_fit every (kind.Truth b) = None
junction_fit every (kind.Atom p n) = None
junction_fit every kind.Equality = None
junction_fit every (kind.Connective o n) = sign_fit every o
junction_fit every (kind.Quantifier e x) = None
junction_fit every kind.Term = None

-- STN: `~` of one part, which is a truth value
abbrev pub negated_fit : Kind → Option Fit
negated_fit (kind.Truth b) = Some (Value (not b))
negated_fit (kind.Atom p n) = None
negated_fit kind.Equality = None
negated_fit (kind.Connective o n) = None
negated_fit (kind.Quantifier e x) = None
negated_fit kind.Term = None

abbrev pub is_negation : Sign → Bool
is_negation sign.Negation = true
is_negation sign.Implies = false
is_negation sign.ImpliedBy = false
is_negation sign.Equivalent = false
is_negation (sign.Junction every) = false

abbrev pub negation_fit : Kind → Kind → Option Fit
negation_fit (kind.Truth b) first = None
negation_fit (kind.Atom p n) first = None
negation_fit kind.Equality first = None
negation_fit (kind.Connective o n) first = cond (is_negation o) (cond (eqb n 1) (negated_fit first) None) None
negation_fit (kind.Quantifier e x) first = None
negation_fit kind.Term first = None

-- IQ
abbrev pub quantifier_fit : Kind → Option Fit
quantifier_fit (kind.Truth b) = None
quantifier_fit (kind.Atom p n) = None
quantifier_fit kind.Equality = None
quantifier_fit (kind.Connective o n) = None
quantifier_fit (kind.Quantifier e x) = Some Quantifier
quantifier_fit kind.Term = None

module _ (table : Table) (rows : List ℕ) where
  -- an atom or equality of so many terms: its value in the input structure
  unfoldable pub value_fit : ℕ → List ℕ → Option Fit
  value_fit n s = cond (elements_at n (drop 1 s)) (Some (Value (true_at table rows 1 (replicate 64 0) s))) None

  -- of an input predicate
  abbrev pub input_fit : ℕ → ℕ → List ℕ → Option Fit
  input_fit p n s = cond (ltb p table.inputs) (value_fit (n % 4) s) None

  -- EPRED, where some terms are asked for, EPROP, where none are
  abbrev pub evaluation_fit : Bool → Kind → List ℕ → Option Fit
  evaluation_fit some (kind.Truth b) s = None
  evaluation_fit some (kind.Atom p n) s = cond (beq some (ltb 0 n)) (input_fit p n s) None
  evaluation_fit some kind.Equality s = cond some (value_fit 2 s) None
  evaluation_fit some (kind.Connective o n) s = None
  evaluation_fit some (kind.Quantifier e x) s = None
  evaluation_fit some kind.Term s = None

  abbrev pub rule_fit : Rule → List ℕ → Option Fit
  rule_fit Snand s = junction_fit true (kind_of (get_or s 0 0))
  rule_fit Snor s = junction_fit false (kind_of (get_or s 0 0))
  rule_fit Stn s = negation_fit (kind_of (get_or s 0 0)) (kind_of (get_or s 1 0))
  rule_fit Epred s = evaluation_fit true (kind_of (get_or s 0 0)) s
  rule_fit Eprop s = evaluation_fit false (kind_of (get_or s 0 0)) s
  rule_fit Iq s = quantifier_fit (kind_of (get_or s 0 0))
