-- The live formulas as memory holds them, and the rule lines on them: 11 to 15, as the code decides them.
use Rattle.std.specs.Prelude.{ℕ, zero, suc, ◌+◌, List, [], ◌∷◌, Option, Some, None, Bool, true, false, cond, not, ◌&&◌, eqb, leb, length, get_or, drop}
use Rattle.std.specs.Bool.{beq}
use Rattle.grammar.specs.Bytes.{same}
use Rattle.grammar.specs.Outcome.{Outcome, done, refused, mapped, provided, ◌>>=◌, ◌>>◌}
use Rattle.grammar.specs.Derivation.{Position, Rule, SNAND, SNOR, STN, EPRED, EPROP, IQ, RuleLine, rewrite, unsat, trivial, splitc}
use Rattle.demands.specs.Theory.{climbing, highest}
use Rattle.table.specs.declared.table.Table.{Table}
use Rattle.derivation.specs.declared.rule_line.Rule.{Rule as RuleName}
use Rattle.derivation.specs.declared.rule_line.Rule.TheVariants.{Snand, Snor, Stn, Epred, Eprop, Iq}
use Rattle.words.specs.memory.Words.{truth_word}
use Rattle.words.specs.memory.Kinds.{kind_of, skip}
use Rattle.words.specs.memory.Paths.{place_of}
use Rattle.words.specs.memory.Storing.{spliced}
use Rattle.words.specs.declared.word.Sign.{Sign}
use Rattle.words.specs.declared.word.Sign.TheVariants.{Negation, Implies, ImpliedBy, Equivalent, Junction}
use Rattle.words.specs.declared.word.Kind.{Kind}
use Rattle.words.specs.declared.word.Kind.TheVariants as kind
use Rattle.guards.specs.memory.Admitted.{guard_closed, admitted_flags}
use Rattle.clauses.specs.memory.Clauses.{all_at, clause_at}
use Rattle.formula.specs.memory.Rewriting.{end_within, rewritten_words}
use Rattle.formula.specs.memory.Deciding.{rule_fit}
use Rattle.formula.specs.declared.decide.Fit.{Fit}
use Rattle.formula.specs.declared.decide.Fit.TheVariants as fit
use Rattle.names.specs.memory.Names.{index_in}

-- the formulas' words one after the other, their names, the greatest name used, and whether UNSAT was
pub record Held : Type 0 where
  pub words : List ℕ
  pub names : List ℕ
  pub top : ℕ
  pub ended : Bool

abbrev pub held : List ℕ → List ℕ → ℕ → Bool → Held
held words names top ended = record { words = words; names = names; top = top; ended = ended }

abbrev pub reached : Option ℕ → Outcome ℕ ℕ
reached (Some j) = done j
reached None = refused 12

-- the index of a name, 11; and the place of a path in its formula, 12
unfoldable pub target_in : Held → Position → Outcome ℕ (ℕ × ℕ)
target_in m p =
    let index = index_in p.name m.names in
    provided (not (eqb index (length m.names))) 11
    >> mapped (λ at. (index, at)) (reached (place_of m.words p.path (skip m.words index)))

abbrev pub is_empty : List ℕ → Bool
is_empty [] = true
is_empty (i ∷ is) = false

-- the same for a rule that takes no path, 13
unfoldable pub whole_in : Held → Position → Outcome ℕ (ℕ × ℕ)
whole_in m p = target_in m p >>= λ t. provided (is_empty p.path) 13 >> (provided (not m.ended) 13 >> done t)

-- the number that a decision is refused with; 0 where the rule fits
abbrev pub misfit : Option Fit → List ℕ → ℕ
misfit (Some (fit.Value b)) s = 0
misfit (Some (fit.Junction every)) s = 0
misfit (Some fit.Quantifier) s = cond (guard_closed 32 s) 0 14
misfit None s = 13

abbrev pub unless_refused : {A : Type 0} → ℕ → Outcome ℕ A → Outcome ℕ A
unless_refused zero o = o
unless_refused (suc n) o = refused (suc n)

-- a list with other numbers for those from `at` to `end`
abbrev pub exchanged : List ℕ → ℕ → ℕ → List ℕ → List ℕ
exchanged s at end new = spliced s at end (length s) new

-- with what was decided done at a place: 15
unfoldable pub sized_in : Held → ℕ → Option Fit → List Bool → Outcome ℕ Held
sized_in m at decided flags =
    let words = exchanged m.words at (end_within m.words at (length m.words)) (rewritten_words decided m.words at (length m.words) flags) in
    provided (leb (length words) 4096) 15 >> done (held words m.names m.top false)

module _ (table : Table) (rows : List ℕ) where
  -- a rule at a place: 13, 14, 15
  unfoldable pub made_in : RuleName → Held → ℕ → Outcome ℕ Held
  made_in rule m at =
      let s = drop at m.words in
      let decided = rule_fit table rows rule s in
      unless_refused (misfit decided s) (sized_in m at decided (admitted_flags table rows 32 s))

  -- a rule at a path: 11, 12, 13, 14, 15
  unfoldable pub rewritten_in : Held → RuleName → Position → Outcome ℕ Held
  rewritten_in m rule p = target_in m p >>= λ t. provided (not m.ended) 13 >> made_in rule m t.1

-- without the first word of the formula at a place, and with other names for its own
unfoldable pub opened_in : Held → ℕ × ℕ → List ℕ → ℕ → Outcome ℕ Held
opened_in m t names top =
    done (held (exchanged m.words t.1 (t.1 + 1) []) (exchanged m.names t.0 (t.0 + 1) names) top false)

-- a word of that truth value
abbrev pub is_value : Bool → Kind → Bool
is_value b (kind.Truth c) = beq b c
is_value b (kind.Atom p n) = false
is_value b kind.Equality = false
is_value b (kind.Connective sign n) = false
is_value b (kind.Quantifier every x) = false
is_value b kind.Term = false

-- the whole formula of a name, if it is that truth value
unfoldable pub value_in : Bool → Held → Position → Outcome ℕ (ℕ × ℕ)
value_in b m p = whole_in m p >>= λ t. provided (is_value b (kind_of (get_or m.words t.1 0))) 13 >> done t

-- TRIVIAL
unfoldable pub removed_in : Held → Position → Outcome ℕ Held
removed_in m p = value_in true m p >>= λ t. opened_in m t [] m.top

-- a word of an `&` of so many parts, one or more
abbrev pub is_conjunction : Sign → ℕ → ℕ → Bool
is_conjunction Negation n many = false
is_conjunction Implies n many = false
is_conjunction ImpliedBy n many = false
is_conjunction Equivalent n many = false
is_conjunction (Junction every) n many = every && (not (eqb many 0) && eqb n many)

abbrev pub is_split : Kind → ℕ → Bool
is_split (kind.Truth b) many = false
is_split (kind.Atom p n) many = false
is_split kind.Equality many = false
is_split (kind.Connective sign n) many = is_conjunction sign n many
is_split (kind.Quantifier every x) many = false
is_split kind.Term many = false

-- SPLITC
unfoldable pub split_in : Held → Position → List ℕ → Outcome ℕ Held
split_in m p names =
    provided (climbing m.top names) 11
    >> (whole_in m p >>= λ t.
    provided (is_split (kind_of (get_or m.words t.1 0)) (length names)) 13
    >> (provided (leb (length m.names + length names) 1025) 15 >> opened_in m t names (highest m.top names)))

-- UNSAT
unfoldable pub refuted_in : Held → Position → Outcome ℕ Held
refuted_in m p = value_in false m p >>= λ t. done (held (truth_word false ∷ []) (p.name ∷ []) m.top true)

-- the rule as the code names it
abbrev pub rule_name : Rule → RuleName
rule_name SNAND = Snand
rule_name SNOR = Snor
rule_name STN = Stn
rule_name EPRED = Epred
rule_name EPROP = Eprop
rule_name IQ = Iq

-- a rule line on what memory holds
unfoldable pub stepped_in : Table → List ℕ → Held → RuleLine → Outcome ℕ Held
stepped_in table rows m (rewrite rule p) = rewritten_in table rows m (rule_name rule) p
stepped_in table rows m (unsat p) = refuted_in m p
stepped_in table rows m (trivial p) = removed_in m p
stepped_in table rows m (splitc p names) = split_in m p names

-- 16 where the footer does not list the live names, 17 where a final formula is no ground clause; 0 otherwise
unfoldable pub end_in : Table → Held → List ℕ → ℕ
end_in table m final =
    cond (same final m.names) (cond m.ended 0 (cond (all_at (clause_at table 32) (length m.names) m.words) 0 17)) 16
