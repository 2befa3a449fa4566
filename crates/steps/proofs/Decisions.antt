-- What is decided of a formula in memory, and the theory with it done: a rule fits only where a word stands, and flags matter for IQ alone.
-- Assumes nothing.
use Prim.Native.Nat.{ℕ, ◌≤◌, ◌<◌}
use native.Mathlib.Omega.{arith}
use mathlib.Core.Path.{◌≡◌, refl, sym, ap, subst, ◌∙◌}
use Rattle.std.specs.Prelude.{Option, Some, None, Result, Ok, Err, ok_or}
use Rattle.std.specs.Result.{IsErrAnd}
use mathlib.Core.List.{List, []}
use mathlib.Core.Bool.{Bool, true, false, false≢true}
use borrow.Author.Tests.{le-leb, lt-leb}
use lib.ListN.{length, get_or, take, drop, drop_of_length-le, get_or-eq_default}
use Rattle.grammar.specs.Outcome.{Outcome, done, refused, provided, ◌>>◌}
use Rattle.grammar.specs.Derivation.{Position}
use Rattle.grammar.proofs.Outcome.{allowed_done, allowed_bind, allowed_provided, allowed_any}
use Rattle.table.specs.declared.table.Table.{Table}
use Rattle.derivation.specs.declared.rule_line.Rule.{Rule}
use Rattle.derivation.specs.declared.rule_line.Rule.TheVariants.{Snand, Snor, Stn, Epred, Eprop, Iq}
use Rattle.words.specs.memory.Kinds.{kind_of}
use Rattle.words.specs.declared.word.Kind.{Kind}
use Rattle.words.specs.declared.word.Kind.TheVariants as kind
use Rattle.words.proofs.memory.Words.{kind_truth}
use Rattle.guards.specs.memory.Admitted.{admitted_flags}
use Rattle.formula.specs.memory.Deciding.{junction_fit, negation_fit, quantifier_fit, evaluation_fit, rule_fit}
use Rattle.formula.specs.memory.Rewriting.{end_within, rewritten_words}
use Rattle.formula.specs.declared.decide.Fit.{Fit}
use Rattle.formula.specs.declared.decide.Fit.TheVariants as fit
use Rattle.steps.specs.memory.Held.{Held, held, whole_in, is_value, value_in, exchanged, misfit, unless_refused, sized_in, made_in}
use Rattle.steps.specs.memory.Fault.{number}
use Rattle.steps.specs.memory.Decisions.{Flagged, Decides, ToldDecision}
use Rattle.steps.specs.declared.fault.Fault.{Fault}
use Rattle.steps.specs.declared.fault.Fault.TheVariants as fault
use Rattle.steps.specs.declared.rewriting.Decision.{Decision}

-- Where no word stands, no rule fits.

fit_nothing : (table : Table) (rows : List ℕ) (rule : Rule) → rule_fit table rows rule [] ≡ None
fit_nothing table rows Snand = ap (junction_fit true) (kind_truth false)
fit_nothing table rows Snor = ap (junction_fit false) (kind_truth false)
fit_nothing table rows Stn = ap (λ (k : Kind). negation_fit k (kind_of 0)) (kind_truth false)
fit_nothing table rows Epred = ap (λ (k : Kind). evaluation_fit table rows true k []) (kind_truth false)
fit_nothing table rows Eprop = ap (λ (k : Kind). evaluation_fit table rows false k []) (kind_truth false)
fit_nothing table rows Iq = ap quantifier_fit (kind_truth false)

pub fit_here : (table : Table) (rows : List ℕ) (rule : Rule) (words : List ℕ) (at : ℕ) (decided : Fit) → rule_fit table rows rule (drop at words) ≡ Some decided → at < length words
fit_here table rows rule words at decided e =
    let inside : length words ≤ at → ⊥ = λ h. let z = sym (ap (rule_fit table rows rule) (drop_of_length-le words h) ∙ fit_nothing table rows rule) ∙ e in cc in
    omega arith

-- and none that passes a test which 0, the word of `false`, fails
pub word-here : (test : Kind → Bool) → test (kind.Truth false) ≡ false → (words : List ℕ) (at : ℕ) → test (kind_of (get_or words at 0)) ≡ true → at < length words
word-here test low words at e =
    let inside : length words ≤ at → ⊥ = λ h. false≢true (sym low ∙ ap test (sym (kind_truth false)) ∙ ap (λ (k : ℕ). test (kind_of k)) (sym (get_or-eq_default words 0 h)) ∙ e) in
    omega arith

-- a formula that is that truth value
pub value-told : (b : Bool) (m : Held) (p : Position) (t : ℕ × ℕ) → value_in b m p ≡ done t → is_value b (kind_of (get_or m.words t.1 0)) ≡ true
unfolding value_in
value-told b m p t =
    let value : ℕ × ℕ → Bool = λ s. is_value b (kind_of (get_or m.words s.1 0)) in
    let Told : ℕ × ℕ → Type 0 = λ s. value s ≡ true in
    allowed_done Told (value_in b m p) t
    (allowed_bind (λ s. Unit {0}) Told (λ s. provided (value s) 13 >> done s) (λ s u. allowed_bind _ Told (λ v. done s) (λ v e. e) (provided (value s) 13) (allowed_provided (value s) 13)) (whole_in m p) (allowed_any (whole_in m p)))

-- A decision.
module _ (table : Table) (rows : List ℕ) (rule : Rule) (m : Held) (at : ℕ) where
  abbrev rest : List ℕ
  rest = drop at m.words

  pub made_refused : (f : Fault) → misfit (rule_fit table rows rule rest) rest ≡ number f → made_in table rows rule m at ≡ refused (number f)
  unfolding made_in
  made_refused f e = rw e (refuses _ f)
    where
      refuses : (o : Outcome ℕ Held) (f : Fault) → unless_refused (number f) o ≡ refused (number f)
      refuses o fault.Malformed = refl
      refuses o fault.Name = refl
      refuses o fault.Path = refl
      refuses o fault.Rule = refl
      refuses o fault.Guard = refl
      refuses o fault.Size = refl
      refuses o fault.Footer = refl
      refuses o fault.Clause = refl

  sized_flags : (decided : Fit) (flags : List Bool) → Flagged table rows rest decided flags
      → sized_in m at (Some decided) (admitted_flags table rows 32 rest) ≡ sized_in m at (Some decided) (take table.domain flags)
  unfolding sized_in rewritten_words
  sized_flags (fit.Value b) flags f = refl
  sized_flags (fit.Junction b) flags f = refl
  sized_flags fit.Quantifier flags f = rw f

  pub made_fits : (decided : Fit) (flags : List Bool) → rule_fit table rows rule rest ≡ Some decided → misfit (Some decided) rest ≡ 0 → Flagged table rows rest decided flags
      → made_in table rows rule m at ≡ sized_in m at (Some decided) (take table.domain flags)
  unfolding made_in
  made_fits decided flags is e f = rw (is, e) (sized_flags decided flags f)

  -- what is decided says what the rule comes to
  pub decision-told : (r : Result Decision Fault) → Decides table rows rule rest r → ToldDecision table rows rule m at r
  decision-told (Ok d) told = made_fits d.fit d.flags told.0 told.1.0 told.1.1
  decision-told (Err f) told = made_refused f told

-- What a function answers where it hands on a refusal.
module _ {A : Type 0} (T : Result A Fault → Type 0) (r : Result A Fault) (f : Fault) (gives : IsErrAnd r (λ e. e ≡ f)) where
  pub handed_on : T (Err f) → T r
  handed_on = pick r gives
    where
      pick : (r : Result A Fault) → IsErrAnd r (λ e. e ≡ f) → T (Err f) → T r
      pick (Ok a) h t = absurd h
      pick (Err e) h t = subst (λ (e : Fault). T (Err e)) (sym h) t

module _ {B : Type 0} (o : Option B) (f : Fault) where
  pub some_of_ok : {b : B} → ok_or o f ≡ Ok b → o ≡ Some b
  some_of_ok e = pick o e
    where
      pick : (o : Option B) {b : B} → ok_or o f ≡ Ok b → o ≡ Some b
      pick (Some c) e = cc
      pick None e = cc

  pub none_of_err : {g : Fault} → ok_or o f ≡ Err g → (o ≡ None) × (g ≡ f)
  none_of_err e = pick o e
    where
      pick : (o : Option B) {g : Fault} → ok_or o f ≡ Err g → (o ≡ None) × (g ≡ f)
      pick (Some c) e = cc
      pick None e = (refl, cc)

-- 15

module _ (m : Held) (at : ℕ) (decided : Option Fit) (flags : List Bool) where
  abbrev pub made_words : List ℕ
  made_words = exchanged m.words at (end_within m.words at (length m.words)) (rewritten_words decided m.words at (length m.words) flags)

  pub sized_over : 4096 < length made_words → sized_in m at decided flags ≡ refused 15
  unfolding sized_in
  sized_over h = rw (lt-leb (length made_words) 4096 h)

  pub sized-within : length made_words ≤ 4096 → sized_in m at decided flags ≡ done (held made_words m.names m.top false)
  unfolding sized_in
  sized-within h = rw (le-leb (length made_words) 4096 h)
