-- What follows from a promise alone: its answer is the definition's, so what is true of the definition is true of every outcome that it allows.
-- Assumes nothing.
use Prim.Native.Nat.{ℕ, ◌≤◌}
use mathlib.Core.Path.{◌≡◌, refl, sym, ap, ◌∙◌}
use mathlib.Core.Logic.{◌↔◌}
use mathlib.Core.List.{List}
use mathlib.Core.Bool.{Bool, true, false}
use lib.Dec.{leb}
use lib.ListN.{length}
use borrow.Author.Tests.{le-leb, leb-true}
use Rattle.grammar.specs.Sizes.{work_size}
use Rattle.grammar.specs.Bytes.{Bytes}
use Rattle.grammar.specs.Lines.{Judged}
use Rattle.grammar.proofs.Refusals.{Refuses, never, only}
use Rattle.demands.specs.Ground.{Ground}
use Rattle.demands.specs.Answer.{Result, answer_of, output_after, result_of}
use Rattle.demands.specs.Refused.{Listed, Refused}
use Rattle.demands.specs.Promise.{Promise}
use Rattle.demands.specs.memory.Conclusions.{answered_of}
use Rattle.demands.specs.declared.answer.Answer.{Answer}

module _ {result : Result} {r : Answer} {output work : List ℕ} (promise : Promise result r output work) where
  pub promised_number : r.number ≡ result.answer.number
  promised_number = ap (λ (a : Answer). a.number) promise.is

  -- what 0 means of the definition, it means of the outcome
  pub promised_exactly : {A : Type 0} → (result.answer.number ≡ 0) ↔ A → (r.number ≡ 0) ↔ A
  promised_exactly (there, back) = ((λ e. there (sym promised_number ∙ e)), λ a. promised_number ∙ back a)

  pub promised_as : {other : Result} → result ≡ other → Promise other r output work
  promised_as e = rw (← e) promise

-- What a refusal gives.

pub promised_refused : {last : ℕ} {J : Judged Ground} → Refuses (Listed last) J → (output work : List ℕ) {r : Answer} {new left : List ℕ} → Promise (result_of J output work) r new left
    → (r.number ≡ 0 → ⊥) → Refused last output r new
promised_refused (never G) output work p some = absurd (some (promised_number p))
promised_refused (only l) output work p some = rw p.is (record { listed = l; rules = refl; formulas = refl; kept = p.written })

-- Working memory before: all that is looked at is whether it is long enough.

both_enough : (work other : List ℕ) → (work_size ≤ length work) ↔ (work_size ≤ length other) → leb work_size (length work) ≡ leb work_size (length other)
both_enough work other (there, back) = pick (leb work_size (length work)) refl (leb work_size (length other)) refl
  where
    pick : (b : Bool) → leb work_size (length work) ≡ b → (c : Bool) → leb work_size (length other) ≡ c → b ≡ c
    pick true e true f = refl
    pick false e false f = refl
    pick true e false f = sym (le-leb _ _ (there (leb-true _ _ e))) ∙ f
    pick false e true f = sym e ∙ le-leb _ _ (back (leb-true _ _ f))

module _ (compare : Bool) (problem theory derivation claim : Bytes) (output work other : List ℕ) (alike : (work_size ≤ length work) ↔ (work_size ≤ length other)) where
  answered_unseen : answered_of compare problem theory derivation claim output work ≡ answered_of compare problem theory derivation claim output other
  answered_unseen = rw (both_enough work other alike)

  pub promised_unseen : {r s : Answer} {new written left rest : List ℕ}
      → Promise (result_of (answered_of compare problem theory derivation claim output work) output work) r new left
      → Promise (result_of (answered_of compare problem theory derivation claim output other) output other) s written rest → (r ≡ s) × (new ≡ written)
  promised_unseen p q = (
    p.is ∙ ap answer_of answered_unseen ∙ sym q.is,
    p.written ∙ ap (λ (j : Judged Ground). output_after j output) answered_unseen ∙ sym q.written,
  )
