-- What a function answers where it hands on a refusal.
-- Assumes nothing.
use mathlib.Core.Path.{◌≡◌, sym, subst}
use Rattle.std.specs.Prelude.{Option, Some, None, Result, Ok, Err}
use Rattle.std.specs.Option.{ok_or}
use Rattle.std.specs.Result.{IsErrAnd}
use Rattle.problem.specs.declared.fault.Fault.{Fault}

module _ {A : Type 0} (T : Result A Fault → Type 0) (r : Result A Fault) (f : Fault) (gives : IsErrAnd r (λ e. e ≡ f)) where
  -- one that a callee answered
  pub handed_on : T (Err f) → T r
  handed_on = pick r gives
    where
      pick : (r : Result A Fault) → IsErrAnd r (λ e. e ≡ f) → T (Err f) → T r
      pick (Ok a) h t = absurd h
      pick (Err e) h t = subst (λ (e : Fault). T (Err e)) (sym h) t

  -- one that is answered where an option has nothing
  pub answered : {B : Type 0} (o : Option B) (fault : Fault) → Err f ≡ ok_or o fault → T (Err fault) → T r
  answered {B} o fault e t = handed_on (subst (λ (e : Fault). T (Err e)) (sym (same o e)) t)
    where
      same : (o : Option B) → Err f ≡ ok_or o fault → f ≡ fault
      same None e = cc
      same (Some b) e = cc
