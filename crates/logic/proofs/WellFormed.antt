-- What holds of every live formula, at every place in it: predicates known, those inside a guard being input predicates, elements of the domain, variables
-- bound, and a level left. It follows from the tests of a theory's line, and gives their answers back.
-- Assumes nothing.
use Prim.Native.Nat.{ℕ, suc, max, ◌≤◌, ◌<◌}
use native.Mathlib.Nat.{le_trans, le_of_suc-le-suc, lt_of_lt_of_le}
use native.Mathlib.Omega.{arith}
use mathlib.Core.Path.{◌≡◌, refl, ap₂}
use mathlib.Core.Bool.{Bool, true, false, ◌&&◌, false≢true}
use Rattle.grammar.specs.Problem.{Name, Problem, is_input}
use Rattle.grammar.proofs.Laws.{and_left, and_right}
use Rattle.logic.specs.Formula.{Term, Terms, Side, all, Connective, negation, implies, implied_by, equivalent, junction}
use Rattle.logic.specs.Formula.{Formula, truth, atom, equal, connective, quantifier, Formulas, no_parts, part, depth, depths}
use Rattle.logic.specs.Names.{known, all_known, none, besides, closed, all_closed, names_fit}
use Rattle.logic.specs.Normal.{mentions_only, all_mention_only, inputs_only, is_simple, permits, connective_form, has_form, all_have_form, is_gnf}

-- `inside` a guard or not, with the variables `bound` around, and so many levels left
mutual
  pub data WellFormed (P : Problem) : Bool → (Name → Bool) → ℕ → Formula → Type 0 where
    of_truth : {inside : Bool} {bound : Name → Bool} {levels : ℕ} {b : Bool} → 0 < levels → WellFormed P inside bound levels (truth b)
    of_atom : {inside : Bool} {bound : Name → Bool} {levels : ℕ} {p : Name} {ts : Terms} → 0 < levels
        → known P (atom p ts) ≡ true → closed bound (atom p ts) ≡ true → (inside ≡ true → is_input P p ≡ true)
        → WellFormed P inside bound levels (atom p ts)
    of_equal : {inside : Bool} {bound : Name → Bool} {levels : ℕ} {s t : Term} → 0 < levels
        → known P (equal s t) ≡ true → closed bound (equal s t) ≡ true → WellFormed P inside bound levels (equal s t)
    of_connective : {inside : Bool} {bound : Name → Bool} {levels rest : ℕ} {o : Connective} {fs : Formulas} → rest < levels
        → AllWellFormed P inside bound rest fs → WellFormed P inside bound levels (connective o fs)
    of_quantifier : {inside : Bool} {bound : Name → Bool} {levels rest : ℕ} {c : Side} {x : Name} {g f : Formula} → rest < levels
        → WellFormed P true (besides x bound) rest g → WellFormed P inside (besides x bound) rest f
        → WellFormed P inside bound levels (quantifier c x g f)

  pub data AllWellFormed (P : Problem) : Bool → (Name → Bool) → ℕ → Formulas → Type 0 where
    of_none : {inside : Bool} {bound : Name → Bool} {levels : ℕ} → AllWellFormed P inside bound levels no_parts
    of_part : {inside : Bool} {bound : Name → Bool} {levels : ℕ} {f : Formula} {fs : Formulas}
        → WellFormed P inside bound levels f → AllWellFormed P inside bound levels fs → AllWellFormed P inside bound levels (part f fs)

-- more levels left
pub WellFormed_deeper : {P : Problem} {inside : Bool} {bound : Name → Bool} {levels more : ℕ} {f : Formula}
    → levels ≤ more → WellFormed P inside bound levels f → WellFormed P inside bound more f
WellFormed_deeper m (of_truth l) = of_truth (lt_of_lt_of_le l m)
WellFormed_deeper m (of_atom l k c i) = of_atom (lt_of_lt_of_le l m) k c i
WellFormed_deeper m (of_equal l k c) = of_equal (lt_of_lt_of_le l m) k c
WellFormed_deeper m (of_connective l fs) = of_connective (lt_of_lt_of_le l m) fs
WellFormed_deeper m (of_quantifier l g f) = of_quantifier (lt_of_lt_of_le l m) g f

pub AllWellFormed_deeper : {P : Problem} {inside : Bool} {bound : Name → Bool} {levels more : ℕ} {fs : Formulas}
    → levels ≤ more → AllWellFormed P inside bound levels fs → AllWellFormed P inside bound more fs
AllWellFormed_deeper m of_none = of_none
AllWellFormed_deeper m (of_part w ws) = of_part (WellFormed_deeper m w) (AllWellFormed_deeper m ws)

-- the parts of a connective, with one level fewer
pub WellFormed_parts : {P : Problem} {inside : Bool} {bound : Name → Bool} {levels fewer : ℕ} {o : Connective} {fs : Formulas}
    → levels ≤ suc fewer → WellFormed P inside bound levels (connective o fs) → AllWellFormed P inside bound fewer fs
WellFormed_parts m (of_connective l ws) = AllWellFormed_deeper (le_of_suc-le-suc (le_trans l m)) ws

-- What the tests answer.

pub record Tested (P : Problem) (inside : Bool) (bound : Name → Bool) (levels : ℕ) (f : Formula) : Type 0 where
  pub is_known : known P f ≡ true
  pub is_closed : closed bound f ≡ true
  pub is_shallow : depth f ≤ levels
  pub is_inputs : inside ≡ true → inputs_only P f ≡ true

mutual
  unfolding known closed depth mentions_only

  pub WellFormed_tested : {P : Problem} {inside : Bool} {bound : Name → Bool} {levels : ℕ} {f : Formula}
      → WellFormed P inside bound levels f → Tested P inside bound levels f
  WellFormed_tested (of_truth l) = record { is_known = refl; is_closed = refl; is_shallow = l; is_inputs = λ i. refl }
  WellFormed_tested (of_atom l k c i) = record { is_known = k; is_closed = c; is_shallow = l; is_inputs = i }
  WellFormed_tested (of_equal l k c) = record { is_known = k; is_closed = c; is_shallow = l; is_inputs = λ i. refl }
  WellFormed_tested (of_connective l fs) =
      let t = parts_tested fs negation in
      record { is_known = t.is_known; is_closed = t.is_closed; is_shallow = omega (arith, t.is_shallow); is_inputs = t.is_inputs }
  WellFormed_tested (of_quantifier l g f) =
      let s = WellFormed_tested g in
      let t = WellFormed_tested f in
      record {
        is_known = ap₂ ◌&&◌ s.is_known t.is_known;
        is_closed = ap₂ ◌&&◌ s.is_closed t.is_closed;
        is_shallow = omega (arith, s.is_shallow, t.is_shallow);
        is_inputs = λ i. ap₂ ◌&&◌ (s.is_inputs refl) (t.is_inputs i);
      }

  -- parts, as those of a connective
  parts_tested : {P : Problem} {inside : Bool} {bound : Name → Bool} {levels : ℕ} {fs : Formulas}
      → AllWellFormed P inside bound levels fs → (o : Connective) → Tested P inside bound (suc levels) (connective o fs)
  parts_tested of_none o = record { is_known = refl; is_closed = refl; is_shallow = omega arith; is_inputs = λ i. refl }
  parts_tested (of_part f fs) o =
      let s = WellFormed_tested f in
      let t = parts_tested fs o in
      record {
        is_known = ap₂ ◌&&◌ s.is_known t.is_known;
        is_closed = ap₂ ◌&&◌ s.is_closed t.is_closed;
        is_shallow = omega (arith, s.is_shallow, t.is_shallow);
        is_inputs = λ i. ap₂ ◌&&◌ (s.is_inputs i) (t.is_inputs i);
      }

-- What the tests ask for: inside a guard input predicates only, and elsewhere a normal form.

abbrev Asked : Problem → Bool → Formula → Type 0
Asked P true f = inputs_only P f ≡ true
Asked P false f = (c : Side) × (has_form P c f ≡ true)

abbrev AllAsked : Problem → Bool → Formulas → Type 0
AllAsked P true fs = all_mention_only (is_input P) fs ≡ true
AllAsked P false fs = (c : Side) × (all_have_form P c fs ≡ true)

module _ (P : Problem) where
  form_simple : (f : Formula) → is_simple f ≡ true → has_form P all f ≡ true
  unfolding has_form
  form_simple (truth b) e = refl
  form_simple (atom p ts) e = refl
  form_simple (equal s t) e = refl
  form_simple (connective o fs) e = absurd (false≢true e)
  form_simple (quantifier c x g f) e = absurd (false≢true e)

  -- the parts of a connective in normal form have one
  form_parts : (c : Side) (o : Connective) (fs : Formulas) → connective_form c (λ d. all_have_form P d fs) o fs ≡ true → AllAsked P false fs
  unfolding has_form
  form_parts c negation no_parts e = absurd (false≢true e)
  form_parts c negation (part f no_parts) e = (all, ap₂ ◌&&◌ (form_simple f e) refl)
  form_parts c negation (part f (part g fs)) e = absurd (false≢true e)
  form_parts c implies fs e = absurd (false≢true e)
  form_parts c implied_by fs e = absurd (false≢true e)
  form_parts c equivalent fs e = absurd (false≢true e)
  form_parts c (junction d) fs e = (d, and_right (permits c d) _ e)

  asked_atom : (inside : Bool) (p : Name) (ts : Terms) → Asked P inside (atom p ts) → inside ≡ true → is_input P p ≡ true
  unfolding mentions_only
  asked_atom true p ts a i = a
  asked_atom false p ts a i = absurd (false≢true i)

  asked_parts : (inside : Bool) (o : Connective) (fs : Formulas) → Asked P inside (connective o fs) → AllAsked P inside fs
  unfolding mentions_only has_form
  asked_parts true o fs a = a
  asked_parts false o fs (c, e) = form_parts c o fs e

  asked_quantifier : (inside : Bool) (c : Side) (x : Name) (g f : Formula) → Asked P inside (quantifier c x g f) → Asked P true g × Asked P inside f
  unfolding mentions_only has_form
  asked_quantifier true c x g f a = (and_left _ _ a, and_right (inputs_only P g) _ a)
  asked_quantifier false d x g f (c, e) =
      let both = and_right (permits c d) _ e in
      (and_left (inputs_only P g) _ both, (d, and_right (inputs_only P g) _ both))

  asked_part : (inside : Bool) (f : Formula) (fs : Formulas) → AllAsked P inside (part f fs) → Asked P inside f × AllAsked P inside fs
  unfolding mentions_only has_form
  asked_part true f fs a = (and_left _ _ a, and_right (inputs_only P f) _ a)
  asked_part false f fs (c, e) = ((c, and_left _ _ e), (c, and_right (has_form P c f) _ e))

  mutual
    unfolding known closed depth

    asked_WellFormed : (f : Formula) (inside : Bool) (bound : Name → Bool) (levels : ℕ) → Asked P inside f
        → known P f ≡ true → closed bound f ≡ true → depth f ≤ levels → WellFormed P inside bound levels f
    asked_WellFormed (truth b) inside bound levels a k c l = of_truth l
    asked_WellFormed (atom p ts) inside bound levels a k c l = of_atom l k c (asked_atom inside p ts a)
    asked_WellFormed (equal s t) inside bound levels a k c l = of_equal l k c
    asked_WellFormed (connective o fs) inside bound levels a k c l =
        of_connective l (asked_AllWellFormed fs inside bound (depths fs) (asked_parts inside o fs a) k c (omega arith))
    asked_WellFormed (quantifier d x g f) inside bound levels a k c l =
        let (guard, body) = asked_quantifier inside d x g f a in
        of_quantifier l
        (asked_WellFormed g true (besides x bound) (max (depth g) (depth f)) guard (and_left _ _ k) (and_left _ _ c) (omega arith))
        (asked_WellFormed f inside (besides x bound) (max (depth g) (depth f)) body
        (and_right (known P g) _ k) (and_right (closed (besides x bound) g) _ c) (omega arith))

    asked_AllWellFormed : (fs : Formulas) (inside : Bool) (bound : Name → Bool) (levels : ℕ) → AllAsked P inside fs
        → all_known P fs ≡ true → all_closed bound fs ≡ true → depths fs ≤ levels → AllWellFormed P inside bound levels fs
    asked_AllWellFormed no_parts inside bound levels a k c l = of_none
    asked_AllWellFormed (part f fs) inside bound levels a k c l =
        let (here, rest) = asked_part inside f fs a in
        of_part
        (asked_WellFormed f inside bound levels here (and_left _ _ k) (and_left _ _ c) (omega arith))
        (asked_AllWellFormed fs inside bound levels rest (and_right (known P f) _ k) (and_right (closed bound f) _ c) (omega arith))

  -- a formula of a theory's line
  pub tests_WellFormed : (f : Formula) (levels : ℕ) → names_fit P f ≡ true → is_gnf P f ≡ true → depth f ≤ levels → WellFormed P false none levels f
  tests_WellFormed f levels n e l =
      asked_WellFormed f false none levels (all, e) (and_left (known P f) _ n) (and_right (known P f) _ n) l
