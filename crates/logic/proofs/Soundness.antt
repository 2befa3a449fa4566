-- Every rule, at every path, guards and bodies under binders included, keeps a well-formed formula's value in every structure that extends the input
-- structure, at every environment. By the cases of the tables; IQ rests on guards of input predicates, whose value the input structure settles.
-- Assumes nothing.
use Prim.Native.Nat.{ℕ}
use mathlib.Core.Path.{◌≡◌, refl, ap, ap₂, ◌∙◌}
use mathlib.Core.List.{List, [], ◌∷◌, map}
use mathlib.Core.Bool.{Bool, true, false, cond, not, ◌||◌, and-false, or-true, false≢true}
use lib.Dec.{eqb}
use Rattle.grammar.specs.Problem.{Name, Problem, given}
use Rattle.grammar.specs.Derivation.{Rule}
use Rattle.grammar.proofs.Laws.{and_left, and_right}
use Rattle.grammar.proofs.Outcome.{Allowed, allowed_weaken}
use Rattle.logic.specs.Formula.{Term, element, variable, Terms, no_terms, term, Side, all, any, junction, replace, Formula, connective, Formulas, no_parts, part}
use Rattle.logic.specs.Names.{none, besides, closed_but}
use Rattle.logic.specs.Normal.{inputs_only, is_element_term, elements_only}
use Rattle.logic.specs.Meaning.{Structure, input_structure, Extends, Environment, nowhere, bind, value_of, values_of}
use Rattle.logic.specs.Meaning.{unit, join, join_all, connect, elements_to, guarded, holds, truths}
use Rattle.logic.specs.Rules.{is_truth, has_truth, without, unless_none, admits, instances, apply, at}
use Rattle.logic.specs.Tables.{Makes, absorbing, dropping, negating, predicate, equality, proposition, instantiating}
use Rattle.logic.specs.Tables.{Exchanged, first, later, MakesAt, here, in_part, in_guard, in_body}
use Rattle.logic.proofs.Meaning.{holds-quantifier}
use Rattle.logic.proofs.Substitution.{holds-replace}
use Rattle.logic.proofs.Agreement.{alike_bind, holds_agree}
use Rattle.logic.proofs.Rules.{is_truth_true}
use Rattle.logic.proofs.Tables.{at_makes}
use Rattle.logic.proofs.WellFormed.{WellFormed, of_connective, of_quantifier, AllWellFormed, of_part, WellFormed_tested}

-- The two sides: what changes nothing, and what settles all.

join-unit : (c : Side) (b : Bool) → join c (unit c) b ≡ b
join-unit all b = refl
join-unit any b = refl

join-settled : (c : Side) (b : Bool) → join c (not (unit c)) b ≡ not (unit c)
join-settled all b = refl
join-settled any b = refl

settled-join : (c : Side) (b : Bool) → join c b (not (unit c)) ≡ not (unit c)
settled-join all b = and-false b
settled-join any b = or-true b

-- Elements have their value in every environment.

value_of-element : (ρ : Environment) (t : Term) → is_element_term t ≡ true → value_of ρ t ≡ value_of nowhere t
value_of-element ρ (element v) e = refl
value_of-element ρ (variable x) e = absurd (false≢true e)

values_of-elements : (ρ : Environment) (ts : Terms) → elements_only ts ≡ true → values_of ρ ts ≡ values_of nowhere ts
values_of-elements ρ no_terms e = refl
values_of-elements ρ (term t ts) e = rw (value_of-element ρ t (and_left _ _ e), values_of-elements ρ ts (and_right (is_element_term t) _ e))

-- the same value at every environment
abbrev pub Same : Structure → Formula → Formula → Type 0
Same S f h = (ρ : Environment) → holds S ρ f ≡ holds S ρ h

module _ (S : Structure) where
  holds-is_truth : (b : Bool) (f : Formula) (ρ : Environment) → is_truth b f ≡ true → holds S ρ f ≡ b
  unfolding holds
  holds-is_truth b f ρ e = rw (is_truth_true b f e)

  -- a part `false` makes an `&` so, and a part `true` an `|`
  truths_absorbed : (c : Side) (fs : Formulas) (ρ : Environment) → has_truth (not (unit c)) fs ≡ true → join_all c (truths S ρ fs) ≡ not (unit c)
  unfolding holds
  truths_absorbed c no_parts ρ e = absurd (false≢true e)
  truths_absorbed c (part f fs) ρ e = pick (is_truth (not (unit c)) f) refl e (truths_absorbed c fs ρ)
    where
      pick : (b : Bool) → is_truth (not (unit c)) f ≡ b → (b || has_truth (not (unit c)) fs) ≡ true
          → (has_truth (not (unit c)) fs ≡ true → join_all c (truths S ρ fs) ≡ not (unit c))
          → join c (holds S ρ f) (join_all c (truths S ρ fs)) ≡ not (unit c)
      pick true h k rest = rw (holds-is_truth (not (unit c)) f ρ h) (join-settled c _)
      pick false h k rest = rw (rest k) (settled-join c _)

  -- parts `true` of an `&` may be dropped, and parts `false` of an `|`
  truths-without : (c : Side) (fs : Formulas) (ρ : Environment) → join_all c (truths S ρ fs) ≡ join_all c (truths S ρ (without (unit c) fs))
  unfolding holds
  truths-without c no_parts ρ = refl
  truths-without c (part f fs) ρ = pick (is_truth (unit c) f) refl (truths-without c fs ρ)
    where
      pick : (b : Bool) → is_truth (unit c) f ≡ b → join_all c (truths S ρ fs) ≡ join_all c (truths S ρ (without (unit c) fs))
          → join c (holds S ρ f) (join_all c (truths S ρ fs)) ≡ join_all c (truths S ρ (cond b (without (unit c) fs) (part f (without (unit c) fs))))
      pick true h rest = rw (holds-is_truth (unit c) f ρ h) (join-unit c _ ∙ rest)
      pick false h rest = rw rest

  holds-unless_none : (c : Side) (fs : Formulas) → Same S (connective (junction c) fs) (unless_none c fs)
  unfolding holds
  holds-unless_none c no_parts ρ = refl
  holds-unless_none c (part f fs) ρ = refl

  truths-exchanged : {i : ℕ} {g h : Formula} {fs hs : Formulas} → Exchanged i g h fs hs → Same S g h → (ρ : Environment) → truths S ρ fs ≡ truths S ρ hs
  unfolding holds
  truths-exchanged (first g h fs) same ρ = rw (same ρ)
  truths-exchanged (later i g h f fs hs e) same ρ = rw (truths-exchanged e same ρ)

exchanged-WellFormed : {P : Problem} {i : ℕ} {g h : Formula} {fs hs : Formulas} {inside : Bool} {bound : Name → Bool} {levels : ℕ}
    → Exchanged i g h fs hs → AllWellFormed P inside bound levels fs → WellFormed P inside bound levels g
exchanged-WellFormed (first g h fs) (of_part w ws) = w
exchanged-WellFormed (later i g h f fs hs e) (of_part w ws) = exchanged-WellFormed e ws

module _ (P : Problem) (S : Structure) (extends : Extends P S) where
  -- a guard that IQ may take has its value from the input structure
  holds_guard : (x : Name) (g : Formula) → closed_but x g ≡ true → inputs_only P g ≡ true
      → (ρ : Environment) (v : ℕ) → holds S (bind ρ x v) g ≡ admits P x g v
  holds_guard x g e i ρ v =
      holds_agree P S (input_structure P) extends.elements extends.inputs g (besides x none) (bind ρ x v) (bind nowhere x v)
      (alike_bind none ρ nowhere x v (λ y n. absurd (false≢true n))) e i

  -- a quantifier has the value of the instances that its guard admits
  truths-instances : (c : Side) (x : Name) (g f : Formula) → closed_but x g ≡ true → inputs_only P g ≡ true → (ρ : Environment) (vs : List ℕ)
      → join_all c (map (λ v. guarded c (holds S (bind ρ x v) g) (holds S (bind ρ x v) f)) vs) ≡ join_all c (truths S ρ (instances P x g f vs))
  unfolding holds instances
  truths-instances c x g f e i ρ [] = refl
  truths-instances c x g f e i ρ (v ∷ vs) = rw (holds_guard x g e i ρ v, truths-instances c x g f e i ρ vs) (pick (admits P x g v))
    where
      pick : (b : Bool) → join c (guarded c b (holds S (bind ρ x v) f)) (join_all c (truths S ρ (instances P x g f vs)))
          ≡ join_all c (truths S ρ (cond b (part (replace x v f) (instances P x g f vs)) (instances P x g f vs)))
      pick true = rw (holds-replace S x v f ρ)
      pick false = join-unit c _

  makes_same : {r : Rule} {f h : Formula} {inside : Bool} {bound : Name → Bool} {levels : ℕ}
      → Makes P r f h → WellFormed P inside bound levels f → Same S f h
  unfolding holds
  makes_same (absorbing c fs e) w ρ = truths_absorbed S c fs ρ e
  makes_same (dropping c fs e) w ρ = truths-without S c fs ρ ∙ holds-unless_none S c (without (unit c) fs) ρ
  makes_same (negating b) w ρ = refl
  makes_same (predicate p t ts i e) w ρ = extends.inputs p _ i ∙ ap (given P p) (values_of-elements ρ (term t ts) e)
  makes_same (equality s t d e) w ρ = ap₂ eqb (value_of-element ρ s d) (value_of-element ρ t e)
  makes_same (proposition p i) w ρ = extends.inputs p [] i
  makes_same (instantiating c x g f e) (of_quantifier l u w) ρ =
      truths-instances c x g f e ((WellFormed_tested u).is_inputs refl) ρ (elements_to S.domain)
      ∙ ap (λ (n : ℕ). join_all c (truths S ρ (instances P x g f (elements_to n)))) extends.elements

  pub MakesAt-same : {r : Rule} {path : List ℕ} {f h : Formula} {inside : Bool} {bound : Name → Bool} {levels : ℕ}
      → MakesAt P r path f h → WellFormed P inside bound levels f → Same S f h
  unfolding holds
  MakesAt-same (here f h q) w ρ = makes_same q w ρ
  MakesAt-same (in_part i is o g h fs hs e q) (of_connective l ws) ρ =
      ap (connect o) (truths-exchanged S e (MakesAt-same q (exchanged-WellFormed e ws)) ρ)
  MakesAt-same (in_guard is c x g h f q) (of_quantifier l u w) ρ =
      holds-quantifier S S refl c x g f h f ρ ρ (λ v. MakesAt-same q u (bind ρ x v)) (λ v. refl)
  MakesAt-same (in_body is c x g f h q) (of_quantifier l u w) ρ =
      holds-quantifier S S refl c x g f g h ρ ρ (λ v. refl) (λ v. MakesAt-same q w (bind ρ x v))

  -- what a rule makes at a path of a well-formed formula has its value
  pub rule_sound : (r : Rule) (path : List ℕ) {f : Formula} {inside : Bool} {bound : Name → Bool} {levels : ℕ}
      → WellFormed P inside bound levels f → Allowed (Same S f) (at path (apply P r) f)
  rule_sound r path {f} w = allowed_weaken (MakesAt P r path f) (Same S f) (λ h q. MakesAt-same q w) (at path (apply P r) f) (at_makes P r path f)
