-- What is true of each formula of a theory, and what a theory means, where one formula gives way to others in its place.
-- Assumes nothing.
use Prim.Native.Nat.{ℕ}
use mathlib.Core.Path.{◌≡◌, refl, sym, ap, ◌∙◌}
use mathlib.Core.List.{List, [], ◌∷◌, ◌++◌, map-append}
use mathlib.Core.Bool.{Bool, ◌&&◌, and_assoc}
use lib.ListN.{length, length-map}
use Rattle.grammar.specs.Each.{Each}
use Rattle.grammar.proofs.Laws.{each_left, each_right, each_append}
use Rattle.logic.specs.Formula.{Formula, Formulas, no_parts, part, all}
use Rattle.logic.specs.Meaning.{Structure, nowhere, holds, truths, join_all, satisfies}
use Rattle.demands.specs.Theory.{Entry, Theory, formulas_of, names_of}
use Rattle.demands.specs.Steps.{Named, none_named, one_named}

-- each part of a list of parts
abbrev pub EachPart : (Formula → Type 0) → Formulas → Type 0
EachPart Q no_parts = Unit {0}
EachPart Q (part f fs) = Q f × EachPart Q fs

pub formulas-append : (t u : Theory) → formulas_of (t ++ u) ≡ formulas_of t ++ formulas_of u
formulas-append t u = map-append (λ (e : Entry). e.formula) t u

module _ (Q : Formula → Type 0) where
  -- other formulas in the same place
  pub each_around : (before t u after : Theory) → (Each Q (formulas_of t) → Each Q (formulas_of u)) → Each Q (formulas_of (before ++ (t ++ after)))
      → Each Q (formulas_of (before ++ (u ++ after)))
  each_around before t u after h q =
      let (b, m) = apart before (t ++ after) q in
      let (p, a) = apart t after m in
      together before (u ++ after) b (together u after (h p) a)
    where
      apart : (t u : Theory) → Each Q (formulas_of (t ++ u)) → Each Q (formulas_of t) × Each Q (formulas_of u)
      apart t u p =
          let q = rw (formulas-append t u) at p in
          (each_left Q (formulas_of t) (formulas_of u) q, each_right Q (formulas_of t) (formulas_of u) q)

      together : (t u : Theory) → Each Q (formulas_of t) → Each Q (formulas_of u) → Each Q (formulas_of (t ++ u))
      together t u p q = rw (formulas-append t u) (each_append Q (formulas_of t) (formulas_of u) p q)

  -- the formula in a place
  pub each_at_lem : (before after : Theory) (e : Entry) → Each Q (formulas_of (before ++ (e ∷ after))) → Q e.formula
  each_at_lem before after e q = (each_right Q (formulas_of before) (formulas_of (e ∷ after)) (rw (formulas-append before (e ∷ after)) at q)).0

  pub each_named : (ns : List ℕ) (fs : Formulas) (ts : Theory) → Named ns fs ts → EachPart Q fs → Each Q (formulas_of ts)
  each_named ns fs ts none_named p = tt
  each_named ns fs ts (one_named n ms f hs us w) p = (p.0, each_named ms hs us w p.1)

module _ (S : Structure) where
  pub satisfies-append : (t u : Theory) → satisfies S (formulas_of (t ++ u)) ≡ (satisfies S (formulas_of t) && satisfies S (formulas_of u))
  satisfies-append [] u = refl
  satisfies-append (e ∷ es) u =
      ap (λ (b : Bool). holds S nowhere e.formula && b) (satisfies-append es u)
      ∙ sym (and_assoc (holds S nowhere e.formula) (satisfies S (formulas_of es)) (satisfies S (formulas_of u)))

  -- formulas that mean the same, in the same place
  pub satisfies_around : (before t u after : Theory) → satisfies S (formulas_of t) ≡ satisfies S (formulas_of u)
      → satisfies S (formulas_of (before ++ (t ++ after))) ≡ satisfies S (formulas_of (before ++ (u ++ after)))
  satisfies_around before t u after e = rw (satisfies-append before (t ++ after), satisfies-append t after, satisfies-append before (u ++ after), satisfies-append u after, e)

  pub satisfies-named : (ns : List ℕ) (fs : Formulas) (ts : Theory) → Named ns fs ts → join_all all (truths S nowhere fs) ≡ satisfies S (formulas_of ts)
  unfolding truths
  satisfies-named ns fs ts none_named = refl
  satisfies-named ns fs ts (one_named n ms f hs us w) = ap (λ (b : Bool). holds S nowhere f && b) (satisfies-named ms hs us w)

pub names-append : (t u : Theory) → names_of (t ++ u) ≡ names_of t ++ names_of u
names-append t u = map-append (λ (e : Entry). e.name) t u

pub length-names : (t : Theory) → length (names_of t) ≡ length t
length-names t = length-map t (λ (e : Entry). e.name)

pub length-formulas : (t : Theory) → length (formulas_of t) ≡ length t
length-formulas t = length-map t (λ (e : Entry). e.formula)
