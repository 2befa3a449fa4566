-- How a formula opens: the sign that the text begins with decides how the definition reads it.
-- Assumes nothing.
use Prim.Native.Nat.{ℕ, ◌+◌, ◌≤◌, ◌<◌}
use native.Mathlib.Omega.{arith}
use mathlib.Core.Path.{◌≡◌, refl, sym, ap, ◌∙◌}
use mathlib.Core.List.{List, [], ◌∷◌, ◌++◌}
use mathlib.Core.Bool.{Bool, true, false, cond}
use lib.ListN.{length, get_or, drop}
use lib.Seq.{drop-cons, drop-drop}
use Rattle.std.specs.Prelude.{Option}
use Rattle.std.specs.Borrow.{Bor}
use Rattle.grammar.specs.Bytes.{Bytes, bytes, begins}
use Rattle.grammar.specs.Reading.{Reading, give, ◌⇒◌, one_of}
use Rattle.grammar.specs.Each.{Each}
use Rattle.grammar.proofs.Reading.{begins-split}
use Rattle.logic.specs.Formula.{all, any, implies, implied_by, equivalent, Formula, truth}
use Rattle.logic.specs.Text.{truth_text}
use Rattle.logic.specs.Reading.{read_atom, read_equality, read_negation, read_two, read_junction, read_quantifier, formula_kinds}
use Rattle.text.proofs.Found.{word-found}
use Rattle.reading.specs.memory.FormulaReads.{read_leaf}
use Rattle.reading.specs.memory.Openings.{opens, opening_among, bracket_opening, opening_of, read_kind, Opens, ToldOpening}
use Rattle.text.specs.declared.read.Read.{Read}
use Rattle.reading.specs.declared.opening.Opening.{Opening}

-- The first of some signs, when none of those before an index stands there.
module _ (at : ℕ) (s : Bytes) (openings : List (Bor Bytes × Opening)) (i : ℕ) (before : opening_among at s openings ≡ opening_among at s (drop i openings)) where
  pub first_among : (other : Bor Bytes × Opening) → i < length openings → begins (get_or openings i other).0.now s ≡ true
      → opens (get_or openings i other).1 (at + length (get_or openings i other).0.now) ≡ opening_among at s openings
  first_among other h e = sym (before ∙ rw (drop-cons openings i other h, e))

-- by the first word that the text begins with
module _ {A : Type 0} (last : Reading A) (s : Bytes) where
  -- it begins with none of them
  one_of-none : (kinds : List (Bytes × Reading A)) → Each (λ k. begins k.0 s ≡ false) kinds → one_of kinds last s ≡ last s
  unfolding one_of
  one_of-none [] none = refl
  one_of-none (k ∷ kinds) none = rw none.0 (one_of-none kinds none.1)

  -- nor with one of those that stand behind others
  one_of-first : (kinds others : List (Bytes × Reading A)) → one_of others last s ≡ last s → one_of (kinds ++ others) last s ≡ one_of kinds last s
  unfolding one_of
  one_of-first [] others e = e
  one_of-first (k ∷ kinds) others e = pick (begins k.0 s) (one_of-first kinds others e)
    where
      pick : (b : Bool) → one_of (kinds ++ others) last s ≡ one_of kinds last s
          → cond b (λ t. k.1 (drop (length k.0) t)) (one_of (kinds ++ others) last) s ≡ cond b (λ t. k.1 (drop (length k.0) t)) (one_of kinds last) s
      pick true e = refl
      pick false e = e

-- formulas with formulas in them
abbrev sign_kinds : Reading Formula → List (Bytes × Reading Formula)
sign_kinds r =
    bytes "~" ⇒ read_negation r
    ∷ bytes "&(" ⇒ read_junction r all
    ∷ bytes "|(" ⇒ read_junction r any
    ∷ bytes "=>(" ⇒ read_two r implies
    ∷ bytes "<=(" ⇒ read_two r implied_by
    ∷ bytes "<=>(" ⇒ read_two r equivalent
    ∷ bytes "!" ⇒ read_quantifier r all
    ∷ bytes "?" ⇒ read_quantifier r any
    ∷ []

leaf_kind : (r : Reading Formula) (s : Bytes) → Each (λ k. begins k.0 s ≡ false) (sign_kinds r) → read_kind r s ≡ read_leaf s
unfolding formula_kinds read_leaf
leaf_kind r s none =
    one_of-first read_atom s (truth_text true ⇒ give (truth true) ∷ truth_text false ⇒ give (truth false) ∷ bytes "=(" ⇒ read_equality ∷ []) (sign_kinds r)
    (one_of-none read_atom s (sign_kinds r) none)

module _ (text : Bytes) (at : ℕ) (h : at ≤ length text) where
  abbrev s : Bytes
  s = drop at text

  -- a sign stands there
  sign-opens : (w : Bytes) (other : Reading Formula → Reading Formula) → 0 < length w → begins w s ≡ true
      → ((r : Reading Formula) (u : Bytes) → read_kind r (w ++ u) ≡ other r u) → Opens text at other (at + length w)
  sign-opens w other some e k =
      record {
        is = λ r. ap (read_kind r) (begins-split w s e) ∙ k r (drop (length w) s) ∙ ap (other r) (drop-drop (length w) at text);
        after = omega arith;
        within = (word-found text at w h e).within;
      }

  pick : (b : Bool) (x y : Option (Read Opening)) → (b ≡ true → ToldOpening text at x) → (b ≡ false → ToldOpening text at y) → ToldOpening text at (cond b x y)
  pick true x y k l = k refl
  pick false x y k l = l refl

  pub told-opening : ToldOpening text at (opening_of at s)
  unfolding opening_of bracket_opening one_of formula_kinds read_leaf
  told-opening =
      pick (begins (bytes "~") s) _ _ (λ e. sign-opens (bytes "~") _ (omega arith) e (λ r u. refl)) λ a.
      pick (begins (bytes "!") s) _ _ (λ e. sign-opens (bytes "!") _ (omega arith) e (λ r u. refl)) λ b.
      pick (begins (bytes "?") s) _ _ (λ e. sign-opens (bytes "?") _ (omega arith) e (λ r u. refl)) λ c.
      pick (begins (bytes "&(") s) _ _ (λ e. sign-opens (bytes "&(") _ (omega arith) e (λ r u. refl)) λ d.
      pick (begins (bytes "|(") s) _ _ (λ e. sign-opens (bytes "|(") _ (omega arith) e (λ r u. refl)) λ f.
      pick (begins (bytes "=>(") s) _ _ (λ e. sign-opens (bytes "=>(") _ (omega arith) e (λ r u. refl)) λ g.
      pick (begins (bytes "<=(") s) _ _ (λ e. sign-opens (bytes "<=(") _ (omega arith) e (λ r u. refl)) λ i.
      pick (begins (bytes "<=>(") s) _ _ (λ e. sign-opens (bytes "<=>(") _ (omega arith) e (λ r u. refl)) λ j.
      λ r. leaf_kind r s (a, (d, (f, (g, (i, (j, (b, (c, tt))))))))
