-- A formula at a place of the theory's text, by the levels left and by how it opens.
-- Assumes nothing.
use Prim.Native.Nat.{ℕ, zero, suc, ◌-◌, ◌≤◌, ◌<◌}
use native.Mathlib.Numerals.{sub-one}
use native.Mathlib.Omega.{arith}
use mathlib.Core.Path.{◌≡◌, refl, sym, subst, ◌∙◌}
use lib.ListN.{length, drop}
use Rattle.std.specs.Prelude.{Option, None, Result}
use Rattle.std.specs.Option.{ok_or}
use Rattle.grammar.specs.Bytes.{Bytes}
use Rattle.grammar.specs.Outcome.{Outcome, refused}
use Rattle.grammar.specs.Reading.{Reading}
use Rattle.logic.specs.Formula.{Formula}
use Rattle.logic.specs.Reading.{read_formula}
use Rattle.terms.specs.memory.Entries.{Setting, Memory}
use Rattle.reading.specs.memory.Openings.{opening_of, read_kind, Opens, ToldOpening}
use Rattle.reading.specs.memory.Faults.{number_of}
use Rattle.reading.specs.memory.FormulaReads.{read_leaf, Refuses, ToldLeaf, Told, ToldBehind}
use Rattle.text.specs.declared.read.Read.{Read}
use Rattle.reading.specs.declared.fault.Fault.{Fault}
use Rattle.reading.specs.declared.fault.Fault.TheVariants.{Malformed, Deep}
use Rattle.reading.specs.declared.opening.Opening.{Opening}
use Rattle.reading.specs.declared.read.Measured.{Measured}
use Rattle.reading.proofs.memory.Leaves.{told_leaf, told-later}
use Rattle.reading.proofs.memory.Openings.{told-opening}

pub no_level : (levels : ℕ) (s : Bytes) → levels ≡ 0 → Refuses (read_formula levels) s Deep
unfolding read_formula
no_level levels s e = record { is = rw e; early = omega arith }

-- what is refused behind a sign is refused with it
pub refused_behind : {o : Outcome ℕ (Formula × Bytes)} {fault : Fault} (text : Bytes) (at : ℕ) → o ≡ refused (number_of fault) → number_of fault ≤ 6
    → (reader : Reading Formula) (sign : ℕ) → reader (drop sign text) ≡ o → sign < at → Refuses reader (drop sign text) fault
refused_behind text at e early reader sign same less = record { is = same ∙ e; early = early }

-- one level less for what is in it
level : (levels : ℕ) → (levels ≡ 0 → ⊥) → (s : Bytes) → read_formula levels s ≡ read_kind (read_formula (levels - 1)) s
unfolding read_formula
level zero some s = absurd (some refl)
level (suc levels) some s = rw (sub-one (suc levels))

-- how it opens, as it was seen
module _ (text : Bytes) (at : ℕ) (h : at ≤ length text) (o : Option (Read Opening)) (seen : o ≡ opening_of at (drop at text)) where
  pub opens_so : (q : Option (Read Opening)) → o ≡ q → ToldOpening text at q
  opens_so q e = subst (ToldOpening text at) (sym seen ∙ e) (told-opening text at h)

module _ (s : Setting) (levels : ℕ) (some : levels ≡ 0 → ⊥) (at : ℕ) (old : Memory) (to : ℕ) (r : Result (Read Measured) Fault) (new : Memory) where
  pub leaf_read : ToldOpening s.text at None → (leaf : Option (Read Measured)) → ToldLeaf read_leaf s at old to leaf new → r ≡ ok_or leaf Malformed
      → Told (read_formula levels) s at old to r new
  leaf_read o leaf t e =
      rw e
      (told-later s (read_formula levels) read_leaf at at (level levels some (drop at s.text) ∙ o (read_formula (levels - 1))) (omega arith) old to _ new
      (told_leaf read_leaf s at old to leaf new t))

  pub sign_read : (other : Reading Formula → Reading Formula) (behind : ℕ) → Opens s.text at other behind
      → ToldBehind (other (read_formula (levels - 1))) s behind old to r new → Told (read_formula levels) s at old to r new
  sign_read other behind o t = t (read_formula levels) at (level levels some (drop at s.text) ∙ o.is (read_formula (levels - 1))) o.after
