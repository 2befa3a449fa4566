-- The problem's predicates, looked at one after the other; and what is read and judged by them alone.
-- Assumes nothing.
use Prim.Native.Nat.{ℕ, zero, suc, ◌+◌, ◌-◌, ◌≤◌, max}
use native.Mathlib.Numerals.{add-one}
use native.Mathlib.Omega.{arith}
use mathlib.Core.Path.{◌≡◌, refl, sym, ap, ap₂, ◌∙◌}
use mathlib.Core.List.{List, [], ◌++◌}
use mathlib.Core.Bool.{◌&&◌}
use lib.Dec.{eqb}
use Rattle.std.specs.List.{list_any, range_with_len}
use Rattle.grammar.specs.Bytes.{Bytes, same}
use Rattle.grammar.specs.Problem.{Name, Predicate, Problem, input_predicates, predicates, named, declared, is_input}
use Rattle.logic.specs.Formula.{Side, all, negation, implies, implied_by, equivalent, junction, Formula, truth, atom, equal, connective, quantifier, Formulas, no_parts, part}
use Rattle.logic.specs.Names.{known, all_known}
use Rattle.logic.specs.Normal.{mentions_only, permits, has_form, all_have_form, is_gnf}
use Rattle.table.specs.memory.Table.{position, indexed, table_name, table_names, table_predicate, table_input, problem_in}
use Rattle.table.specs.declared.table.Table.{Table}
use Rattle.table.proofs.Tables.{length-indexed, indexed-append, map-indexed}
use Rattle.terms.specs.memory.Signature.{signature_of}
use Rattle.terms.proofs.memory.NameTable.{position-within}

module _ (problem : Bytes) (table : Table) (rows : List ℕ) where
  inputs_table : input_predicates (problem_in problem table rows) ≡ indexed (table_predicate problem table) 0 table.inputs
  unfolding problem_in
  inputs_table = map-indexed (table_input problem table rows) (λ i. i.predicate) table.inputs 0

  predicates_table : predicates (problem_in problem table rows) ≡ indexed (table_predicate problem table) 0 (max table.inputs table.count)
  unfolding problem_in
  predicates_table =
      let f = table_predicate problem table in
      let e : max table.inputs table.count ≡ table.inputs + (table.count - table.inputs) = omega arith in
      let z : 0 + table.inputs ≡ table.inputs = omega arith in
      ap (λ l. l ++ indexed f table.inputs (table.count - table.inputs)) inputs_table
      ∙ rw e (rw z at (indexed-append f table.inputs (table.count - table.inputs) 0))

pub domain_table : (problem : Bytes) (table : Table) → (signature_of problem table).domain ≡ table.domain
unfolding signature_of problem_in
domain_table problem table = refl

pub position_table : (problem : Bytes) (table : Table) (p : Name) → position p (table_names problem table) ≤ table.count
position_table problem table p =
    omega (arith, position-within p (table_names problem table), length-indexed (table_name problem table) table.count 0)

-- by the indices of the table
module _ (f : ℕ → Predicate) (p : Name) where
  named_indexed : (n i : ℕ) → list_any (λ k. same p (f k).name) (range_with_len i n) ≡ named (indexed f i n) p
  unfolding indexed
  named_indexed zero i = refl
  named_indexed (suc n) i = rw (named_indexed n (i + 1), add-one i)

  declared_indexed : (arity n i : ℕ) → list_any (λ k. same p (f k).name && eqb (f k).arity arity) (range_with_len i n) ≡ declared (indexed f i n) p arity
  unfolding indexed
  declared_indexed arity zero i = refl
  declared_indexed arity (suc n) i = rw (declared_indexed arity n (i + 1), add-one i)

module _ (problem : Bytes) (table : Table) (p : Name) where
  pub input_in_table : list_any (λ i. same p (table_name problem table i)) (range_with_len 0 table.inputs) ≡ is_input (signature_of problem table) p
  unfolding signature_of
  input_in_table = named_indexed (table_predicate problem table) p table.inputs 0 ∙ ap (λ l. named l p) (sym (inputs_table problem table []))

  pub declared_in_table : (arity : ℕ)
      → list_any (λ i. same p (table_name problem table i) && eqb (table_predicate problem table i).arity arity) (range_with_len 0 (max table.inputs table.count))
      ≡ declared (predicates (signature_of problem table)) p arity
  unfolding signature_of
  declared_in_table arity =
      declared_indexed (table_predicate problem table) p arity (max table.inputs table.count) 0
      ∙ ap (λ l. declared l p arity) (sym (predicates_table problem table []))

-- Reading asks for no rows: 7 and 8 are the same in every problem of the table.

-- problems of the same predicates and domain
module _ (P Q : Problem) (domain : P.domain ≡ Q.domain) (inputs : is_input P ≡ is_input Q) (all-predicates : predicates P ≡ predicates Q) where
  mutual
    unfolding known

    known_alike : (f : Formula) → known P f ≡ known Q f
    known_alike (truth b) = refl
    known_alike (atom p ts) = rw (all-predicates, domain)
    known_alike (equal s t) = rw domain
    known_alike (connective o fs) = all_known_alike fs
    known_alike (quantifier c x g f) = ap₂ ◌&&◌ (known_alike g) (known_alike f)

    all_known_alike : (fs : Formulas) → all_known P fs ≡ all_known Q fs
    all_known_alike no_parts = refl
    all_known_alike (part f fs) = ap₂ ◌&&◌ (known_alike f) (all_known_alike fs)

  mutual
    unfolding has_form

    form_alike : (f : Formula) (c : Side) → has_form P c f ≡ has_form Q c f
    form_alike (truth b) c = refl
    form_alike (atom p ts) c = refl
    form_alike (equal s t) c = refl
    form_alike (connective negation fs) c = refl
    form_alike (connective implies fs) c = refl
    form_alike (connective implied_by fs) c = refl
    form_alike (connective equivalent fs) c = refl
    form_alike (connective (junction d) fs) c = ap (λ b. permits c d && b) (forms_alike fs d)
    form_alike (quantifier d x g f) c = ap₂ (λ a b. permits c d && (a && b)) (ap (λ test. mentions_only test g) inputs) (form_alike f d)

    forms_alike : (fs : Formulas) (c : Side) → all_have_form P c fs ≡ all_have_form Q c fs
    forms_alike no_parts c = refl
    forms_alike (part f fs) c = ap₂ ◌&&◌ (form_alike f c) (forms_alike fs c)

module _ (problem : Bytes) (table : Table) (rows : List ℕ) where
  inputs_alike : is_input (signature_of problem table) ≡ is_input (problem_in problem table rows)
  unfolding signature_of
  inputs_alike = ap named (inputs_table problem table [] ∙ sym (inputs_table problem table rows))

  predicates_alike : predicates (signature_of problem table) ≡ predicates (problem_in problem table rows)
  unfolding signature_of
  predicates_alike = predicates_table problem table [] ∙ sym (predicates_table problem table rows)

  domain_alike : (signature_of problem table).domain ≡ (problem_in problem table rows).domain
  unfolding signature_of problem_in
  domain_alike = refl

  pub known_table : (f : Formula) → known (signature_of problem table) f ≡ known (problem_in problem table rows) f
  known_table = known_alike (signature_of problem table) (problem_in problem table rows) domain_alike inputs_alike predicates_alike

  pub normal_table : (f : Formula) → is_gnf (signature_of problem table) f ≡ is_gnf (problem_in problem table rows) f
  normal_table f = form_alike (signature_of problem table) (problem_in problem table rows) domain_alike inputs_alike predicates_alike f all
