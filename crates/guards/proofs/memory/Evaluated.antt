-- A guard's value in memory is its value in the input structure: the table's relations are those of the problem on rows of the right length, and a
-- well-formed guard asks for no others. By induction on the formula with its names replaced by their indices.
-- Assumes nothing.
use Prim.Native.Nat.{ℕ, zero, suc, ◌+◌, ◌%◌, ◌≤◌, ◌<◌}
use native.Mathlib.Omega.{arith}
use mathlib.Core.Path.{◌≡◌, refl, sym, ap, ap₂, subst, ◌∙◌}
use mathlib.Core.List.{List, ◌∷◌, ◌++◌, map}
use mathlib.Core.Bool.{Bool, true, false, cond}
use borrow.Author.Tests.{eqb-true, ltb-true}
use lib.Dec.{eqb, ltb}
use lib.ListN.{length, set, replicate, length-replicate, get_or-replicate}
use Rattle.grammar.specs.Bytes.{Bytes, same}
use Rattle.grammar.specs.Problem.{Name, Row, Problem, predicates, declared, is_input, given}
use Rattle.grammar.specs.Valid.{Valid}
use Rattle.grammar.proofs.Laws.{and_left, and_right}
use Rattle.grammar.proofs.Problem.{domain-few}
use Rattle.logic.specs.Formula.{Term, element, variable, Terms, no_terms, term, term_count}
use Rattle.logic.specs.Formula.{Formula, truth, atom, equal, connective, quantifier, Formulas, no_parts, part, depth}
use Rattle.logic.specs.Names.{known, all_known}
use Rattle.logic.specs.Normal.{mentions_only, all_mention_only, inputs_only}
use Rattle.logic.specs.Meaning.{Structure, input_structure, Environment, nowhere, bind, value_of, values_of, join_all, connect, guarded, count_from, elements_to, holds, truths}
use Rattle.logic.specs.Rules.{admits}
use Rattle.table.specs.memory.Table.{entry, position, table_names, problem_in}
use Rattle.table.specs.declared.table.Table.{Table}
use Rattle.table.proofs.Packing.{Digits}
use Rattle.table.proofs.Tables.{domain_in, is_input_in, given_in, declared_in}
use Rattle.words.proofs.memory.Naming.{Naming, words_in, TermStorable, TermsStorable, Storable, AllStorable, VariableListed}
use Rattle.guards.specs.memory.Values.{valued, table_structure, true_at}
use Rattle.guards.proofs.memory.Values.{valued_set}
use Rattle.guards.proofs.memory.Indexed.{indexed_variable, indexed_predicate, indexed_term, indexed_terms, indexed, all_indexed, Matches, same-indexed, stored-words}

-- values of a byte
abbrev pub Low : Environment → Type 0
Low ρ = (x : Name) → ρ x < 256

low_bind : (ρ : Environment) (y : Name) (v : ℕ) → v < 256 → Low ρ → Low (bind ρ y v)
low_bind ρ y v h low x = pick (same x y)
  where
    pick : (b : Bool) → cond b v (ρ x) < 256
    pick true = h
    pick false = low x

pub map-count_from : (u w : ℕ → Bool) (n k : ℕ) → ((v : ℕ) → k ≤ v → v < k + n → u v ≡ w v) → map u (count_from k n) ≡ map w (count_from k n)
map-count_from u w zero k e = refl
map-count_from u w (suc n) k e =
    ap₂ (λ (b : Bool) (bs : List Bool). b ∷ bs) (e k (omega arith) (omega arith)) (map-count_from u w n (suc k) (λ v h l. e v (omega arith) (omega arith)))

length_values : (ρ : Environment) (ts : Terms) → length (values_of ρ ts) ≡ term_count ts
length_values ρ no_terms = refl
length_values ρ (term t ts) = ap suc (length_values ρ ts)

module _ (N : Naming) where
  matches_bind : (ρ σ : Environment) (y : Name) (v : ℕ) → VariableListed N y → Matches N ρ σ → Matches N (bind ρ y v) (bind σ (indexed_variable N y) v)
  matches_bind ρ σ y v k a x h = ap₂ (λ (b : Bool) (u : ℕ). cond b v u) (same-indexed N x y h k) (a x h)

  module _ (ρ σ : Environment) (a : Matches N ρ σ) where
    value-indexed : (t : Term) → TermStorable N t → value_of ρ t ≡ value_of σ (indexed_term N t)
    value-indexed (element v) h = refl
    value-indexed (variable x) h = a x h

    values_indexed : (ts : Terms) → TermsStorable N ts → values_of ρ ts ≡ values_of σ (indexed_terms N ts)
    values_indexed no_terms h = refl
    values_indexed (term t ts) h = ap₂ (λ (v : ℕ) (vs : Row). v ∷ vs) (value-indexed t h.0) (values_indexed ts h.1)

  module _ (ρ : Environment) (low : Low ρ) where
    value_low : (t : Term) → TermStorable N t → value_of ρ t < 256
    value_low (element v) h = h
    value_low (variable x) h = low x

    values_digits : (ts : Terms) → TermsStorable N ts → Digits (values_of ρ ts)
    values_digits no_terms h = tt
    values_digits (term t ts) h = (value_low t h.0, values_digits ts h.1)

  -- a structure by indices, with the problem's domain, and its relations on rows of their length
  module _ (P : Problem) (T : Structure) (domains : P.domain ≡ T.domain) (few : P.domain < 256)
      (relations : (p : Name) (row : Row) → is_input P p ≡ true → declared (predicates P) p (length row) ≡ true → Digits row
      → given P p row ≡ T.relation (indexed_predicate N p) row) where
    mutual
      unfolding indexed holds known mentions_only

      holds-indexed : (f : Formula) (ρ σ : Environment) → Storable N f → known P f ≡ true → inputs_only P f ≡ true → Matches N ρ σ → Low ρ
          → holds (input_structure P) ρ f ≡ holds T σ (indexed N f)
      holds-indexed (truth b) ρ σ h k i a low = refl
      holds-indexed (atom p ts) ρ σ h k i a low =
          relations p (values_of ρ ts) i (rw (length_values ρ ts) (and_left (declared (predicates P) p (term_count ts)) _ k)) (values_digits ρ low ts h.2)
          ∙ ap (T.relation (indexed_predicate N p)) (values_indexed ρ σ a ts h.2)
      holds-indexed (equal s t) ρ σ h k i a low = ap₂ eqb (value-indexed ρ σ a s h.0) (value-indexed ρ σ a t h.1)
      holds-indexed (connective o fs) ρ σ h k i a low = ap (connect o) (truths-indexed fs ρ σ h k i a low)
      holds-indexed (quantifier c x g f) ρ σ h k i a low =
          ap (join_all c)
          (map-count_from _ _ P.domain 1
          (λ v l m.
          ap₂ (guarded c)
          (holds-indexed g (bind ρ x v) (bind σ (indexed_variable N x) v) h.1 (and_left _ _ k) (and_left _ _ i) (matches_bind ρ σ x v h.0 a)
          (low_bind ρ x v (omega arith) low))
          (holds-indexed f (bind ρ x v) (bind σ (indexed_variable N x) v) h.2 (and_right (known P g) _ k) (and_right (inputs_only P g) _ i)
          (matches_bind ρ σ x v h.0 a) (low_bind ρ x v (omega arith) low)))
          ∙ ap (λ (n : ℕ). map (λ v. guarded c (holds T (bind σ (indexed_variable N x) v) (indexed N g)) (holds T (bind σ (indexed_variable N x) v) (indexed N f))) (elements_to n)) domains)

      truths-indexed : (fs : Formulas) (ρ σ : Environment) → AllStorable N fs → all_known P fs ≡ true → all_mention_only (is_input P) fs ≡ true → Matches N ρ σ → Low ρ
          → truths (input_structure P) ρ fs ≡ truths T σ (all_indexed N fs)
      truths-indexed no_parts ρ σ h k i a low = refl
      truths-indexed (part f fs) ρ σ h k i a low =
          ap₂ (λ (b : Bool) (bs : List Bool). b ∷ bs) (holds-indexed f ρ σ h.0 (and_left _ _ k) (and_left _ _ i) a low)
          (truths-indexed fs ρ σ h.1 (and_right (known P f) _ k) (and_right (inputs_only P f) _ i) a low)

-- the problem that a table and its rows are, by a naming whose predicates are the table's
pub matches_nowhere : (N : Naming) → Matches N nowhere (valued (replicate 64 0))
matches_nowhere N x h = sym (get_or-replicate 64 (N.variable_index x) 0 0 h.within)

module _ (N : Naming) (text : Bytes) (table : Table) (rows : List ℕ) (inside : table.inputs ≤ table.count)
    (valid : Valid (problem_in text table rows)) (index : (p : Name) → N.predicate_index p ≡ position p (table_names text table)) where
  abbrev P : Problem
  P = problem_in text table rows

  relation_in : (p : Name) (row : Row) → is_input P p ≡ true → declared (predicates P) p (length row) ≡ true → Digits row
      → given P p row ≡ (table_structure table rows).relation (indexed_predicate N p) row
  relation_in p row i d digits =
      let at = position p (table_names text table) in
      let input = ltb-true at table.inputs (sym (is_input_in text table rows inside p) ∙ i) in
      let arity = eqb-true (entry table at).arity (length row)
      (and_right (ltb at table.count) _ (sym (declared_in text table rows inside p valid (length row)) ∙ d)) in
      rw (index p) (given_in text table rows inside p row input (sym arity) digits)

  pub value-words : (f : Formula) (levels : ℕ) (s values : List ℕ) (ρ : Environment) → Storable N f → depth f ≤ levels → known P f ≡ true → inputs_only P f ≡ true
      → Matches N ρ (valued values) → Low ρ → true_at table rows levels values (words_in N f ++ s) ≡ holds (input_structure P) ρ f
  unfolding true_at
  value-words f levels s values ρ h l k i a low =
      ap (holds (table_structure table rows) (valued values)) (stored-words N f levels s h l)
      ∙ sym (holds-indexed N P (table_structure table rows) (domain_in text table rows inside) (omega (arith, domain-few valid)) relation_in f ρ (valued values) h k i a low)

  -- IQ: the guard in memory, with one variable bound, admits the elements that it admits
  pub admits-words : (x : Name) (g : Formula) (levels : ℕ) (s : List ℕ) (v : ℕ) → VariableListed N x → Storable N g → depth g ≤ levels → known P g ≡ true → inputs_only P g ≡ true
      → v < 256 → true_at table rows levels (set (replicate 64 0) (N.variable_index x % 64) v) (words_in N g ++ s) ≡ admits P x g v
  admits-words x g levels s v listed h l k i small =
      let low : N.variable_index x % 64 ≡ N.variable_index x = omega (arith, listed.within) in
      let long : N.variable_index x < length {A = ℕ} (replicate 64 0) = rw length-replicate listed.within in
      rw low
      (value-words g levels s (set (replicate 64 0) (N.variable_index x) v) (bind nowhere x v) h l k i
      (subst (Matches N (bind nowhere x v)) (valued_set (replicate 64 0) (N.variable_index x) v long)
      (matches_bind N nowhere (valued (replicate 64 0)) x v listed (matches_nowhere N)))
      (low_bind nowhere x v small (λ y. omega arith)))
