-- The naming by two lists of names, each name having its place in its list for an index. With a problem's predicates, memory can hold every formula that
-- the problem knows and whose variables are in the list.
-- Assumes nothing.
use Prim.Native.Nat.{ℕ, suc, ◌≤◌, ◌<◌}
use native.Mathlib.Omega.{arith}
use mathlib.Core.Path.{◌≡◌, refl, sym, ap, ◌∙◌}
use mathlib.Core.List.{List, [], ◌∷◌, map}
use mathlib.Core.Bool.{Bool, true, false, cond, ◌&&◌, ◌||◌, false≢true}
use borrow.Author.Tests.{eqb-true, leb-true, ltb-true}
use lib.Dec.{eqb, leb}
use lib.ListN.{length, get_or, length-map}
use Rattle.grammar.specs.Sizes.{predicate_count, greatest_arity}
use Rattle.grammar.specs.Bytes.{Bytes, same, member}
use Rattle.grammar.specs.Problem.{Name, Predicate, Problem, predicates, declared}
use Rattle.grammar.specs.Each.{Each}
use Rattle.grammar.specs.Valid.{Small, Valid}
use Rattle.grammar.proofs.Laws.{and_left, and_right, same_true, each_left, each_right}
use Rattle.grammar.proofs.Problem.{domain-few}
use Rattle.logic.specs.Formula.{Term, element, variable, Terms, no_terms, term, term_count, Formula, truth, atom, equal, connective, quantifier, Formulas, no_parts, part}
use Rattle.logic.specs.Names.{term_known, terms_known, known, all_known}
use Rattle.logic.specs.Limits.{term_variables, terms_variables, variables, all_variables}
use Rattle.table.specs.memory.Table.{position, table_names, table_predicate, problem_in}
use Rattle.table.specs.declared.table.Table.{Table}
use Rattle.table.proofs.Tables.{map-indexed, predicates_in}
use Rattle.words.proofs.memory.Naming.{Naming, HasIndex, TermStorable, TermsStorable, Storable, AllStorable}
use Rattle.terms.proofs.memory.NameTable.{position-within, member-position}

-- a name's place
module _ (x : Name) where
  pub position-member : (names : List Name) → member x names ≡ true → position x names < length names
  position-member names e = ltb-true (position x names) (length names) (sym (member-position x names) ∙ e)

  position-named : (names : List Name) → position x names < length names → get_or names (position x names) [] ≡ x
  unfolding position
  position-named [] h = absurd (omega arith)
  position-named (y ∷ names) h = pick (same x y) refl h (position-named names)
    where
      pick : (b : Bool) → same x y ≡ b → cond b 0 (suc (position x names)) < suc (length names)
          → (position x names < length names → get_or names (position x names) [] ≡ x)
          → get_or (y ∷ names) (cond b 0 (suc (position x names))) [] ≡ x
      pick true e h rest = sym (same_true x y e)
      pick false e h rest = rest (omega arith)

  pub position-listed : (names : List Name) (count : ℕ) → position x names < length names → length names ≤ count
      → HasIndex (λ y. position y names) (λ i. get_or names i []) count x
  position-listed names count h l = record { within = omega arith; named = position-named names h }

abbrev pub naming : (variable_names predicate_names : List Name) → length predicate_names < 256 → Naming
naming variable_names predicate_names few =
    record {
      variable_index = λ x. position x variable_names;
      predicate_index = λ p. position p predicate_names;
      variable_name = λ i. get_or variable_names i [];
      predicate_name = λ i. get_or predicate_names i [];
      small = λ p. let h = position-within p predicate_names in omega arith;
    }

-- A problem's predicates.

abbrev pub names_of : List Predicate → List Name
names_of qs = map (λ q. q.name) qs

declared-position : (qs : List Predicate) (p : Name) (arity : ℕ) → declared qs p arity ≡ true → position p (names_of qs) < length (names_of qs)
unfolding position
declared-position [] p arity e = absurd (false≢true e)
declared-position (q ∷ qs) p arity e = pick (same p q.name) e (declared-position qs p arity)
  where
    pick : (b : Bool) → (b && eqb q.arity arity || declared qs p arity) ≡ true → (declared qs p arity ≡ true → position p (names_of qs) < length (names_of qs))
        → cond b 0 (suc (position p (names_of qs))) < suc (length (names_of qs))
    pick true e rest = omega arith
    pick false e rest = let h = rest e in omega arith

declared-arity : (qs : List Predicate) (p : Name) (arity : ℕ) → Each Small qs → declared qs p arity ≡ true → arity ≤ 3
unfolding greatest_arity
declared-arity [] p arity small e = absurd (false≢true e)
declared-arity (q ∷ qs) p arity small e = pick (same p q.name) (eqb q.arity arity) refl e (declared-arity qs p arity small.1)
  where
    pick : (a b : Bool) → eqb q.arity arity ≡ b → (a && b || declared qs p arity) ≡ true → (declared qs p arity ≡ true → arity ≤ 3) → arity ≤ 3
    pick true true f e rest = let h = eqb-true q.arity arity f in omega (arith, small.0.few)
    pick true false f e rest = rest e
    pick false b f e rest = rest e

-- a table's names are those of its problem
pub table_names_in : (text : Bytes) (table : Table) (rows : List ℕ) → table.inputs ≤ table.count → table_names text table ≡ names_of (predicates (problem_in text table rows))
table_names_in text table rows inside =
    sym (ap names_of (predicates_in text table rows inside) ∙ map-indexed (table_predicate text table) (λ q. q.name) table.count 0)

-- What memory can hold.
module _ (P : Problem) (valid : Valid P) (variable_names predicate_names : List Name) (few : length variable_names ≤ 64)
    (are : predicate_names ≡ names_of (predicates P)) where
  pub predicates-few : length predicate_names < 256
  unfolding predicate_count
  predicates-few = rw (are, length-map (predicates P) (λ q. q.name)) (omega (arith, valid.declares.count))

  abbrev pub problem_naming : Naming
  problem_naming = naming variable_names predicate_names predicates-few

  abbrev pub VariablesIn : List Name → Type 0
  VariablesIn xs = Each (λ x. member x variable_names ≡ true) xs

  term_storable : (t : Term) → term_known P.domain t ≡ true → VariablesIn (term_variables t) → TermStorable problem_naming t
  term_storable (element v) k h =
      let l = leb-true v P.domain (and_right (leb 1 v) _ k) in
      omega (arith, domain-few valid)
  term_storable (variable x) k h = position-listed x variable_names 64 (position-member x variable_names h.0) few

  terms_storable : (ts : Terms) → terms_known P.domain ts ≡ true → VariablesIn (terms_variables ts) → TermsStorable problem_naming ts
  terms_storable no_terms k h = tt
  terms_storable (term t ts) k h =
      (term_storable t (and_left _ _ k) (each_left _ (term_variables t) _ h), terms_storable ts (and_right (term_known P.domain t) _ k) (each_right _ (term_variables t) _ h))

  predicate-listed : (p : Name) (arity : ℕ) → declared (predicates P) p arity ≡ true → HasIndex (λ q. position q predicate_names) (λ i. get_or predicate_names i []) 32 p
  unfolding predicate_count
  predicate-listed p arity e =
      position-listed p predicate_names 32 (rw are (declared-position (predicates P) p arity e)) (rw (are, length-map (predicates P) (λ q. q.name)) valid.declares.count)

  mutual
    unfolding known variables

    pub storable_known : (f : Formula) → known P f ≡ true → VariablesIn (variables f) → Storable problem_naming f
    storable_known (truth b) k h = tt
    storable_known (atom p ts) k h =
        let d = and_left (declared (predicates P) p (term_count ts)) _ k in (
          predicate-listed p (term_count ts) d,
          (let l = declared-arity (predicates P) p (term_count ts) valid.declares.small d in omega arith),
          terms_storable ts (and_right (declared (predicates P) p (term_count ts)) _ k) h,
        )
    storable_known (equal s t) k h =
        (term_storable s (and_left _ _ k) (each_left _ (term_variables s) _ h), term_storable t (and_right (term_known P.domain s) _ k) (each_right _ (term_variables s) _ h))
    storable_known (connective o fs) k h = AllStorable-known fs k h
    storable_known (quantifier c x g f) k h = (
      position-listed x variable_names 64 (position-member x variable_names h.0) few,
      storable_known g (and_left _ _ k) (each_left _ (variables g) _ h.1),
      storable_known f (and_right (known P g) _ k) (each_right _ (variables g) _ h.1),
    )

    pub AllStorable-known : (fs : Formulas) → all_known P fs ≡ true → VariablesIn (all_variables fs) → AllStorable problem_naming fs
    AllStorable-known no_parts k h = tt
    AllStorable-known (part f fs) k h =
        (storable_known f (and_left _ _ k) (each_left _ (variables f) _ h), AllStorable-known fs (and_right (known P f) _ k) (each_right _ (variables f) _ h))
