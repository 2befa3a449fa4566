-- Valid problems: what every problem that is read satisfies. One of a domain alone is valid, and a predicate more keeps it so.
-- Assumes nothing.
use Prim.Native.Nat.{ℕ, suc, zero, ◌+◌, ◌≤◌, ◌<◌}
use native.Mathlib.Omega.{arith}
use native.Mathlib.Nat.{zero-add}
use mathlib.Core.Path.{◌≡◌, refl, sym}
use mathlib.Core.List.{List, [], ◌∷◌, ◌++◌, append-nil, append_assoc, map-append, Memᴰ}
use mathlib.Core.Bool.{Bool, true, false, cond, not, ◌&&◌, ◌||◌, false≢true, or-true}
use mathlib.Core.Logic.{◌↔◌}
use lib.Dec.{leb, ltb, eqb-suc-zero}
use lib.ListN.{length, length-append}
use lib.Seq.{append_snoc}
use borrow.Author.Tests.{leb-true, leb-false, le-leb, lt-leb, ltb-true, not-true}
use Rattle.grammar.specs.Sizes.{domain_size, predicate_count, greatest_arity, name_size, tuple_count}
use Rattle.grammar.specs.Bytes.{same, member}
use Rattle.grammar.specs.Outcome.{done, provided}
use Rattle.grammar.specs.Problem.{Name, Row, Predicate, Input, Problem, input_predicates, predicates, named, is_input, is_output, is_name, Relation, truth_value, tuples}
use Rattle.grammar.specs.Problem.{given, rows_of, domain_fits, predicate_fits, rows_fit, ascending, tuple_total, tuples_fit, rows_for, with_input, with_output}
use Rattle.grammar.specs.Each.{Each}
use Rattle.grammar.specs.Valid.{occurrences, Small, Declares, Tabled, Valid}
use Rattle.grammar.proofs.Laws.{and_left, and_right, same_refl, same_true}
use Rattle.grammar.proofs.Outcome.{Allowed, allowed_mapped, allowed_done, allowed_provided}

pub occurrences-append : (qs rs : List Predicate) (p : Name) → occurrences (qs ++ rs) p ≡ occurrences qs p + occurrences rs p
occurrences-append [] rs p = omega arith
occurrences-append (q ∷ qs) rs p = rw (occurrences-append qs rs p) (omega arith)

pub named-occurrences : (qs : List Predicate) (p : Name) → named qs p ≡ leb 1 (occurrences qs p)
named-occurrences [] p = refl
named-occurrences (q ∷ qs) p = pick (same p q.name) (named-occurrences qs p)
  where
    pick : (b : Bool) → named qs p ≡ leb 1 (occurrences qs p) → (b || named qs p) ≡ leb 1 (cond b 1 0 + occurrences qs p)
    pick true h = sym (le-leb 1 (1 + occurrences qs p) (omega arith))
    pick false h = rw (zero-add, h)

-- A predicate more.

each_insert : {A : Type 0} (Q : A → Type 0) (a : A) (before after : List A) → Q a → Each Q (before ++ after) → Each Q (before ++ (a ∷ after))
each_insert Q a [] after q h = (q, h)
each_insert Q a (b ∷ before) after q h = (h.0, each_insert Q a before after q h.1)

-- it may join others
record Joins (qs : List Predicate) (q : Predicate) : Type 0 where
  small : Small q
  fresh : occurrences qs q.name ≡ 0
  room : length qs < 32

joins : (P : Problem) (q : Predicate) → is_name q.name ≡ true → predicate_fits P q ≡ true → Joins (predicates P) q
unfolding greatest_arity name_size predicate_count
joins P q spelled e =
    let f : (leb (length q.name) 15 && (not (named (predicates P) q.name) && ltb (length (predicates P)) 32)) ≡ true = and_right (leb q.arity 3) _ e in
    let g : (not (named (predicates P) q.name) && ltb (length (predicates P)) 32) ≡ true = and_right (leb (length q.name) 15) _ f in
    let new : named (predicates P) q.name ≡ false = not-true _ (and_left _ _ g) in
    record {
      small = record { spelled = spelled; short = leb-true _ _ (and_left _ _ f); few = leb-true _ _ (and_left _ _ e) };
      fresh = omega (arith, leb-false 1 (occurrences (predicates P) q.name) (rw named-occurrences at new));
      room = ltb-true _ _ (and_right (not (named (predicates P) q.name)) _ g);
    }

-- wherever it stands among them
module _ (q : Predicate) (before after : List Predicate) where
  occurrences_insert : (p : Name) → occurrences (before ++ (q ∷ after)) p ≡ cond (same p q.name) 1 0 + occurrences (before ++ after) p
  occurrences_insert p = simp occurrences-append (omega arith)

  declares_insert : Declares (before ++ after) → Joins (before ++ after) q → Declares (before ++ (q ∷ after))
  unfolding predicate_count
  declares_insert D J =
      record {
        small = each_insert Small q before after J.small D.small;
        count = simp length-append (omega (arith, simp length-append at J.room));
        once = λ p. at p (same p q.name) refl;
      }
    where
      at : (p : Name) (b : Bool) → same p q.name ≡ b → occurrences (before ++ (q ∷ after)) p ≤ 1
      at p true e = rw (occurrences_insert p, e, same_true p q.name e, J.fresh) (omega arith)
      at p false e = rw (occurrences_insert p, e) (omega (arith, D.once p))

pub tuple_total-append : (is js : List Input) → tuple_total (is ++ js) ≡ tuple_total is + tuple_total js
tuple_total-append [] js = omega arith
tuple_total-append (i ∷ is) js = rw (tuple_total-append is js) (omega arith)

-- a valid problem's size as a number
pub domain-few : {P : Problem} → Valid P → P.domain ≤ 64
unfolding domain_size
domain-few valid = valid.greatest

pub valid_domain : (n : ℕ) → domain_fits n ≡ true → Valid (record { domain = n; inputs = []; outputs = [] })
unfolding domain_size
valid_domain n e =
    record {
      least = leb-true _ _ (and_left _ _ e);
      greatest = leb-true _ _ (and_right (leb 1 n) _ e);
      declares = record { small = tt; count = omega arith; once = λ p. omega arith };
      tabled = tt;
      total = omega arith;
    }

module _ (P : Problem) (valid : Valid P) where
  -- rows that a predicate may have
  abbrev Tables : Predicate → List Row → Type 0
  Tables q rows = let i : Input = record { predicate = q; rows = rows } in Tabled P.domain i × (tuple_total (P.inputs ++ (i ∷ [])) ≤ 1024)

  tables : (p : Name) (arity : ℕ) (r : Relation) → Allowed (Tables (record { name = p; arity = arity })) (rows_for P arity r)
  unfolding tuple_count
  tables p zero (truth_value true) = (record { fit = refl; ordered = refl }, rw tuple_total-append (omega (arith, valid.total)))
  tables p zero (truth_value false) = (record { fit = refl; ordered = refl }, rw tuple_total-append (omega (arith, valid.total)))
  tables p zero (tuples rows) = tt
  tables p (suc arity) (truth_value b) = tt
  tables p (suc arity) (tuples rows) =
      allowed_mapped {E = ℕ} _ (Tables (record { name = p; arity = suc arity })) (λ u. rows) fit
      (provided (tuples_fit P (suc arity) rows) 4) (allowed_provided (tuples_fit P (suc arity) rows) 4)
    where
      fit : (u : Unit {0}) → tuples_fit P (suc arity) rows ≡ true → Tables (record { name = p; arity = suc arity }) rows
      fit u e =
          let f : (ascending rows && leb (tuple_total P.inputs + length rows) 1024) ≡ true = and_right (rows_fit P.domain (suc arity) rows) _ e in
          let g : tuple_total P.inputs + length rows ≤ 1024 = leb-true _ _ (and_right (ascending rows) _ f) in
          (record { fit = and_left _ _ e; ordered = and_left _ _ f }, rw (tuple_total-append, eqb-suc-zero) (omega arith))

  module _ (q : Predicate) (spelled : is_name q.name ≡ true) (fits : predicate_fits P q ≡ true) where
    pub valid_input : (r : Relation) (rows : List Row) → rows_for P q.arity r ≡ done rows → Valid (with_input P q rows)
    unfolding tuple_count
    valid_input r rows e =
        let t : Tables q rows = allowed_done (Tables q) (rows_for P q.arity r) rows (tables q.name q.arity r) e in
        record {
          least = valid.least;
          greatest = valid.greatest;
          declares = rw (map-append, append_snoc) (declares_insert q (input_predicates P) P.outputs valid.declares (joins P q spelled fits));
          tabled = each_insert _ _ P.inputs [] t.0 (rw append-nil valid.tabled);
          total = t.1;
        }

    pub valid_output : Valid (with_output P q)
    valid_output =
        record {
          least = valid.least;
          greatest = valid.greatest;
          declares = rw (← append_assoc) (declares_insert q (predicates P) [] (rw append-nil valid.declares) (rw append-nil (joins P q spelled fits)));
          tabled = valid.tabled;
          total = valid.total;
        }

-- Of the names.

named_occurs : (qs : List Predicate) (p : Name) → named qs p ≡ true → 1 ≤ occurrences qs p
named_occurs qs p e = leb-true 1 (occurrences qs p) (rw named-occurrences at e)

named_small : (qs : List Predicate) (p : Name) → Each Small qs → named qs p ≡ true → (is_name p ≡ true) × (length p ≤ 15)
unfolding name_size
named_small [] p small e = absurd (false≢true e)
named_small (q ∷ qs) p small e = pick (same p q.name) refl e (named_small qs p small.1)
  where
    pick : (b : Bool) → same p q.name ≡ b → (b || named qs p) ≡ true → (named qs p ≡ true → (is_name p ≡ true) × (length p ≤ 15))
        → (is_name p ≡ true) × (length p ≤ 15)
    pick true f h ih = rw (same_true p q.name f) (small.0.spelled, small.0.short)
    pick false f h ih = ih h

module _ (P : Problem) (valid : Valid P) (p : Name) where
  pub is_output-small : is_output P p ≡ true → (is_name p ≡ true) × (length p ≤ 15)
  is_output-small e =
      named_small (predicates P) p valid.declares.small
      (rw (named-occurrences, occurrences-append)
      (le-leb 1 (occurrences (input_predicates P) p + occurrences P.outputs p) (omega (arith, named_occurs P.outputs p e))))

  pub is_input-not-is_output : is_input P p ≡ true → is_output P p ≡ false
  is_input-not-is_output e =
      rw named-occurrences (lt-leb 1 (occurrences P.outputs p)
      (omega (arith, rw occurrences-append at (valid.declares.once p), named_occurs (input_predicates P) p e)))

-- The input structure.

member-listed : (row : Row) (rows : List Row) → member row rows ≡ true → Memᴰ row rows
member-listed row [] e = absurd (false≢true e)
member-listed row (other ∷ rows) e = pick (same row other) refl e (member-listed row rows)
  where
    pick : (b : Bool) → same row other ≡ b → (b || member row rows) ≡ true → (member row rows ≡ true → Memᴰ row rows) → Memᴰ row (other ∷ rows)
    pick true q h ih = Memᴰ.head (same_true row other q)
    pick false q h ih = Memᴰ.tail (ih h)

listed-member : {row : Row} {rows : List Row} → Memᴰ row rows → member row rows ≡ true
listed-member {row} (Memᴰ.head e) = rw (← e, same_refl row)
listed-member {row} (Memᴰ.tail {x = other} m) = rw (listed-member m) (or-true (same row other))

-- an input predicate holds for its rows and for nothing else
pub given-rows : (P : Problem) (p : Name) (row : Row) → (given P p row ≡ true) ↔ Memᴰ row (rows_of P.inputs p)
given-rows P p row = (member-listed row (rows_of P.inputs p), listed-member)
