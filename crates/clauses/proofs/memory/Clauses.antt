-- Ground clauses in memory: what each kind of word comes to, a turn of each loop, and that the words of a formula are judged as the formula is.
-- Assumes nothing.
use Prim.Native.Nat.{ℕ, zero, suc, ◌+◌, ◌-◌, ◌%◌, ◌≤◌, ◌<◌}
use native.Mathlib.Numerals.{add-one, sub-one}
use native.Mathlib.Omega.{arith}
use mathlib.Core.Path.{◌≡◌, refl, sym, ap₂, ◌∙◌}
use mathlib.Core.List.{List, [], ◌∷◌, ◌++◌, append_assoc}
use mathlib.Core.Bool.{Bool, true, false, ◌&&◌}
use borrow.Author.Tests.{ne_eqb}
use lib.ListN.{length, get_or, drop, drop_of_length-le}
use lib.Seq.{drop-drop, drop-cons}
use Rattle.grammar.specs.Problem.{Name, Problem, is_output}
use Rattle.logic.specs.Formula.{Terms, term_count, all, any, Connective, negation, implies, implied_by, equivalent, junction}
use Rattle.logic.specs.Formula.{Formula, truth, atom, equal, connective, quantifier, Formulas, no_parts, part, depth, depths}
use Rattle.logic.specs.Normal.{is_ground_atom, connective_clause, is_clause, all_clauses}
use Rattle.text.proofs.Places.{next-within}
use Rattle.table.specs.declared.table.Table.{Table}
use Rattle.words.specs.memory.Kinds.{kind_of, skip}
use Rattle.words.specs.memory.Words.{part_total, words}
use Rattle.words.specs.declared.word.Sign.{Sign}
use Rattle.words.specs.declared.word.Kind.{Kind}
use Rattle.words.specs.declared.word.Kind.TheVariants as kind
use Rattle.words.proofs.memory.Naming.{Naming, words_in, all_words_in, term_words_in, Storable, AllStorable}
use Rattle.words.proofs.memory.Words.{elements-words, sign_of, kind_truth, kind_equal, kind_connective, kind_quantifier, kind_atom, after_first-words}
use Rattle.clauses.specs.memory.Clauses.{all_at, is_output_index, ground_atom_by, ground_atom_at, connective_clause_at, clause_by, clause_at}

-- A turn of the loop over formulas, `i` of `n` of which are behind.

pub all_none : (test : List ℕ → Bool) (n : ℕ) (s : List ℕ) → n ≡ 0 → all_at test n s ≡ true
unfolding all_at
all_none test n s e = rw e

pub all_first : (test : List ℕ → Bool) (work : List ℕ) (place i n : ℕ) → i < n
    → all_at test (n - i) (drop place work) ≡ (test (drop place work) && all_at test (n - (i + 1)) (drop (place + skip (drop place work) 1) work))
unfolding all_at
all_first test work place i n more =
    let e : n - i ≡ suc (n - (i + 1)) = omega arith in
    rw (e, drop-drop (skip (drop place work) 1) place work)

-- An atom at a place, which may lie past the end.
pub ground_kind : (table : Table) (work : List ℕ) (at : ℕ) → ground_atom_at table (drop at work) ≡ ground_atom_by table (kind_of (get_or work at 0)) (drop (at + 1) work)
unfolding ground_atom_at
ground_kind table work at = rw (← next-within work at, drop-drop 1 at work)

-- only an atom is one
pub ground_never : (table : Table) (k : Kind) (s : List ℕ) → ((p n : ℕ) → k ≡ kind.Atom p n → ⊥) → ground_atom_by table k s ≡ false
ground_never table (kind.Truth b) s h = refl
ground_never table (kind.Atom p n) s h = absurd (h p n refl)
ground_never table kind.Equality s h = refl
ground_never table (kind.Connective o n) s h = refl
ground_never table (kind.Quantifier every x) s h = refl
ground_never table kind.Term s h = refl

-- A clause.
module _ (table : Table) (work : List ℕ) (at levels : ℕ) where
  pub clause_no_level : levels ≡ 0 → clause_at table levels (drop at work) ≡ false
  unfolding clause_at
  clause_no_level e = rw e

  pub clause_beyond : length work ≤ at → clause_at table levels (drop at work) ≡ false
  unfolding clause_at
  clause_beyond h = rw (drop_of_length-le work h) (pick levels)
    where
      pick : (l : ℕ) → clause_at table l [] ≡ false
      pick zero = refl
      pick (suc l) = refl

  pub clause_kind : (levels ≡ 0 → ⊥) → at < length work
      → clause_at table levels (drop at work) ≡ clause_by table (clause_at table (levels - 1)) (kind_of (get_or work at 0)) (drop (at + 1) work)
  unfolding clause_at
  clause_kind some within = rw (drop-cons work at 0 within, add-one at) (pick levels some)
    where
      pick : (l : ℕ) → (l ≡ 0 → ⊥)
          → clause_at table l (get_or work at 0 ∷ drop (suc at) work) ≡ clause_by table (clause_at table (l - 1)) (kind_of (get_or work at 0)) (drop (suc at) work)
      pick zero h = absurd (h refl)
      pick (suc l) h = rw (sub-one (suc l))

-- only an atom and a connective are one
pub clause_never : (table : Table) (test : List ℕ → Bool) (k : Kind) (s : List ℕ)
    → ((p n : ℕ) → k ≡ kind.Atom p n → ⊥) → ((o : Sign) (n : ℕ) → k ≡ kind.Connective o n → ⊥) → clause_by table test k s ≡ false
clause_never table test (kind.Truth b) s h c = refl
clause_never table test (kind.Atom p n) s h c = absurd (h p n refl)
clause_never table test kind.Equality s h c = refl
clause_never table test (kind.Connective o n) s h c = absurd (c o n refl)
clause_never table test (kind.Quantifier every x) s h c = refl
clause_never table test kind.Term s h c = refl

-- what the code's answers follow from
pub ruleset told = (all_none, all_first, ground_kind, ground_never, clause_no_level, clause_beyond, clause_kind, clause_never)

-- Where the words of a formula stand.

module _ (table : Table) where
  clause_level : (levels w : ℕ) (s : List ℕ) (k : Kind) → 0 < levels → kind_of w ≡ k → clause_at table levels (w ∷ s) ≡ clause_by table (clause_at table (levels - 1)) k s
  unfolding clause_at
  clause_level zero w s k h e = absurd (omega arith)
  clause_level (suc levels) w s k h e = rw (e, sub-one (suc levels))

  ground_level : (w : ℕ) (s : List ℕ) (k : Kind) → kind_of w ≡ k → ground_atom_at table (w ∷ s) ≡ ground_atom_by table k s
  unfolding ground_atom_at
  ground_level w s k e = rw e

  -- the output predicates are those behind the inputs
  module _ (N : Naming) (P : Problem) (outputs : (p : Name) → is_output P p ≡ is_output_index table (N.predicate_index p)) where
    atom-words : (p : Name) (ts : Terms) (s : List ℕ) → Storable N (atom p ts)
        → ground_atom_by table (kind.Atom (N.predicate_index p) (term_count ts)) (term_words_in N ts ++ s) ≡ is_ground_atom P (atom p ts)
    atom-words p ts s h =
        let few : term_count ts % 4 ≡ term_count ts = omega (arith, h.1) in
        rw few (ap₂ ◌&&◌ (sym (outputs p)) (elements-words N ts s))

    ground-words : (f : Formula) (s : List ℕ) → Storable N f
        → ground_atom_at table (words_in N f ++ s) ≡ is_ground_atom P f
    unfolding words
    ground-words (truth b) s h = ground_level _ _ _ (kind_truth b)
    ground-words (atom p ts) s h = ground_level _ _ _ (kind_atom (N.predicate_index p) (term_count ts) (N.small p)) ∙ atom-words p ts s h
    ground-words (equal t u) s h = ground_level _ _ _ kind_equal
    ground-words (connective o fs) s h = ground_level _ _ _ (kind_connective o (part_total fs))
    ground-words (quantifier c x g f) s h = ground_level _ _ _ (kind_quantifier c (N.variable_index x))

    connective-words : (o : Connective) (fs : Formulas) (levels : ℕ) (s : List ℕ) → AllStorable N fs
        → all_at (clause_at table levels) (part_total fs) (all_words_in N fs ++ s) ≡ all_clauses P fs
        → connective_clause_at table (clause_at table levels) (sign_of o) (part_total fs) (all_words_in N fs ++ s)
        ≡ connective_clause P (all_clauses P fs) o fs
    unfolding words
    connective-words negation no_parts levels s h e = refl
    connective-words negation (part f no_parts) levels s h e = rw append_assoc (ground-words f s h.0)
    connective-words negation (part f (part g fs)) levels s h e = rw (ne_eqb (suc (suc (part_total fs))) 1 (λ z. omega arith))
    connective-words implies fs levels s h e = refl
    connective-words implied_by fs levels s h e = refl
    connective-words equivalent fs levels s h e = refl
    connective-words (junction all) fs levels s h e = refl
    connective-words (junction any) no_parts levels s h e = refl
    connective-words (junction any) (part f fs) levels s h e = rw (ne_eqb (suc (part_total fs)) 0 (λ z. omega arith)) e

    parts_words : (levels : ℕ) (f : Formula) (fs : Formulas) (s : List ℕ)
        → ((r : List ℕ) → clause_at table levels (words_in N f ++ r) ≡ is_clause P f)
        → all_at (clause_at table levels) (part_total fs) (all_words_in N fs ++ s) ≡ all_clauses P fs
        → all_at (clause_at table levels) (part_total (part f fs)) (all_words_in N (part f fs) ++ s) ≡ all_clauses P (part f fs)
    unfolding all_at words is_clause
    parts_words levels f fs s e h =
        let r = all_words_in N fs ++ s in
        rw (append_assoc, e r, after_first-words N f r, h)

    mutual
      unfolding words is_clause depth

      -- the words of a formula are a ground clause's exactly if the formula is one
      pub clause_at-words : (f : Formula) (levels : ℕ) (s : List ℕ) → Storable N f → depth f ≤ levels
          → clause_at table levels (words_in N f ++ s) ≡ is_clause P f
      clause_at-words (truth b) levels s h l = clause_level levels _ _ _ l (kind_truth b)
      clause_at-words (atom p ts) levels s h l =
          clause_level levels _ _ _ l (kind_atom (N.predicate_index p) (term_count ts) (N.small p)) ∙ atom-words p ts s h
      clause_at-words (equal t u) levels s h l = clause_level levels _ _ _ l kind_equal
      clause_at-words (connective o fs) levels s h l =
          clause_level levels _ _ _ (omega arith) (kind_connective o (part_total fs))
          ∙ connective-words o fs (levels - 1) s h (all_at-words fs (levels - 1) s h (omega arith))
      clause_at-words (quantifier c x g f) levels s h l = clause_level levels _ _ _ (omega arith) (kind_quantifier c (N.variable_index x))

      pub all_at-words : (fs : Formulas) (levels : ℕ) (s : List ℕ) → AllStorable N fs → depths fs ≤ levels
          → all_at (clause_at table levels) (part_total fs) (all_words_in N fs ++ s) ≡ all_clauses P fs
      all_at-words no_parts levels s h l = all_none (clause_at table levels) 0 s refl
      all_at-words (part f fs) levels s h l =
          parts_words levels f fs s (λ r. clause_at-words f levels r h.0 (omega arith)) (all_at-words fs levels s h.1 (omega arith))
