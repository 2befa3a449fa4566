-- A ground clause's text has fewer than 16 bytes for each unit of its size, so that an LF, a comma or a bracket after it is paid for: names have at most
-- 15 bytes and elements at most 2. By the shapes of a clause.
-- Assumes nothing.
use Prim.Native.Nat.{ℕ, suc, zero, ◌*◌, ◌/◌, ◌^◌, ◌≤◌, ◌<◌}
use native.Mathlib.Omega.{arith}
use mathlib.Core.Path.{◌≡◌, refl}
use mathlib.Core.List.{append-nil}
use mathlib.Core.Bool.{Bool, true, false, false≢true}
use lib.Dec.{leb, ltb}
use lib.ListN.{length, length-append}
use borrow.Author.Tests.{leb-true, lt-ltb}
use Rattle.grammar.specs.Bytes.{followed}
use Rattle.grammar.specs.Numbers.{digits, decimal}
use Rattle.grammar.specs.Problem.{Name, Problem, is_output, predicates, declared}
use Rattle.grammar.proofs.Laws.{and_left, and_right}
use Rattle.logic.specs.Formula.{Term, element, variable, Terms, no_terms, term, term_count, Formula, Formulas, atom, size, sizes}
use Rattle.logic.specs.Text.{term_text, term_texts, text_of, texts_of}
use Rattle.logic.specs.Names.{term_known, terms_known, known, all_known}
use Rattle.logic.specs.Normal.{is_element_term, elements_only, is_clause}
use Rattle.logic.proofs.Normal.{Clause, positive, negative, disjunction, Clauses, no_clauses, clause, is_clause_clause}

-- a number below a power of ten has no more digits than the power says
length_digits : (most k n : ℕ) → n < 10 ^ suc k → length (digits most n) ≤ suc k
unfolding digits
length_digits zero k n h = omega arith
length_digits (suc most) zero n h = rw (lt-ltb n 10 h, digits) (omega arith)
length_digits (suc most) (suc k) n h = pick (ltb n 10) refl (length_digits most k (n / 10) (omega arith))
  where
    pick : (b : Bool) → ltb n 10 ≡ b → length (digits most (n / 10)) ≤ suc k → length (digits (suc most) n) ≤ suc (suc k)
    pick true e rest = rw (e, digits) (omega arith)
    pick false e rest = rw (e, digits, length-append) (omega arith)

module _ (P : Problem) (few : P.domain ≤ 64) where
  length-term_text : (t : Term) → is_element_term t ≡ true → term_known P.domain t ≡ true → length (term_text t) ≤ 2
  unfolding decimal
  length-term_text (element v) e k = length_digits (suc v) 1 v (omega (arith, leb-true v P.domain (and_right (leb 1 v) _ k)))
  length-term_text (variable x) e k = absurd (false≢true e)

  length-term_texts : (ts : Terms) → elements_only ts ≡ true → terms_known P.domain ts ≡ true → length (followed 44 (term_texts ts)) ≤ 3 * term_count ts
  length-term_texts no_terms e k = omega arith
  length-term_texts (term t ts) e k =
      rw length-append
      (omega (
        arith,
        length-term_text t (and_left _ _ e) (and_left _ _ k),
        length-term_texts ts (and_right (is_element_term t) _ e) (and_right (term_known P.domain t) _ k),
      ))

  module _ (short : (p : Name) → is_output P p ≡ true → length p ≤ 15) where
    length-atom : (p : Name) (ts : Terms) → is_output P p ≡ true → elements_only ts ≡ true → known P (atom p ts) ≡ true
        → suc (length (text_of (atom p ts))) ≤ 16 * size (atom p ts)
    unfolding text_of size known
    length-atom p no_terms o e k = simp length-append (omega (arith, short p o))
    length-atom p (term t ts) o e k =
        let in_domain = and_right (declared (predicates P) p (term_count (term t ts))) _ k in
        simp length-append (omega (arith, short p o, simp length-append at (length-term_texts (term t ts) e in_domain)))

    mutual
      unfolding text_of size known

      length_clause : {f : Formula} → Clause P f → known P f ≡ true → suc (length (text_of f)) ≤ 16 * size f
      length_clause (positive {p = p} {ts = ts} o e) k = length-atom p ts o e k
      length_clause (negative {p = p} {ts = ts} o e) k =
          rw (append-nil (text_of (atom p ts))) (omega (arith, length-atom p ts o e (and_left (known P (atom p ts)) _ k)))
      length_clause (disjunction {f = f} c cs) k =
          simp length-append (omega (arith, length_clause c (and_left _ _ k), length_clauses cs (and_right (known P f) _ k)))

      length_clauses : {fs : Formulas} → Clauses P fs → all_known P fs ≡ true → length (followed 44 (texts_of fs)) ≤ 16 * sizes fs
      length_clauses no_clauses k = omega arith
      length_clauses (clause {f = f} c cs) k =
          rw length-append (omega (arith, length_clause c (and_left _ _ k), length_clauses cs (and_right (known P f) _ k)))

    -- a ground clause's text, and one byte more
    pub length-ground : (f : Formula) → is_clause P f ≡ true → known P f ≡ true → suc (length (text_of f)) ≤ 16 * size f
    length-ground f c k = length_clause (is_clause_clause P f c) k
