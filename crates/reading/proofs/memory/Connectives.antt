-- Connectives at a place of the theory's text: the definitions read each as a list of parts that has to close, and what is told of the parts is told
-- of the connective.
-- Assumes nothing.
use Prim.Native.Nat.{ℕ, suc, ◌+◌, ◌*◌, ◌≤◌}
use native.Mathlib.Omega.{arith}
use mathlib.Core.Path.{◌≡◌, refl, sym, ap, ◌∙◌}
use mathlib.Core.List.{List, [], ◌∷◌}
use mathlib.Core.Bool.{Bool, true, false, cond, ◌&&◌, false≢true}
use lib.Dec.{eqb}
use lib.ListN.{length, drop, set, length-drop}
use lib.Seq.{drop-drop}
use borrow.Author.Tests.{eqb-true, eqb-false}
use Rattle.std.specs.Prelude.{Ok}
use Rattle.grammar.specs.Bytes.{Bytes, next}
use Rattle.grammar.specs.Outcome.{Outcome, done, refused}
use Rattle.grammar.specs.Outcome as outcome
use Rattle.grammar.specs.Reading.{Reading, word, further}
use Rattle.grammar.proofs.Laws.{and_left, and_right}
use Rattle.grammar.proofs.Separated.{reads_shrinks}
use Rattle.logic.specs.Formula.{Side, Connective, negation, implies, implied_by, equivalent, junction, Formula, connective, Formulas, no_parts, part, parts_of, size}
use Rattle.logic.specs.Text.{takes}
use Rattle.logic.specs.Names.{known}
use Rattle.logic.specs.Limits.{variables}
use Rattle.logic.specs.Reading.{read_negation, read_two, read_parts, read_junction, read_formula}
use Rattle.logic.proofs.Reading.{reads-formula}
use Rattle.text.proofs.FoundBytes.{byte_found}
use Rattle.words.specs.memory.Words.{connective_tag, part_total, words}
use Rattle.terms.specs.memory.Facts.{simple_facts, connective_facts}
use Rattle.terms.specs.declared.name_table.NameTable.{NameTable}
use Rattle.terms.specs.memory.Lists.{up_to}
use Rattle.terms.specs.memory.Entries.{Setting, Memory, memory}
use Rattle.text.specs.declared.read.Read.{Read}
use Rattle.reading.specs.declared.read.Parts.{Parts}
use Rattle.terms.proofs.memory.Facts.{facts_none, facts_connective}
use Rattle.terms.proofs.memory.Lists.{byte_first, byte_other, Shrinks, up_to-separated, pair_list}
use Rattle.terms.proofs.memory.Entries.{entered-none, entered_alike, entered_header}
use Rattle.reading.specs.memory.Openings.{read_connective}
use Rattle.reading.specs.memory.FormulaReads.{read_to, ToldBehind}
use Rattle.reading.specs.memory.PartReads.{none_follow, further_parts, parts_close, close_size, PartsFound}

-- A formula leaves no more than it was read from.
pub shrinks_formula : (levels : ℕ) → Shrinks (read_formula levels)
shrinks_formula levels = reads_shrinks (reads-formula levels)

-- What follows a sign, as a list.

closing : Connective → List Formula → Reading Formula
closing o items u = cond (parts_close o (length items) u) (done (connective o (parts_of items), drop (close_size o) u)) (refused 5)

module _ (r : Reading Formula) (s : Bytes) where
  negation_list : read_negation r s ≡ (outcome.◌>>=◌ (up_to 0 r s) λ p. closing negation p.0 p.1)
  unfolding read_negation up_to further closing
  negation_list = pick (r s)
    where
      pick : (o : Outcome ℕ (Formula × Bytes))
          → (outcome.◌>>=◌ {B = Formula × Bytes} o λ p. done (connective negation (part p.0 no_parts), p.1))
          ≡ (outcome.◌>>=◌ {A = List Formula × Bytes} (outcome.◌>>=◌ o λ p. done (p.0 ∷ [], p.1)) λ p. closing negation p.0 p.1)
      pick (done p) = refl
      pick (refused number) = refl

  -- a connective of two parts
  module _ (o : Connective) (close : (n : ℕ) (u : Bytes) → parts_close o n u ≡ (eqb n 2 && eqb (next u) 41)) (one : close_size o ≡ 1) where
    two_close : (a b : Formula) (u : Bytes)
        → closing o (a ∷ b ∷ []) u ≡ (outcome.◌>>=◌ (word 5 (41 ∷ []) u) λ z. done (connective o (part a (part b no_parts)), z.1))
    unfolding closing
    two_close a b u = rw (close 2 u, one) (pick (eqb (next u) 41) refl)
      where
        pick : (c : Bool) → eqb (next u) 41 ≡ c
            → cond {A = Outcome ℕ (Formula × Bytes)} c (done (connective o (part a (part b no_parts)), drop 1 u)) (refused 5)
            ≡ (outcome.◌>>=◌ (word 5 (41 ∷ []) u) λ z. done (connective o (part a (part b no_parts)), z.1))
        pick true e = rw (byte_first 41 (omega arith) 5 u (eqb-true (next u) 41 e))
        pick false e = rw (byte_other 41 (omega arith) 5 u (eqb-false (next u) 41 e))

    one_open : (a : Formula) (u : Bytes) → closing o (a ∷ []) u ≡ refused 5
    unfolding closing
    one_open a u = rw (close 1 u)

    two_list : read_two r o s ≡ (outcome.◌>>=◌ (up_to 1 r s) λ p. closing o p.0 p.1)
    unfolding read_two
    two_list = sym (pair_list r (λ a b. connective o (part a (part b no_parts))) (closing o) two_close one_open s)

  junction_close : (c : Side) (o : Outcome ℕ (List Formula × Bytes))
      → (outcome.◌>>=◌ {B = Formula × Bytes} o λ p. outcome.◌>>=◌ (word 5 (41 ∷ []) p.1) λ z. done (connective (junction c) (parts_of p.0), z.1))
      ≡ (outcome.◌>>=◌ o λ p. closing (junction c) p.0 p.1)
  unfolding closing
  junction_close c (refused number) = refl
  junction_close c (done p) = pick (eqb (next p.1) 41) refl
    where
      pick : (b : Bool) → eqb (next p.1) 41 ≡ b
          → (outcome.◌>>=◌ {B = Formula × Bytes} (word 5 (41 ∷ []) p.1) λ z. done (connective (junction c) (parts_of p.0), z.1))
          ≡ cond b (done (connective (junction c) (parts_of p.0), drop 1 p.1)) (refused 5)
      pick true e = rw (byte_first 41 (omega arith) 5 p.1 (eqb-true (next p.1) 41 e))
      pick false e = rw (byte_other 41 (omega arith) 5 p.1 (eqb-false (next p.1) 41 e))

  -- in a text of at most n bytes
  connective-list : Shrinks r → (n : ℕ) → length s ≤ n → (o : Connective) → none_follow o s ≡ false
      → read_connective r o s ≡ (outcome.◌>>=◌ (up_to (further_parts o n) r s) λ p. closing o p.0 p.1)
  unfolding read_junction read_parts
  connective-list shrinks n h negation e = negation_list
  connective-list shrinks n h implies e = two_list implies (λ k u. refl) refl
  connective-list shrinks n h implied_by e = two_list implied_by (λ k u. refl) refl
  connective-list shrinks n h equivalent e = two_list equivalent (λ k u. refl) refl
  connective-list shrinks n h (junction c) e = rw (e, ← up_to-separated r shrinks n s h) (junction_close c (up_to n r s))

  connective_empty : (o : Connective) → none_follow o s ≡ true → read_connective r o s ≡ done (connective o no_parts, drop 1 s)
  unfolding read_junction read_parts
  connective_empty negation e = absurd (false≢true e)
  connective_empty implies e = absurd (false≢true e)
  connective_empty implied_by e = absurd (false≢true e)
  connective_empty equivalent e = absurd (false≢true e)
  connective_empty (junction c) e = rw (e, byte_first 41 (omega arith) 5 s (eqb-true (next s) 41 e))

-- Parts that close are as many as the connective takes.

part_total-parts_of : (fs : List Formula) → part_total (parts_of fs) ≡ length fs
part_total-parts_of [] = refl
part_total-parts_of (f ∷ fs) = ap suc (part_total-parts_of fs)

one_takes : (o : Connective) → ((fs : Formulas) → takes o fs ≡ takes negation fs) → (items : List Formula) → length items ≡ 1 → takes o (parts_of items) ≡ true
one_takes o e [] n = absurd (omega arith)
one_takes o e (f ∷ []) n = e (part f no_parts)
one_takes o e (f ∷ g ∷ fs) n = absurd (omega arith)

two_takes : (o : Connective) → ((fs : Formulas) → takes o fs ≡ takes implies fs) → (items : List Formula) → length items ≡ 2 → takes o (parts_of items) ≡ true
two_takes o e [] n = absurd (omega arith)
two_takes o e (f ∷ []) n = absurd (omega arith)
two_takes o e (f ∷ g ∷ []) n = e (part f (part g no_parts))
two_takes o e (f ∷ g ∷ h ∷ fs) n = absurd (omega arith)

module _ (items : List Formula) (u : Bytes) where
  close_takes : (o : Connective) → parts_close o (length items) u ≡ true → takes o (parts_of items) ≡ true
  close_takes negation e = one_takes negation (λ fs. refl) items (eqb-true (length items) 1 e)
  close_takes implies e = two_takes implies (λ fs. refl) items (eqb-true (length items) 2 (and_left (eqb (length items) 2) _ e))
  close_takes implied_by e = two_takes implied_by (λ fs. refl) items (eqb-true (length items) 2 (and_left (eqb (length items) 2) _ e))
  close_takes equivalent e = two_takes equivalent (λ fs. refl) items (eqb-true (length items) 2 (and_left (eqb (length items) 2) _ e))
  close_takes (junction c) e = refl

none-takes : (o : Connective) (u : Bytes) → none_follow o u ≡ true → takes o no_parts ≡ true
none-takes negation u e = absurd (false≢true e)
none-takes implies u e = absurd (false≢true e)
none-takes implied_by u e = absurd (false≢true e)
none-takes equivalent u e = absurd (false≢true e)
none-takes (junction c) u e = refl

-- What closes them stands within the text.

module _ (text : Bytes) (at : ℕ) where
  pub none_within : (o : Connective) → none_follow o (drop at text) ≡ true → at + 1 ≤ length text
  none_within negation e = absurd (false≢true e)
  none_within implies e = absurd (false≢true e)
  none_within implied_by e = absurd (false≢true e)
  none_within equivalent e = absurd (false≢true e)
  none_within (junction c) e = (byte_found text at 41 (omega arith) (eqb-true (next (drop at text)) 41 e)).within

  bracket_within : (b : Bool) → (b && eqb (next (drop at text)) 41) ≡ true → at + 1 ≤ length text
  bracket_within b e = (byte_found text at 41 (omega arith) (eqb-true (next (drop at text)) 41 (and_right b _ e))).within

  close_within : (o : Connective) (count : ℕ) → at ≤ length text → parts_close o count (drop at text) ≡ true → at + close_size o ≤ length text
  close_within negation count h e = omega arith
  close_within implies count h e = bracket_within (eqb count 2) e
  close_within implied_by count h e = bracket_within (eqb count 2) e
  close_within equivalent count h e = bracket_within (eqb count 2) e
  close_within (junction c) count h e = bracket_within true e

-- Connectives.

module _ (s : Setting) (r : Reading Formula) (o : Connective) (at : ℕ) where
  pub connective-none : none_follow o (drop at s.text) ≡ true → (names : NameTable) (work : List ℕ) (to : ℕ)
      → ToldBehind (read_connective r o) s at (memory names work) to (Ok (read_to 1 (connective_facts o (simple_facts true true)) (at + 1)))
      (memory names (set work to (0 * 16 + connective_tag o)))
  unfolding size variables known words
  connective-none e names work to reader sign same h =
      record {
        formula = connective o no_parts;
        is = same ∙ connective_empty r (drop at s.text) o e ∙ rw (drop-drop 1 at s.text);
        measured = refl;
        judged = sym (facts_connective s.problem s.bound o no_parts (none-takes o (drop at s.text) e) ∙ rw (facts_none s.problem s.bound));
        after = omega arith;
        within = none_within s.text at o e;
        entered = entered_header s.text (0 * 16 + connective_tag o) (entered-none s.text (memory names work) (to + 1));
      }

  module _ (shrinks : Shrinks r) (some : none_follow o (drop at s.text) ≡ false) (most : ℕ) (so : most ≡ further_parts o (length s.text)) where
    connective-is : read_connective r o (drop at s.text) ≡ (outcome.◌>>=◌ (up_to most r (drop at s.text)) λ p. closing o p.0 p.1)
    connective-is = rw so (connective-list r (drop at s.text) shrinks (length s.text) (omega (arith, length-drop at s.text)) o some)

    pub connective-refused : (number : ℕ) → up_to most r (drop at s.text) ≡ refused number → read_connective r o (drop at s.text) ≡ refused number
    connective-refused number e = connective-is ∙ rw e

    module _ (old : Memory) (to : ℕ) (q : Read Parts) (names : NameTable) (mid : List ℕ) (f : PartsFound (up_to most r) s at old (to + 1) q (memory names mid)) where
      pub connective_open : parts_close o q.value.count (drop q.next s.text) ≡ false → read_connective r o (drop at s.text) ≡ refused 5
      unfolding closing
      connective_open e = connective-is ∙ rw (f.is, ← f.taken.counted, e)

      pub connective-found : parts_close o q.value.count (drop q.next s.text) ≡ true
          → ToldBehind (read_connective r o) s at old to (Ok (read_to (q.value.size + 1) (connective_facts o q.value.facts) (q.next + close_size o)))
          (memory names (set mid to (q.value.count * 16 + connective_tag o)))
      unfolding size variables known words closing
      connective-found e reader sign same h =
          let closed : parts_close o (length f.items) (drop q.next s.text) ≡ true = rw (← f.taken.counted) e in
          let total : part_total (parts_of f.items) ≡ q.value.count = part_total-parts_of f.items ∙ sym f.taken.counted in
          record {
            formula = connective o (parts_of f.items);
            is = same ∙ connective-is ∙ rw (f.is, closed, drop-drop (close_size o) q.next s.text);
            measured = omega (arith, f.taken.measured);
            judged = rw f.taken.judged (sym (facts_connective s.problem s.bound o (parts_of f.items) (close_takes f.items (drop q.next s.text) o closed)));
            after = omega (arith, f.after);
            within = close_within s.text q.next o q.value.count f.within e;
            entered = entered_alike s.text refl (λ k. k) (λ ix. rw total) (entered_header s.text (q.value.count * 16 + connective_tag o) f.taken.entered);
          }
