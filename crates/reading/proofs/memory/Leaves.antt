-- Truth values, equalities and atoms at a place of the theory's text: what the definitions read there, by what the code has seen.
-- Assumes nothing.
use Prim.Native.Nat.{ℕ, suc, ◌+◌, ◌*◌, ◌≤◌}
use native.Mathlib.Omega.{arith}
use mathlib.Core.Path.{◌≡◌, refl, sym, ap, ◌∙◌}
use mathlib.Core.List.{List, [], ◌∷◌, ◌++◌, append-nil}
use mathlib.Core.Bool.{Bool, true, false, ◌&&◌, and-true}
use lib.Dec.{eqb}
use lib.ListN.{length, drop, set}
use lib.Seq.{drop-drop}
use borrow.Author.Tests.{eqb-true, eqb-false}
use Rattle.std.specs.Prelude.{Option, Some, None, Result, Ok, Err}
use Rattle.std.specs.Option.{ok_or}
use Rattle.grammar.specs.Bytes.{Bytes, bytes, next, begins}
use Rattle.grammar.specs.Outcome.{Outcome, done, refused, mapped, provided}
use Rattle.grammar.specs.Outcome as outcome
use Rattle.grammar.specs.Reading.{Reading, give, word, one_of, ◌⇒◌, separated}
use Rattle.grammar.specs.Problem.{Name, predicates, declared, is_input, read_name}
use Rattle.grammar.proofs.Laws.{and_right}
use Rattle.logic.specs.Formula.{Term, Terms, no_terms, terms_of, term_count, Formula, truth, atom, equal, size}
use Rattle.logic.specs.Text.{truth_text}
use Rattle.logic.specs.Reading.{read_term, read_equality, read_arguments, read_atom}
use Rattle.logic.specs.Names.{term_known, known, term_closed}
use Rattle.logic.specs.Limits.{term_variables, variables}
use Rattle.text.specs.memory.Found.{Taken}
use Rattle.text.proofs.Found.{word-found}
use Rattle.words.specs.memory.Words.{truth_word, words}
use Rattle.terms.specs.memory.NameTable.{extended_by}
use Rattle.terms.specs.declared.name_table.NameTable.{NameTable}
use Rattle.terms.specs.declared.term.Terms.{Terms as Listed}
use Rattle.terms.specs.memory.Facts.{simple_facts}
use Rattle.terms.specs.memory.Lists.{up_to}
use Rattle.terms.specs.memory.Entries.{Setting, Memory, memory}
use Rattle.terms.specs.memory.TermReads.{TermsTaken, TermsFound, closed_up_to, read_term_list}
use Rattle.terms.proofs.memory.Facts.{facts_truth, facts_atom, facts_equal}
use Rattle.terms.proofs.memory.Lists.{begins-first, begins_other, byte_first, pair_list}
use Rattle.terms.proofs.memory.Entries.{entered_alike, entered_header}
use Rattle.reading.specs.memory.FormulaReads.{read_to, Found, ToldLeaf, Told, read_leaf}
use Rattle.text.specs.declared.read.Read.{Read}
use Rattle.reading.specs.declared.fault.Fault.{Fault}
use Rattle.reading.specs.declared.fault.Fault.TheVariants.{Malformed}
use Rattle.reading.specs.declared.read.Measured.{Measured}

-- a formula with no formula in it is refused as malformed alone
pub told_leaf : (reader : Reading Formula) (s : Setting) (at : ℕ) (old : Memory) (to : ℕ) (r : Option (Read Measured)) (new : Memory)
    → ToldLeaf reader s at old to r new → Told reader s at old to (ok_or r Malformed) new
told_leaf reader s at old to (Some r) new f = f
told_leaf reader s at old to None new f = record { is = f; early = omega arith }

-- what one reader reads at a place is what another reads further on
module _ (s : Setting) (reader other : Reading Formula) (at mid : ℕ) (same : reader (drop at s.text) ≡ other (drop mid s.text)) (h : at ≤ mid) where
  found-later : (old : Memory) (to : ℕ) (r : Read Measured) (new : Memory) → Found other s mid old to r new → Found reader s at old to r new
  found-later old to r new f =
      record {
        formula = f.formula;
        is = same ∙ f.is;
        measured = f.measured;
        judged = f.judged;
        after = omega (arith, f.after);
        within = f.within;
        entered = f.entered;
      }

  pub leaf-later : (old : Memory) (to : ℕ) (r : Option (Read Measured)) (new : Memory) → ToldLeaf other s mid old to r new → ToldLeaf reader s at old to r new
  leaf-later old to (Some r) new f = found-later old to r new f
  leaf-later old to None new f = same ∙ f

  pub told-later : (old : Memory) (to : ℕ) (r : Result (Read Measured) Fault) (new : Memory) → Told other s mid old to r new → Told reader s at old to r new
  told-later old to (Ok r) new f = found-later old to r new f
  told-later old to (Err fault) new f = record { is = same ∙ f.is; early = f.early }

-- Truth values.

module _ (s : Setting) (at : ℕ) (h : at ≤ length s.text) (names : NameTable) (work : List ℕ) (to : ℕ) where
  truth-found : (b : Bool) → begins (truth_text b) (drop at s.text) ≡ true → read_leaf (drop at s.text) ≡ done (truth b, drop (at + length (truth_text b)) s.text)
      → Found read_leaf s at (memory names work) to (read_to 1 (simple_facts true true) (at + length (truth_text b))) (memory names (set work to (truth_word b)))
  unfolding size variables known words extended_by
  truth-found b e is =
      record {
        formula = truth b;
        is = is;
        measured = refl;
        judged = sym (facts_truth s.problem s.bound b);
        after = long b;
        within = (word-found s.text at (truth_text b) h e).within;
        entered = record { names = refl; work = λ k. refl };
      }
    where
      long : (b : Bool) → at + 1 ≤ at + length (truth_text b)
      long true = omega arith
      long false = omega arith

  pub true_found : begins (truth_text true) (drop at s.text) ≡ true
      → Found read_leaf s at (memory names work) to (read_to 1 (simple_facts true true) (at + 4)) (memory names (set work to 1))
  unfolding read_leaf one_of
  true_found e = truth-found true e (rw (e, drop-drop 4 at s.text))

  module _ (not-true : begins (truth_text true) (drop at s.text) ≡ false) where
    pub false_found : begins (truth_text false) (drop at s.text) ≡ true
        → Found read_leaf s at (memory names work) to (read_to 1 (simple_facts true true) (at + 5)) (memory names (set work to 0))
    unfolding read_leaf one_of
    false_found e = truth-found false e (rw (not-true, e, drop-drop 5 at s.text))

    module _ (not-false : begins (truth_text false) (drop at s.text) ≡ false) where
      pub equality_behind : begins (bytes "=(") (drop at s.text) ≡ true → read_leaf (drop at s.text) ≡ read_equality (drop (at + 2) s.text)
      unfolding read_leaf one_of
      equality_behind e = rw (not-true, not-false, e, drop-drop 2 at s.text)

      pub atom_behind : begins (bytes "=(") (drop at s.text) ≡ false → read_leaf (drop at s.text) ≡ read_atom (drop at s.text)
      unfolding read_leaf one_of
      atom_behind e = rw (not-true, not-false, e)

-- Equalities: two terms.

exact_two : List Term → Reading Formula
exact_two [] u = refused 5
exact_two (a ∷ []) u = refused 5
exact_two (a ∷ b ∷ []) u = done (equal a b, u)
exact_two (a ∷ b ∷ c ∷ ts) u = refused 5

-- the bracket, and then the number of terms
finish_two : List Term → Reading Formula
finish_two ts u = outcome.◌>>=◌ (word 5 (41 ∷ []) u) λ z. exact_two ts z.1

finish_one : (a : Term) (u : Bytes) → finish_two (a ∷ []) u ≡ refused 5
unfolding finish_two exact_two word
finish_one a u = pick (begins (41 ∷ []) u)
  where
    pick : (b : Bool) → (outcome.◌>>=◌ {E = ℕ} {A = Unit {0} × Bytes} {B = Formula × Bytes} (mapped (λ z. (z, drop 1 u)) (provided b 5)) λ z. refused 5) ≡ refused 5
    pick true = refl
    pick false = refl

closed_finish : (o : Outcome ℕ (List Term × Bytes))
    → (outcome.◌>>=◌ o λ p. finish_two p.0 p.1)
    ≡ (outcome.◌>>=◌ {A = List Term × Bytes} (outcome.◌>>=◌ o λ p. outcome.◌>>=◌ (word 5 (41 ∷ []) p.1) λ z. done (p.0, z.1)) λ p. exact_two p.0 p.1)
unfolding finish_two
closed_finish (refused number) = refl
closed_finish (done p) = pick (word 5 (41 ∷ []) p.1)
  where
    pick : (o : Outcome ℕ (Unit {0} × Bytes))
        → (outcome.◌>>=◌ o λ z. exact_two p.0 z.1)
        ≡ (outcome.◌>>=◌ {A = List Term × Bytes} (outcome.◌>>=◌ o λ z. done (p.0, z.1)) λ p. exact_two p.0 p.1)
    pick (done z) = refl
    pick (refused number) = refl

finish_two_lem : (a b : Term) (u : Bytes) → finish_two (a ∷ b ∷ []) u ≡ (outcome.◌>>=◌ (word 5 (41 ∷ []) u) λ z. done (equal a b, z.1))
unfolding finish_two exact_two
finish_two_lem a b u = refl

equality-list : (s : Bytes) → read_equality s ≡ (outcome.◌>>=◌ (closed_up_to 1 s) λ p. exact_two p.0 p.1)
unfolding read_equality closed_up_to
equality-list s = sym (pair_list read_term equal finish_two finish_two_lem finish_one s) ∙ closed_finish (up_to 1 read_term s)

module _ (s : Setting) (at : ℕ) (old : Memory) (to : ℕ) where
  pub equality-refused : closed_up_to 1 (drop at s.text) ≡ refused 5 → read_equality (drop at s.text) ≡ refused 5
  equality-refused e = equality-list (drop at s.text) ∙ rw e

  module _ (after : ℕ) (told : Listed) (names : NameTable) (mid : List ℕ) (f : TermsFound s (closed_up_to 1) at old (to + 1) after told (memory names mid)) where
    equality-is : read_equality (drop at s.text) ≡ exact_two f.items (drop after s.text)
    equality-is = equality-list (drop at s.text) ∙ rw f.is

    pub equality_other : (told.count ≡ 2 → ⊥) → read_equality (drop at s.text) ≡ refused 5
    unfolding exact_two
    equality_other h = equality-is ∙ pick f.items f.taken.counted
      where
        pick : (ts : List Term) → told.count ≡ length ts → exact_two ts (drop after s.text) ≡ refused 5
        pick [] e = refl
        pick (a ∷ []) e = refl
        pick (a ∷ b ∷ []) e = absurd (h (omega arith))
        pick (a ∷ b ∷ c ∷ ts) e = refl

    pub equality-found : told.count ≡ 2 → Found read_equality s at old to (read_to 3 (simple_facts told.named true) after) (memory names (set mid to 11))
    unfolding exact_two size variables known words
    equality-found two = pick f.items equality-is f.taken
      where
        pick : (ts : List Term) → read_equality (drop at s.text) ≡ exact_two ts (drop after s.text)
            → TermsTaken s ts told old (to + 1) (memory names mid)
            → Found read_equality s at old to (read_to 3 (simple_facts told.named true) after) (memory names (set mid to 11))
        pick [] is t = absurd (omega (arith, t.counted))
        pick (a ∷ []) is t = absurd (omega (arith, t.counted))
        pick (a ∷ b ∷ []) is t =
            record {
              formula = equal a b;
              is = is;
              measured = refl;
              judged = rw (t.judged, and-true (term_known s.problem.domain b), and-true (term_closed s.bound b)) (sym (facts_equal s.problem s.bound a b));
              after = omega (arith, f.after);
              within = f.within;
              entered = entered_alike s.text (ap (λ xs. term_variables a ++ xs) (append-nil (term_variables b)))
                  (λ k. rw (and-true (term_known s.problem.domain b)) k) (λ ix. refl) (entered_header s.text 11 t.entered);
            }
        pick (a ∷ b ∷ c ∷ ts) is t = absurd (omega (arith, t.counted))

-- Atoms: a name, and terms if there are any.

-- the terms, and the bracket behind them
abbrev bracket_of : {A : Type 0} → (List Term → A) → Outcome ℕ (List Term × Bytes) → Outcome ℕ (A × Bytes)
bracket_of k o = outcome.◌>>=◌ o λ p. outcome.◌>>=◌ (word 5 (41 ∷ []) p.1) λ z. done (k p.0, z.1)

bracket_terms : (o : Outcome ℕ (List Term × Bytes)) → bracket_of terms_of o ≡ (outcome.◌>>=◌ (bracket_of (λ ts. ts) o) λ q. done (terms_of q.0, q.1))
bracket_terms (refused number) = refl
bracket_terms (done p) = pick (word 5 (41 ∷ []) p.1)
  where
    pick : (o : Outcome ℕ (Unit {0} × Bytes))
        → (outcome.◌>>=◌ {B = Terms × Bytes} o λ z. done (terms_of p.0, z.1)) ≡ (outcome.◌>>=◌ {A = List Term × Bytes} (outcome.◌>>=◌ o λ z. done (p.0, z.1)) λ q. done (terms_of q.0, q.1))
    pick (done z) = refl
    pick (refused number) = refl

arguments_list : (u : Bytes) (b : Bool) → eqb (next u) 40 ≡ b
    → one_of (bytes "(" ⇒ read_arguments ∷ []) (give no_terms) u ≡ (outcome.◌>>=◌ (read_term_list u) λ q. done (terms_of q.0, q.1))
unfolding one_of read_term_list read_arguments
arguments_list u true e =
    let k = eqb-true (next u) 40 e in
    rw (e, begins-first 40 (omega arith) u k, byte_first 40 (omega arith) 5 u k) (bracket_terms (separated 44 read_term (drop 1 u)))
arguments_list u false e = rw (e, begins_other 40 (omega arith) u (eqb-false (next u) 40 e))

atom-list : (s : Bytes) → read_atom s ≡ (outcome.◌>>=◌ (read_name 5 s) λ p. outcome.◌>>=◌ (read_term_list p.1) λ q. done (atom p.0 (terms_of q.0), q.1))
unfolding read_atom
atom-list s = pick (read_name 5 s)
  where
    regroup : (x : Name) (o : Outcome ℕ (List Term × Bytes))
        → (outcome.◌>>=◌ {A = Terms × Bytes} {B = Formula × Bytes} (outcome.◌>>=◌ o λ q. done (terms_of q.0, q.1)) λ q. done (atom x q.0, q.1)) ≡ (outcome.◌>>=◌ o λ q. done (atom x (terms_of q.0), q.1))
    regroup x (done q) = refl
    regroup x (refused number) = refl

    pick : (o : Outcome ℕ (Name × Bytes))
        → (outcome.◌>>=◌ {B = Formula × Bytes} o λ p. outcome.◌>>=◌ (one_of (bytes "(" ⇒ read_arguments ∷ []) (give no_terms) p.1) λ q. done (atom p.0 q.0, q.1))
        ≡ (outcome.◌>>=◌ o λ p. outcome.◌>>=◌ (read_term_list p.1) λ q. done (atom p.0 (terms_of q.0), q.1))
    pick (done p) = rw (arguments_list p.1 (eqb (next p.1) 40) refl) (regroup p.0 (read_term_list p.1))
    pick (refused number) = refl

term_count-terms_of : (ts : List Term) → term_count (terms_of ts) ≡ length ts
term_count-terms_of [] = refl
term_count-terms_of (t ∷ ts) = ap suc (term_count-terms_of ts)

module _ (s : Setting) (at : ℕ) (old : Memory) (to : ℕ) where
  pub atom_nameless : read_name 5 (drop at s.text) ≡ refused 5 → read_atom (drop at s.text) ≡ refused 5
  atom_nameless e = atom-list (drop at s.text) ∙ rw e

  module _ (p : Name) (end : ℕ) (w : Taken (read_name 5) s.text at p end) where
    pub atom-refused : read_term_list (drop end s.text) ≡ refused 5 → read_atom (drop at s.text) ≡ refused 5
    atom-refused e = atom-list (drop at s.text) ∙ rw (w.is, e)

    pub atom-found : (after : ℕ) (told : Listed) (names : NameTable) (mid : List ℕ) → TermsFound s read_term_list end old (to + 1) after told (memory names mid)
        → (index : ℕ) → index ≡ s.index p
        → Found read_atom s at old to
        (read_to (told.count + 1) (simple_facts (declared (predicates s.problem) p told.count && told.named) (is_input s.problem p)) after)
        (memory names (set mid to ((told.count * 256 + index) * 16 + 10)))
    unfolding size variables known words
    atom-found after told names mid f index e =
        let counted : told.count ≡ term_count (terms_of f.items) = f.taken.counted ∙ sym (term_count-terms_of f.items) in
        record {
          formula = atom p (terms_of f.items);
          is = atom-list (drop at s.text) ∙ rw (w.is, f.is);
          measured = omega arith;
          judged = rw (f.taken.judged, counted) (sym (facts_atom s.problem s.bound p (terms_of f.items)));
          after = omega (arith, w.after, f.after);
          within = f.within;
          entered = entered_alike s.text refl (λ k. and_right (declared (predicates s.problem) p (term_count (terms_of f.items))) _ k) (λ ix. rw (counted, e))
              (entered_header s.text ((told.count * 256 + index) * 16 + 10) f.taken.entered);
        }
