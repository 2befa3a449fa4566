-- One reading, one text, for formulas: by induction on the levels left, each step by the laws of the readers that it is made of.
-- Assumes nothing.
use Prim.Native.Nat.{ℕ, suc, zero, ◌≤◌}
use native.Mathlib.Omega.{arith}
use mathlib.Core.Path.{◌≡◌, refl, ap, ap₂, ◌∙◌}
use mathlib.Core.Logic.{◌↔◌}
use mathlib.Core.List.{List, [], ◌∷◌, ◌++◌, append-nil, append_assoc, map}
use mathlib.Core.Bool.{Bool, true, false, not, ◌&&◌, ◌||◌, and-false, false≢true}
use lib.Dec.{eqb, leb}
use borrow.Author.Tests.{leb-true, lt-leb, ne_eqb}
use Rattle.grammar.specs.Bytes.{Bytes, bytes, next, is_digit, is_capital, is_small, is_small_or_digit, is_letter_or_digit, joined, every}
use Rattle.grammar.specs.Numbers.{decimal}
use Rattle.grammar.specs.Outcome.{done}
use Rattle.grammar.specs.Reading.{Reading, give, word, ◌⇒◌, one_of}
use Rattle.grammar.specs.Problem.{Name, is_name, read_name}
use Rattle.grammar.specs.Each.{Each}
use Rattle.grammar.proofs.Laws.{and_left, and_right, or_left, or_right, each_weaken}
use Rattle.grammar.proofs.Numbers.{decimal-first}
use Rattle.grammar.proofs.Outcome.{allowed_done}
use Rattle.grammar.proofs.Reading.{OneOrMore, each_some, Read, Reads, reads-refuse, reads-give, reads_then, reads_weaken, reads_cond}
use Rattle.grammar.proofs.Reading.{reads_word, reads-token, reads-number, reads-one_of, reads-separated}
use Rattle.grammar.proofs.Reading.{ReadsBack, read_token, read_number_lem, read_separated, one_of-word, one_of-last, next-append}
use Rattle.logic.specs.Formula.{Term, element, variable, Terms, no_terms, term, terms_of}
use Rattle.logic.specs.Formula.{Side, all, any, Connective, negation, implies, implied_by, equivalent, junction}
use Rattle.logic.specs.Formula.{Formula, truth, atom, equal, connective, quantifier, Formulas, no_parts, part, parts_of, depth, depths}
use Rattle.logic.specs.Text.{connective_sign, quantifier_sign, term_text, term_texts, bracketed, arguments_text, connective_text, text_of, texts_of}
use Rattle.logic.specs.Text.{is_variable, term_spelled, terms_spelled, is_one, is_two, takes, spelled, all_spelled}
use Rattle.logic.specs.Reading.{read_variable, read_term, read_equality, read_arguments, read_atom}
use Rattle.logic.specs.Reading.{read_negation, read_two, read_parts, read_junction, read_quantifier, formula_kinds, read_formula}

-- What is read is well spelled, within the levels, and has that text.

-- well spelled, and of a depth within some levels
abbrev pub FitsIn : ℕ → Formula → Type 0
FitsIn levels f = (spelled f ≡ true) × (depth f ≤ levels)

reads-variable : Reads [] (λ x. is_variable x ≡ true) (λ x. x) read_variable
unfolding read_variable
reads-variable = reads_weaken (reads-token is_small_or_digit 5 is_variable) (λ x h. (h.1, refl))

reads-name : Reads [] (λ p. is_name p ≡ true) (λ p. p) (read_name 5)
unfolding read_name
reads-name = reads_weaken (reads-token is_letter_or_digit 5 is_name) (λ p h. (h.1, refl))

pub reads-term : Reads [] (λ t. term_spelled t ≡ true) term_text read_term
unfolding read_term
reads-term =
    reads_cond (λ s. is_digit (next s))
    (reads_then (reads-number 5) _ λ v _. reads-give refl refl)
    (reads_then reads-variable _ λ x well. reads-give well refl)

term_texts-terms_of : (ts : List Term) → term_texts (terms_of ts) ≡ map term_text ts
term_texts-terms_of [] = refl
term_texts-terms_of (t ∷ ts) = ap (λ ws. term_text t ∷ ws) (term_texts-terms_of ts)

terms_spelled_lem : (ts : List Term) → Each (λ t. term_spelled t ≡ true) ts → terms_spelled (terms_of ts) ≡ true
terms_spelled_lem [] each = refl
terms_spelled_lem (t ∷ ts) each = ap₂ ◌&&◌ each.0 (terms_spelled_lem ts each.1)

reads_arguments : Reads (bytes "(") (λ ts. terms_spelled ts ≡ true) arguments_text read_arguments
unfolding read_arguments
reads_arguments =
    reads_then (reads-separated reads-term 44 (omega arith)) _ λ ts each.
    reads_then (reads_word 5 (bytes ")")) _ λ _ _.
    arguments ts each
  where
    arguments : (ts : List Term) → OneOrMore (λ t. term_spelled t ≡ true) ts
        → Reads ((bytes "(" ++ joined 44 (map term_text ts)) ++ bytes ")") (λ ts. terms_spelled ts ≡ true) arguments_text (give (terms_of ts))
    arguments [] each = absurd each
    arguments (t ∷ ts) each = reads-give (terms_spelled_lem (t ∷ ts) each) (rw (term_texts-terms_of ts))

texts_of-parts_of : (fs : List Formula) → texts_of (parts_of fs) ≡ map text_of fs
unfolding texts_of
texts_of-parts_of [] = refl
texts_of-parts_of (f ∷ fs) = ap (λ ws. text_of f ∷ ws) (texts_of-parts_of fs)

-- one level, with others left below
module _ (l : ℕ) where
  reads-atom : Reads [] (FitsIn (suc l)) text_of read_atom
  unfolding read_atom text_of spelled depth
  reads-atom =
      reads_then reads-name _ λ p name.
      reads_then (reads-one_of _ _ (reads_arguments, tt) (reads-give refl refl)) _ λ ts well.
      reads-give (ap₂ ◌&&◌ name well, omega arith) refl

  reads-equality : Reads (bytes "=(") (FitsIn (suc l)) text_of read_equality
  unfolding read_equality text_of spelled depth
  reads-equality =
      reads_then reads-term _ λ s first.
      reads_then (reads_word 5 (bytes ",")) _ λ _ _.
      reads_then reads-term _ λ t second.
      reads_then (reads_word 5 (bytes ")")) _ λ _ _.
      reads-give (ap₂ ◌&&◌ first second, omega arith) (simp (append_assoc, append-nil))

  parts_fit : (fs : List Formula) → Each (FitsIn l) fs → (all_spelled (parts_of fs) ≡ true) × (depths (parts_of fs) ≤ l)
  unfolding all_spelled depths
  parts_fit [] each = (refl, omega arith)
  parts_fit (f ∷ fs) each =
      let rest = parts_fit fs each.1 in
      let first = each.0 in
      (ap₂ ◌&&◌ first.0 rest.0, omega arith)

  reads-connective : {before : Bytes} (o : Connective) (fs : List Formula) → takes o (parts_of fs) ≡ true → Each (FitsIn l) fs
      → before ≡ connective_text o (map text_of fs) → Reads before (FitsIn (suc l)) text_of (give (connective o (parts_of fs)))
  unfolding text_of spelled depth
  reads-connective o fs right each e =
      let fit = parts_fit fs each in
      reads-give (ap₂ ◌&&◌ right fit.0, omega arith) (e ∙ rw (texts_of-parts_of fs))

-- one level more, where r reads the parts
module _ (l : ℕ) (r : Reading Formula) (reads : Reads [] (FitsIn l) text_of r) where
  reads_negation : Reads (connective_sign negation) (FitsIn (suc l)) text_of (read_negation r)
  unfolding read_negation
  reads_negation = reads_then reads _ λ f fits. reads-connective l negation (f ∷ []) refl (fits, tt) (simp append-nil)

  reads_two : (o : Connective) → ((fs : Formulas) → takes o fs ≡ is_two fs) → ((ws : List Bytes) → connective_text o ws ≡ connective_sign o ++ bracketed ws)
      → Reads (connective_sign o ++ bytes "(") (FitsIn (suc l)) text_of (read_two r o)
  unfolding read_two
  reads_two o two text =
      reads_then reads _ λ f first.
      reads_then (reads_word 5 (bytes ",")) _ λ _ _.
      reads_then reads _ λ g second.
      reads_then (reads_word 5 (bytes ")")) _ λ _ _.
      reads-connective l o (f ∷ g ∷ []) (two _) (first, (second, tt)) (simp (text, append_assoc, append-nil))

  reads_parts : Reads [] (Each (FitsIn l)) (λ fs. joined 44 (map text_of fs)) (read_parts r)
  unfolding read_parts
  reads_parts =
      reads_cond (λ s. eqb (next s) 41) (reads-give tt refl) (reads_weaken (reads-separated reads 44 (omega arith)) λ fs some. (each_some _ fs some, refl))

  reads-junction : (c : Side) → Reads (connective_sign (junction c) ++ bytes "(") (FitsIn (suc l)) text_of (read_junction r c)
  unfolding read_junction
  reads-junction c =
      reads_then reads_parts _ λ fs each.
      reads_then (reads_word 5 (bytes ")")) _ λ _ _.
      reads-connective l (junction c) fs refl each (simp append_assoc)

  reads-quantifier : (c : Side) → Reads (quantifier_sign c) (FitsIn (suc l)) text_of (read_quantifier r c)
  unfolding read_quantifier text_of spelled depth
  reads-quantifier c =
      reads_then reads-variable _ λ x well.
      reads_then (reads_word 5 (bytes "[")) _ λ _ _.
      reads_then reads _ λ g guard.
      reads_then (reads_word 5 (bytes "]:")) _ λ _ _.
      reads_then reads _ λ f body.
      reads-give (ap₂ ◌&&◌ well (ap₂ ◌&&◌ guard.0 body.0), omega arith) (simp append_assoc)

  reads_level : Reads [] (FitsIn (suc l)) text_of (one_of (formula_kinds r) read_atom)
  unfolding formula_kinds text_of spelled depth
  reads_level =
      reads-one_of (formula_kinds r) read_atom (
        reads-give (refl, omega arith) refl,
        (
          reads-give (refl, omega arith) refl,
          (
            reads-equality l,
            (
              reads_negation,
              (
                reads-junction all,
                (
                  reads-junction any,
                  (
                    reads_two implies (λ _. refl) (λ _. refl),
                    (
                      reads_two implied_by (λ _. refl) (λ _. refl),
                      (
                        reads_two equivalent (λ _. refl) (λ _. refl),
                        (
                          reads-quantifier all,
                          (reads-quantifier any, tt),
                        ),
                      ),
                    ),
                  ),
                ),
              ),
            ),
          ),
        ),
      )
      (reads-atom l)

pub reads-formula : (l : ℕ) → Reads [] (FitsIn l) text_of (read_formula l)
unfolding read_formula
reads-formula zero = reads-refuse 6
reads-formula (suc l) = reads_level l (read_formula l) (reads-formula l)

-- The text of what is well spelled, within the levels, is read as that.

-- a byte that could belong to a formula before it
abbrev pub continues : ℕ → Bool
continues b = is_letter_or_digit b || eqb b 40

small_no_digit : (b : ℕ) → is_small b ≡ true → is_digit b ≡ false
small_no_digit b e = let h = leb-true 97 b (and_left (leb 97 b) _ e) in rw (lt-leb b 57 (omega arith), and-false)

read_variable_lem : (x : Name) → is_variable x ≡ true → ReadsBack is_small_or_digit (λ x. x) read_variable x
unfolding read_variable
read_variable_lem x well =
    read_token 5 is_small_or_digit is_variable x (and_left (every is_small_or_digit x) _ (and_right (is_small (next x)) _ well)) well

read_term_lem : (t : Term) → term_spelled t ≡ true → ReadsBack is_small_or_digit term_text read_term t
unfolding read_term
read_term_lem (element v) well u ends =
    rw (next-append is_digit (decimal v) u refl (decimal-first v).0, read_number_lem 5 v u (or_right (is_small (next u)) _ ends))
read_term_lem (variable x) well u ends =
    let small = next-append is_small x u refl (and_left (is_small (next x)) _ well) in
    rw (small_no_digit (next (x ++ u)) small, read_variable_lem x well u ends)

-- the terms as a list
term_list : Terms → List Term
term_list no_terms = []
term_list (term t ts) = t ∷ term_list ts

terms_of_term_list : (ts : Terms) → terms_of (term_list ts) ≡ ts
unfolding term_list
terms_of_term_list no_terms = refl
terms_of_term_list (term t ts) = ap (term t) (terms_of_term_list ts)

each_term : (ts : Terms) → terms_spelled ts ≡ true → Each (ReadsBack is_small_or_digit term_text read_term) (term_list ts)
unfolding term_list
each_term no_terms well = tt
each_term (term t ts) well = (read_term_lem t (and_left (term_spelled t) _ well), each_term ts (and_right (term_spelled t) _ well))

read_arguments_lem : (ts : List Term) (u : Bytes) → Each (ReadsBack is_small_or_digit term_text read_term) ts → eqb (next u) 40 ≡ false
    → one_of (bytes "(" ⇒ read_arguments ∷ []) (give no_terms) (arguments_text (terms_of ts) ++ u) ≡ done (terms_of ts, u)
unfolding read_arguments word
read_arguments_lem [] u each ends = one_of-last (λ b. not (eqb b 40)) _ (give no_terms) u refl (ap not ends)
read_arguments_lem (t ∷ ts) u each ends =
    rw (term_texts-terms_of ts)
    (one_of-word (bytes "(") _ [] (give no_terms) ((joined 44 (map term_text (t ∷ ts)) ++ bytes ")") ++ u)
    ∙ rw (append_assoc (joined 44 (map term_text (t ∷ ts))), read_separated is_small_or_digit term_text read_term 44 refl (41 ∷ u) refl refl t ts each))

arguments_end : (ts : Terms) (u : Bytes) → is_letter_or_digit (next u) ≡ false → is_letter_or_digit (next (arguments_text ts ++ u)) ≡ false
arguments_end no_terms u ends = ends
arguments_end (term t ts) u ends = refl

read_name_lem : (p : Name) → is_name p ≡ true → ReadsBack is_letter_or_digit (λ p. p) (read_name 5) p
unfolding read_name
read_name_lem p name = read_token 5 is_letter_or_digit is_name p (and_right (is_capital (next p)) _ name) name

read_atom_lem : (p : Name) (ts : Terms) (u : Bytes) → is_name p ≡ true → terms_spelled ts ≡ true → continues (next u) ≡ false
    → read_atom ((p ++ arguments_text ts) ++ u) ≡ done (atom p ts, u)
unfolding read_atom
read_atom_lem p ts u name well ends =
    rw (
      append_assoc p (arguments_text ts) u,
      read_name_lem p name _ (arguments_end ts u (or_left (is_letter_or_digit (next u)) _ ends)),
      rw (terms_of_term_list ts) at (read_arguments_lem (term_list ts) u (each_term ts well) (or_right (is_letter_or_digit (next u)) _ ends)),
    )

read_equality_lem : (s t : Term) (u : Bytes) → term_spelled s ≡ true → term_spelled t ≡ true
    → read_equality ((joined 44 (term_text s ∷ term_text t ∷ []) ++ bytes ")") ++ u) ≡ done (equal s t, u)
unfolding read_equality word
read_equality_lem s t u first second = simp (append_assoc, read_term_lem s first, read_term_lem t second)

-- the parts as a list
part_list : Formulas → List Formula
part_list no_parts = []
part_list (part f fs) = f ∷ part_list fs

parts_of_part_list : (fs : Formulas) → parts_of (part_list fs) ≡ fs
unfolding part_list
parts_of_part_list no_parts = refl
parts_of_part_list (part f fs) = ap (part f) (parts_of_part_list fs)

each_part : (l : ℕ) (fs : Formulas) → all_spelled fs ≡ true → depths fs ≤ l → Each (FitsIn l) (part_list fs)
unfolding part_list all_spelled depths
each_part l no_parts well deep = tt
each_part l (part f fs) well deep =
    ((and_left (spelled f) _ well, omega arith), each_part l fs (and_right (spelled f) _ well) (omega arith))

atom-first : (p : Name) (ts : Terms) (u : Bytes) → is_name p ≡ true → is_capital (next ((p ++ arguments_text ts) ++ u)) ≡ true
atom-first p ts u name = rw append_assoc (next-append is_capital p _ refl (and_left (is_capital (next p)) _ name))

capital_no_bracket : (b : ℕ) → is_capital b ≡ true → eqb b 41 ≡ false
capital_no_bracket b e = let h = leb-true 65 b (and_left (leb 65 b) _ e) in ne_eqb b 41 (omega arith)

-- a part is not taken for the bracket behind the parts
text-first : (f : Formula) (u : Bytes) → spelled f ≡ true → eqb (next (text_of f ++ u)) 41 ≡ false
unfolding text_of spelled
text-first (truth true) u well = refl
text-first (truth false) u well = refl
text-first (atom p ts) u well = capital_no_bracket (next ((p ++ arguments_text ts) ++ u)) (atom-first p ts u (and_left (is_name p) _ well))
text-first (equal s t) u well = refl
text-first (connective negation fs) u well = refl
text-first (connective implies fs) u well = refl
text-first (connective implied_by fs) u well = refl
text-first (connective equivalent fs) u well = refl
text-first (connective (junction all) fs) u well = refl
text-first (connective (junction any) fs) u well = refl
text-first (quantifier all x g f) u well = refl
text-first (quantifier any x g f) u well = refl

-- one level more, where r reads the parts back
module _ (l : ℕ) (r : Reading Formula) (back : (f : Formula) → FitsIn l f → ReadsBack continues text_of r f) where
  read_negation_lem : (fs : List Formula) → is_one (parts_of fs) ≡ true → Each (FitsIn l) fs → (u : Bytes) → continues (next u) ≡ false
      → read_negation r (joined 44 (map text_of fs) ++ u) ≡ done (connective negation (parts_of fs), u)
  unfolding read_negation
  read_negation_lem [] one each u ends = absurd (false≢true one)
  read_negation_lem (f ∷ []) one each u ends = simp (append-nil, back f each.0)
  read_negation_lem (f ∷ g ∷ fs) one each u ends = absurd (false≢true one)

  read_two_lem : (o : Connective) (fs : List Formula) → is_two (parts_of fs) ≡ true → Each (FitsIn l) fs → (u : Bytes)
      → read_two r o ((joined 44 (map text_of fs) ++ bytes ")") ++ u) ≡ done (connective o (parts_of fs), u)
  unfolding read_two word
  read_two_lem o [] two each u = absurd (false≢true two)
  read_two_lem o (f ∷ []) two each u = absurd (false≢true two)
  read_two_lem o (f ∷ g ∷ []) two each u = simp (append_assoc, append-nil, back f each.0, back g each.1.0)
  read_two_lem o (f ∷ g ∷ h ∷ fs) two each u = absurd (false≢true two)

  read_parts_lem : (fs : List Formula) → Each (FitsIn l) fs → (u : Bytes) → read_parts r (joined 44 (map text_of fs) ++ (41 ∷ u)) ≡ done (fs, 41 ∷ u)
  unfolding read_parts
  read_parts_lem [] each u = refl
  read_parts_lem (f ∷ fs) each u =
      rw (append_assoc (text_of f), text-first f _ each.0.0, ← append_assoc (text_of f))
      (read_separated continues text_of r 44 refl (41 ∷ u) refl refl f fs (each_weaken (FitsIn l) _ back (f ∷ fs) each))

  read_junction_lem : (c : Side) (fs : List Formula) → Each (FitsIn l) fs → (u : Bytes)
      → read_junction r c ((joined 44 (map text_of fs) ++ bytes ")") ++ u) ≡ done (connective (junction c) (parts_of fs), u)
  unfolding read_junction word
  read_junction_lem c fs each u = rw (append_assoc (joined 44 (map text_of fs)), read_parts_lem fs each u)

  read_quantifier_lem : (c : Side) (x : Name) (g f : Formula) → is_variable x ≡ true → FitsIn l g → FitsIn l f → (u : Bytes) → continues (next u) ≡ false
      → read_quantifier r c ((x ++ (bytes "[" ++ (text_of g ++ (bytes "]:" ++ text_of f)))) ++ u) ≡ done (quantifier c x g f, u)
  unfolding read_quantifier word
  read_quantifier_lem c x g f well guard body u ends = simp (append_assoc, read_variable_lem x well, back g guard, back f body)

  read_connective_lem : (o : Connective) (fs : List Formula) → takes o (parts_of fs) ≡ true → Each (FitsIn l) fs → (u : Bytes) → continues (next u) ≡ false
      → one_of (formula_kinds r) read_atom (connective_text o (map text_of fs) ++ u) ≡ done (connective o (parts_of fs), u)
  unfolding formula_kinds one_of
  read_connective_lem negation fs right each u ends = read_negation_lem fs right each u ends
  read_connective_lem implies fs right each u ends = read_two_lem implies fs right each u
  read_connective_lem implied_by fs right each u ends = read_two_lem implied_by fs right each u
  read_connective_lem equivalent fs right each u ends = read_two_lem equivalent fs right each u
  read_connective_lem (junction all) fs right each u ends = read_junction_lem all fs each u
  read_connective_lem (junction any) fs right each u ends = read_junction_lem any fs each u

  choose_quantifier : (c : Side) (s : Bytes) → one_of (formula_kinds r) read_atom (quantifier_sign c ++ s) ≡ read_quantifier r c s
  unfolding formula_kinds one_of
  choose_quantifier all s = refl
  choose_quantifier any s = refl

  read_level : (f : Formula) → FitsIn (suc l) f → ReadsBack continues text_of (one_of (formula_kinds r) read_atom) f
  unfolding formula_kinds one_of text_of spelled depth
  read_level (truth true) fits u ends = refl
  read_level (truth false) fits u ends = refl
  read_level (atom p ts) fits u ends =
      let name = and_left (is_name p) _ fits.0 in
      one_of-last is_capital (formula_kinds r) read_atom ((p ++ arguments_text ts) ++ u) refl (atom-first p ts u name)
      ∙ read_atom_lem p ts u name (and_right (is_name p) _ fits.0) ends
  read_level (equal s t) fits u ends = read_equality_lem s t u (and_left (term_spelled s) _ fits.0) (and_right (term_spelled s) _ fits.0)
  read_level (connective o fs) fits u ends =
      let deep = fits.1 in
      let each = each_part l fs (and_right (takes o fs) _ fits.0) (omega arith) in
      let right : takes o (parts_of (part_list fs)) ≡ true = rw (parts_of_part_list fs) (and_left (takes o fs) _ fits.0) in
      rw (← texts_of-parts_of, parts_of_part_list) at (read_connective_lem o (part_list fs) right each u ends)
  read_level (quantifier c x g f) fits u ends =
      let deep = fits.1 in
      let parts = and_right (is_variable x) _ fits.0 in
      rw (append_assoc (quantifier_sign c))
      (choose_quantifier c _
      ∙ read_quantifier_lem c x g f (and_left (is_variable x) _ fits.0)
      (and_left (spelled g) _ parts, omega arith) (and_right (spelled g) _ parts, omega arith) u ends)

depth_positive : (f : Formula) → 1 ≤ depth f
unfolding depth
depth_positive (truth b) = omega arith
depth_positive (atom p ts) = omega arith
depth_positive (equal s t) = omega arith
depth_positive (connective o fs) = omega arith
depth_positive (quantifier c x g f) = omega arith

pub read_formula_lem : (l : ℕ) (f : Formula) → FitsIn l f → ReadsBack continues text_of (read_formula l) f
unfolding read_formula
read_formula_lem zero f fits = absurd (omega (arith, depth_positive f))
read_formula_lem (suc l) f fits = read_level l (read_formula l) (read_formula_lem l) f fits

-- So a whole text is read as a formula exactly if it is that formula's text.
pub read_formula_exactly : (levels : ℕ) (text : Bytes) (f : Formula)
    → (read_formula levels text ≡ done (f, [])) ↔ ((spelled f ≡ true) × (depth f ≤ levels) × (text ≡ text_of f))
read_formula_exactly levels text f = (there, λ (well, deep, e). rw (e, ← append-nil (text_of f)) (read_formula_lem levels f (well, deep) [] refl))
  where
    there : read_formula levels text ≡ done (f, []) → (spelled f ≡ true) × (depth f ≤ levels) × (text ≡ text_of f)
    there e =
        let (fits, is) = allowed_done (Read (FitsIn levels) text_of text) (read_formula levels text) (f, []) ((reads-formula levels).sound text) e in
        (fits.0, fits.1, is ∙ append-nil (text_of f))
