-- One reading, one text, for the lines of a derivation: by the laws of the readers that theirs are made of.
-- Assumes nothing.
use Prim.Native.Nat.{ℕ}
use native.Mathlib.Omega.{arith}
use mathlib.Core.Path.{◌≡◌, refl, sym, ap, ap₂, ◌∙◌}
use mathlib.Core.List.{List, [], ◌∷◌, ◌++◌, append-nil, append_assoc}
use mathlib.Core.Bool.{Bool, true, false, not, ◌&&◌, ◌||◌, false≢true}
use lib.Dec.{eqb, leb}
use lib.ListN.{length}
use Rattle.grammar.specs.Sizes.{greatest_name, greatest_path_number, grounder_size}
use Rattle.grammar.specs.Bytes.{Bytes, bytes, next, is_digit, is_printable}
use Rattle.grammar.specs.Numbers.{decimal}
use Rattle.grammar.specs.Outcome.{done}
use Rattle.grammar.specs.Reading.{Reading, give, refuse, word, ◌⇒◌, one_of, separated}
use Rattle.grammar.specs.Derivation.{Position, Rule, SNAND, SNOR, STN, EPRED, EPROP, IQ, RuleLine, rewrite, unsat, trivial, splitc, Line, step, footer}
use Rattle.grammar.specs.Derivation.{in_bounds, all_in_bounds, are_names, position_fits, new_names_fit, rule_line_fits, line_fits, is_grounder}
use Rattle.grammar.specs.Derivation.{rule_text, numbers_text, path_text, position_text, footer_text, rule_line_text, line_text, version_text, grounder_text}
use Rattle.grammar.specs.Derivation.{read_ranged, read_formula_name, read_path, read_position, at_position, read_split, read_footer}
use Rattle.grammar.specs.Derivation.{line_kinds, read_line, read_version, read_grounder}
use Rattle.grammar.specs.Each.{Each}
use Rattle.grammar.proofs.Laws.{and_left, and_right, or_left, or_right}
use Rattle.grammar.proofs.Reading.{OneOrMore, Reads, reads-refuse, reads-give, reads_then, reads_weaken, reads-require}
use Rattle.grammar.proofs.Reading.{reads_word, reads-token, reads-number, reads-one_of, reads-separated}
use Rattle.grammar.proofs.Reading.{ReadsBack, read_word, read_token, read_number_lem, read_separated, one_of-word, one_of-last, next-append}
use Rattle.grammar.proofs.Numbers.{decimal-first}

-- What is read fits, and has that text.

module _ (least greatest : ℕ) where
  pub reads_ranged : Reads [] (λ n. in_bounds least greatest n ≡ true) decimal (read_ranged least greatest)
  unfolding read_ranged
  reads_ranged = reads_then (reads-number 10) _ λ n _. reads_then (reads-require 10 _) _ λ _ fits. reads-give fits (append-nil (decimal n))

  -- one number or more
  reads_numbers : Reads [] (OneOrMore (λ n. in_bounds least greatest n ≡ true)) numbers_text (separated 44 (read_ranged least greatest))
  reads_numbers = reads-separated reads_ranged 44 (omega arith)

  all_in_bounds_lem : (ns : List ℕ) → Each (λ n. in_bounds least greatest n ≡ true) ns → all_in_bounds least greatest ns ≡ true
  all_in_bounds_lem [] each = refl
  all_in_bounds_lem (n ∷ ns) each = ap₂ ◌&&◌ each.0 (all_in_bounds_lem ns each.1)

reads-path : Reads [] (λ is. all_in_bounds 0 greatest_path_number is ≡ true) path_text read_path
unfolding read_path
reads-path =
    reads-one_of _ _ (
      reads_then (reads_numbers 0 greatest_path_number) _ λ is each.
          reads_then (reads_word 10 (bytes "]")) _ λ _ _.
          path is each,
      tt,
    )
    (reads-give refl refl)
  where
    path : (is : List ℕ) → OneOrMore (λ n. in_bounds 0 greatest_path_number n ≡ true) is
        → Reads ((bytes "[" ++ numbers_text is) ++ bytes "]") (λ is. all_in_bounds 0 greatest_path_number is ≡ true) path_text (give is)
    path [] each = absurd each
    path (i ∷ is) each = reads-give (all_in_bounds_lem 0 greatest_path_number (i ∷ is) each) refl

reads-position : Reads [] (λ p. position_fits p ≡ true) position_text read_position
unfolding read_position read_formula_name
reads-position =
    reads_then (reads_ranged 1 greatest_name) _ λ n fits. reads_then reads-path _ λ is all. reads-give (ap₂ ◌&&◌ fits all) refl

-- one kind of line: what is read behind its word
abbrev ReadsKind : Bytes × Reading Line → Type 0
ReadsKind k = Reads k.0 (λ l. line_fits l ≡ true) line_text k.1

-- a rule line that begins with w and ends with its position
reads_at : (w : Bytes) (make : Position → RuleLine) → ((p : Position) → rule_line_fits (make p) ≡ position_fits p)
    → ((p : Position) → rule_line_text (make p) ≡ w ++ (position_text p ++ bytes "\n")) → ReadsKind (w ⇒ at_position make)
unfolding line_text
reads_at w make fits text =
    reads_then reads-position _ λ p h. reads_then (reads_word 10 (bytes "\n")) _ λ _ _.
    reads-give (fits p ∙ h) (append_assoc w (position_text p) _ ∙ sym (text p))

reads-rule : (r : Rule) → ReadsKind ((rule_text r ++ bytes " @ ") ⇒ at_position (rewrite r))
unfolding rule_line_text
reads-rule r = reads_at _ (rewrite r) (λ p. refl) (λ p. sym (append_assoc (rule_text r) _ _))

reads-split : ReadsKind (bytes "SPLITC " ⇒ read_split)
unfolding line_text rule_line_text read_split read_formula_name
reads-split =
    reads_then reads-position _ λ p fits.
    reads_then (reads_word 10 (bytes " -> ")) _ λ _ _.
    reads_then (reads_numbers 1 greatest_name) _ λ names each.
    reads_then (reads_word 10 (bytes "\n")) _ λ _ _.
    reads-give (ap₂ ◌&&◌ fits (new names each)) (simp append_assoc)
  where
    new : (names : List ℕ) → OneOrMore (λ n. in_bounds 1 greatest_name n ≡ true) names → new_names_fit names ≡ true
    new [] each = absurd each
    new (n ∷ names) each = all_in_bounds_lem 1 greatest_name (n ∷ names) each

reads-footer : ReadsKind (bytes "FINAL IDS : " ⇒ read_footer)
unfolding line_text read_footer read_formula_name
reads-footer =
    reads_then names _ λ ns fits. reads_then (reads_word 10 (bytes "\n")) _ λ _ _. reads-give fits (simp append_assoc)
  where
    some : (ns : List ℕ) → OneOrMore (λ n. in_bounds 1 greatest_name n ≡ true) ns → (are_names ns ≡ true) × (numbers_text ns ≡ footer_text ns)
    some [] each = absurd each
    some (n ∷ ns) each = (all_in_bounds_lem 1 greatest_name (n ∷ ns) each, refl)

    names : Reads [] (λ ns. are_names ns ≡ true) footer_text (one_of (bytes "-" ⇒ give [] ∷ []) (separated 44 (read_ranged 1 greatest_name)))
    names = reads-one_of _ _ (reads-give refl refl, tt) (reads_weaken (reads_numbers 1 greatest_name) some)

pub reads-line : Reads [] (λ l. line_fits l ≡ true) line_text read_line
unfolding read_line line_kinds rule_line_text
reads-line =
    reads-one_of line_kinds (refuse 10) (
      reads-rule SNAND,
      (
        reads-rule SNOR,
        (
          reads-rule STN,
          (
            reads-rule EPRED,
            (
              reads-rule EPROP,
              (
                reads-rule IQ,
                (reads_at _ unsat (λ p. refl) (λ p. refl), (reads_at _ trivial (λ p. refl) (λ p. refl), (reads-split, (reads-footer, tt)))),
              ),
            ),
          ),
        ),
      ),
    )
    (reads-refuse 10)

pub reads-version : Reads [] (λ u. Unit {0}) (λ u. version_text) read_version
unfolding read_version
reads-version = reads_word 10 version_text

pub reads-grounder : Reads [] (λ g. is_grounder g ≡ true) grounder_text read_grounder
unfolding read_grounder
reads-grounder =
    reads_then (reads_word 10 (bytes "grounder=")) _ λ _ _.
    reads_then (reads-token is_printable 10 is_grounder) _ λ g h.
    reads_then (reads_word 10 (bytes "\n")) _ λ _ _.
    reads-give h.1 refl

-- The text of what fits is read as that.

module _ (least greatest : ℕ) where
  read_ranged_lem : (n : ℕ) → in_bounds least greatest n ≡ true → ReadsBack is_digit decimal (read_ranged least greatest) n
  unfolding read_ranged
  read_ranged_lem n fits u ends = rw (read_number_lem 10 n u ends, fits)

  each_ranged : (ns : List ℕ) → all_in_bounds least greatest ns ≡ true → Each (ReadsBack is_digit decimal (read_ranged least greatest)) ns
  each_ranged [] fits = tt
  each_ranged (n ∷ ns) fits = (read_ranged_lem n (and_left (in_bounds least greatest n) _ fits), each_ranged ns (and_right (in_bounds least greatest n) _ fits))

  -- one number or more, and behind them a byte that is none of theirs
  read_numbers : (n : ℕ) (ns : List ℕ) (u : Bytes) → all_in_bounds least greatest (n ∷ ns) ≡ true → is_digit (next u) ≡ false → eqb (next u) 44 ≡ false
      → separated 44 (read_ranged least greatest) (numbers_text (n ∷ ns) ++ u) ≡ done (n ∷ ns, u)
  read_numbers n ns u fits ends last = read_separated is_digit decimal (read_ranged least greatest) 44 refl u ends last n ns (each_ranged (n ∷ ns) fits)

-- a byte that could begin a path, and one that could belong to a position
abbrev opens : ℕ → Bool
opens b = eqb b 91

abbrev goes_on : ℕ → Bool
goes_on b = is_digit b || opens b

read_path_lem : (is : List ℕ) → all_in_bounds 0 greatest_path_number is ≡ true → ReadsBack opens path_text read_path is
unfolding read_path word
read_path_lem [] fits u ends = one_of-last (λ b. not (opens b)) _ (give []) u refl (ap not ends)
read_path_lem (i ∷ is) fits u ends =
    one_of-word (bytes "[") _ [] (give []) ((numbers_text (i ∷ is) ++ bytes "]") ++ u)
    ∙ rw (append_assoc (numbers_text (i ∷ is)), read_numbers 0 greatest_path_number i is (93 ∷ u) fits refl refl)

path-ends : (is : List ℕ) (u : Bytes) → is_digit (next u) ≡ false → is_digit (next (path_text is ++ u)) ≡ false
path-ends [] u ends = ends
path-ends (i ∷ is) u ends = refl

read_position_lem : (p : Position) → position_fits p ≡ true → ReadsBack goes_on position_text read_position p
unfolding read_position read_formula_name
read_position_lem p fits u ends =
    rw (
      append_assoc (decimal p.name) (path_text p.path) u,
      read_ranged_lem 1 greatest_name p.name (and_left (in_bounds 1 greatest_name p.name) _ fits) _ (path-ends p.path u (or_left (is_digit (next u)) _ ends)),
      read_path_lem p.path (and_right (in_bounds 1 greatest_name p.name) _ fits) u (or_right (is_digit (next u)) _ ends),
    )

read_at : (make : Position → RuleLine) (p : Position) (u : Bytes) → position_fits p ≡ true
    → at_position make ((position_text p ++ bytes "\n") ++ u) ≡ done (step (make p), u)
unfolding word
read_at make p u fits = rw (append_assoc (position_text p), read_position_lem p fits (10 ∷ u) refl)

-- the rule's word chooses the rule
read_rule : (r : Rule) (s : Bytes) → read_line (rule_text r ++ (bytes " @ " ++ s)) ≡ at_position (rewrite r) s
unfolding read_line line_kinds one_of
read_rule SNAND s = refl
read_rule SNOR s = refl
read_rule STN s = refl
read_rule EPRED s = refl
read_rule EPROP s = refl
read_rule IQ s = refl

read_split_lem : (p : Position) (names : List ℕ) (u : Bytes) → position_fits p ≡ true → new_names_fit names ≡ true
    → read_split ((position_text p ++ (bytes " -> " ++ (numbers_text names ++ bytes "\n"))) ++ u) ≡ done (step (splitc p names), u)
unfolding read_split read_formula_name word
read_split_lem p [] u fits new = absurd (false≢true new)
read_split_lem p (n ∷ ns) u fits new =
    rw (
      append_assoc (position_text p),
      read_position_lem p fits (bytes " -> " ++ ((numbers_text (n ∷ ns) ++ bytes "\n") ++ u)) refl,
      append_assoc (numbers_text (n ∷ ns)),
      read_numbers 1 greatest_name n ns (10 ∷ u) new refl refl,
    )

read_names : (names : List ℕ) (u : Bytes) → are_names names ≡ true
    → one_of (bytes "-" ⇒ give [] ∷ []) (separated 44 read_formula_name) (footer_text names ++ (10 ∷ u)) ≡ done (names, 10 ∷ u)
unfolding read_formula_name
read_names [] u fits = one_of-word (bytes "-") (give []) [] _ (10 ∷ u)
read_names (n ∷ ns) u fits =
    one_of-last is_digit _ (separated 44 (read_ranged 1 greatest_name)) _ refl
    (next-append is_digit (numbers_text (n ∷ ns)) _ refl (next-append is_digit (decimal n) _ refl (decimal-first n).0))
    ∙ read_numbers 1 greatest_name n ns (10 ∷ u) fits refl refl

read_footer_lem : (names : List ℕ) (u : Bytes) → are_names names ≡ true → read_footer ((footer_text names ++ bytes "\n") ++ u) ≡ done (footer names, u)
unfolding read_footer word
read_footer_lem names u fits = rw (append_assoc (footer_text names), read_names names u fits)

pub read_line_lem : (l : Line) (u : Bytes) → line_fits l ≡ true → read_line (line_text l ++ u) ≡ done (l, u)
unfolding line_text rule_line_text read_line line_kinds one_of
read_line_lem (step (rewrite r p)) u fits = rw (append_assoc (rule_text r)) (read_rule r _ ∙ read_at (rewrite r) p u fits)
read_line_lem (step (unsat p)) u fits = read_at unsat p u fits
read_line_lem (step (trivial p)) u fits = read_at trivial p u fits
read_line_lem (step (splitc p names)) u fits = read_split_lem p names u (and_left (position_fits p) _ fits) (and_right (position_fits p) _ fits)
read_line_lem (footer names) u fits = read_footer_lem names u fits

pub read_version_lem : (u : Bytes) → read_version (version_text ++ u) ≡ done (tt, u)
unfolding read_version
read_version_lem u = read_word 10 version_text u

pub read_grounder_lem : (g u : Bytes) → is_grounder g ≡ true → read_grounder (grounder_text g ++ u) ≡ done (g, u)
unfolding read_grounder word
read_grounder_lem g u fits =
    let printable = and_right (leb (length g) grounder_size) _ (and_right (leb 1 (length g)) _ fits) in
    rw (append_assoc g, read_token 10 is_printable is_grounder g printable fits (10 ∷ u) refl)
