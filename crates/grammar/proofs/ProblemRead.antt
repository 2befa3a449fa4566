-- The text of a valid problem is read as that problem: each line is read back by the laws of its parts, and adds its predicate or its rows to
-- those before it, which fit as the whole is valid. By induction over the inputs, and then the outputs, that are still to come. So just the valid
-- problems are read, each from its own text.
-- Assumes nothing.
use Prim.Native.Nat.{ℕ, suc, zero, ◌+◌, ◌-◌, ◌≤◌, ◌<◌}
use native.Mathlib.Omega.{arith}
use mathlib.Core.Path.{◌≡◌, refl, ap, ap₂, ◌∙◌}
use mathlib.Core.Logic.{◌↔◌}
use mathlib.Core.List.{List, [], ◌∷◌, ◌++◌, flat_map, append-nil, append_assoc, map, map-append}
use mathlib.Core.Bool.{Bool, true, false, not, cond, ◌&&◌, ◌||◌, false≢true}
use lib.Dec.{eqb, eqb-suc-zero}
use lib.ListN.{length, length-append}
use lib.Seq.{append_snoc}
use borrow.Author.Tests.{leb-true, le-leb, lt-leb, lt-ltb, ne_eqb}
use Rattle.grammar.specs.Sizes.{domain_size, predicate_count, greatest_arity, name_size, tuple_count}
use Rattle.grammar.specs.Bytes.{Bytes, next, is_digit, is_capital, is_letter_or_digit}
use Rattle.grammar.specs.Numbers.{decimal}
use Rattle.grammar.specs.Outcome.{done}
use Rattle.grammar.specs.Reading.{give, require, ◌>>=◌, ◌>>◌, word, read_number, one_of, separated}
use Rattle.grammar.specs.Lines.{is_lf, read_lines}
use Rattle.grammar.specs.Problem.{Row, Predicate, Input, Problem, tuples, predicates, named, is_name, predicate_fits, row_fits, rows_fit, ascending, tuple_total, rows_for}
use Rattle.grammar.specs.Problem.{read_name, read_domain, read_predicate, read_tuples, read_relation}
use Rattle.grammar.specs.Problem.{Part, start, declaring, awaiting, closing, with_input, with_output, read_input, read_output, problem_line, whole_problem, problem_of}
use Rattle.grammar.specs.ProblemText.{domain_text, predicate_text, row_text, tuples_text, rows_text, relation_of, declaration_text, input_text, output_text, problem_text}
use Rattle.grammar.specs.Each.{Each}
use Rattle.grammar.specs.Valid.{occurrences, Small, Declares, Tabled, Valid}
use Rattle.grammar.proofs.Laws.{and_left, and_right, or_left, or_right, same_refl}
use Rattle.grammar.proofs.Numbers.{decimal-first}
use Rattle.grammar.proofs.Lines.{read_lines-step, read_lines-end}
use Rattle.grammar.proofs.Reading.{ReadsBack, read_token, read_number_lem, read_separated, one_of-last, next-append}
use Rattle.grammar.proofs.Outcome.{allowed_done}
use Rattle.grammar.proofs.Problem.{occurrences-append, named-occurrences, tuple_total-append}
use Rattle.grammar.proofs.ProblemText.{problem_of-reads}

-- a problem of these parts
abbrev problem : ℕ → List Input → List Predicate → Problem
problem n is qs = record { domain = n; inputs = is; outputs = qs }

-- The first line, and the parts of the others.

read_domain_lem : (n : ℕ) (u : Bytes) → 1 ≤ n → n ≤ 64 → problem_line start (domain_text n ++ u) ≡ done (declaring (problem n [] []), u)
unfolding problem_line read_domain domain_text domain_size word
read_domain_lem n u least greatest = rw (append_assoc (decimal n), read_number_lem 3 n (10 ∷ u) refl, le-leb 1 n least, le-leb n 64 greatest)

read_predicate_lem : (q : Predicate) (u : Bytes) → is_name q.name ≡ true → read_predicate (predicate_text q ++ u) ≡ done (q, u)
unfolding read_predicate read_name word
read_predicate_lem q u spelled =
    rw (
      append_assoc q.name,
      read_token 3 is_letter_or_digit is_name q.name (and_right (is_capital (next q.name)) _ spelled) spelled _ refl,
      append_assoc (decimal q.arity),
      read_number_lem 3 q.arity (10 ∷ u) refl,
    )

-- a byte that could belong to a row
abbrev goes_on : ℕ → Bool
goes_on b = is_digit b || eqb b 46

each_number : (row : Row) → Each (ReadsBack is_digit decimal (read_number 3)) row
each_number [] = tt
each_number (v ∷ row) = (read_number_lem 3 v, each_number row)

module _ (n arity : ℕ) where
  read_row : (row : Row) → row_fits n (suc arity) row ≡ true → ReadsBack goes_on row_text (separated 46 (read_number 3)) row
  read_row [] fits u ends = absurd (false≢true fits)
  read_row (v ∷ row) fits u ends =
      read_separated is_digit decimal (read_number 3) 46 refl u (or_left (is_digit (next u)) _ ends) (or_right (is_digit (next u)) _ ends) v row (each_number (v ∷ row))

  each_row : (rows : List Row) → rows_fit n (suc arity) rows ≡ true → Each (ReadsBack goes_on row_text (separated 46 (read_number 3))) rows
  each_row [] fit = tt
  each_row (row ∷ rows) fit = (read_row row (and_left _ _ fit), each_row rows (and_right (row_fits n (suc arity) row) _ fit))

digit_not_LF : (b : ℕ) → is_digit b ≡ true → is_lf b ≡ false
digit_not_LF b digit = ne_eqb b 10 (omega (arith, leb-true 48 b (and_left _ _ digit)))

-- tuples begin with a digit, and so with neither truth value nor the line's end
read_tuples_lem : (n arity : ℕ) (row : Row) (rows : List Row) (u : Bytes) → rows_fit n (suc arity) (row ∷ rows) ≡ true
    → read_relation (rows_text (tuples (row ∷ rows)) ++ u) ≡ done (tuples (row ∷ rows), u)
unfolding read_relation read_tuples word
read_tuples_lem n arity [] rows u fit = absurd (false≢true fit)
read_tuples_lem n arity (v ∷ row) rows u fit =
    let first : is_digit (next (tuples_text ((v ∷ row) ∷ rows) ++ (10 ∷ u))) ≡ true = simp append_assoc (next-append is_digit (decimal v) _ refl (decimal-first v).0) in
    rw (
      append_assoc (tuples_text ((v ∷ row) ∷ rows)),
      one_of-last is_digit _ _ _ refl first,
      digit_not_LF _ first,
      read_separated goes_on row_text (separated 46 (read_number 3)) 44 refl (10 ∷ u) refl refl (v ∷ row) rows (each_row n arity ((v ∷ row) ∷ rows) fit),
    )

read_relation_lem : (n arity : ℕ) (rows : List Row) (u : Bytes) → rows_fit n arity rows ≡ true
    → read_relation (rows_text (relation_of arity rows) ++ u) ≡ done (relation_of arity rows, u)
unfolding read_relation read_tuples word one_of
read_relation_lem n zero [] u fit = refl
read_relation_lem n zero (row ∷ rows) u fit = refl
read_relation_lem n (suc arity) [] u fit = refl
read_relation_lem n (suc arity) (row ∷ rows) u fit = read_tuples_lem n arity row rows u fit

-- What fits as the whole is valid.

each_at_lem : {A : Type 0} (Q : A → Type 0) (before : List A) (a : A) (after : List A) → Each Q (before ++ (a ∷ after)) → Q a
each_at_lem Q [] a after each = each.0
each_at_lem Q (b ∷ before) a after each = each_at_lem Q before a after each.1

-- a predicate, after those before it
module _ (P : Problem) (q : Predicate) (after : List Predicate) (together : Declares (predicates P ++ (q ∷ after))) where
  small-after : Small q
  small-after = each_at_lem Small (predicates P) q after together.small

  new_after : named (predicates P) q.name ≡ false
  new_after =
      rw named-occurrences
      (lt-leb 1 (occurrences (predicates P) q.name) (omega (arith, rw (occurrences-append, same_refl q.name) at (together.once q.name))))

  fits_after : predicate_fits P q ≡ true
  unfolding greatest_arity name_size predicate_count
  fits_after =
      ap₂ ◌&&◌ (le-leb _ _ small-after.few) (ap₂ ◌&&◌ (le-leb _ _ small-after.short)
      (ap₂ ◌&&◌ (ap not new_after) (lt-ltb (length (predicates P)) 32 (omega (arith, length-append (predicates P) (q ∷ after))))))

  -- as it is read for an input and for an output
  read_after : (part : Predicate → Part) (u : Bytes)
      → (do q ← read_predicate; require 4 (predicate_fits P q); give (part q)) (predicate_text q ++ u) ≡ done (part q, u)
  read_after part u = rw (read_predicate_lem q u small-after.spelled, fits_after)

-- an input's rows, after the inputs before it
module _ (P : Problem) where
  -- of arity 0 there are none, or the empty one alone
  rows-after : (arity : ℕ) (rows : List Row) → rows_fit P.domain arity rows ≡ true → ascending rows ≡ true
      → tuple_total P.inputs + cond (eqb arity 0) 0 (length rows) ≤ 1024 → rows_for P arity (relation_of arity rows) ≡ done rows
  unfolding tuple_count
  rows-after zero [] fit ordered total = refl
  rows-after zero ([] ∷ []) fit ordered total = refl
  rows-after zero ([] ∷ other ∷ rows) fit ordered total = absurd (false≢true ordered)
  rows-after zero ((v ∷ row) ∷ rows) fit ordered total = absurd (false≢true fit)
  rows-after (suc arity) rows fit ordered total =
      rw (fit, ordered, le-leb (tuple_total P.inputs + length rows) 1024 (omega (arith, rw eqb-suc-zero at total)))

  read_rows_lem : (i : Input) (after : List Input) (u : Bytes) → Tabled P.domain i → tuple_total (P.inputs ++ (i ∷ after)) ≤ 1024
      → problem_line (awaiting P i.predicate) (rows_text (relation_of i.predicate.arity i.rows) ++ u)
      ≡ done (declaring (with_input P i.predicate i.rows), u)
  unfolding problem_line
  read_rows_lem i after u table total =
      rw (
        read_relation_lem P.domain i.predicate.arity i.rows u table.fit,
        rows-after i.predicate.arity i.rows table.fit table.ordered (omega (arith, tuple_total-append P.inputs (i ∷ after))),
      )

-- Line by line.

-- the lines of a text lead from a part to a problem
record Leads (part : Part) (s : Bytes) (P : Problem) : Type 0 where
  reads : (most k : ℕ) → length s ≤ most → read_lines 1 problem_line whole_problem most k part s ≡ done P

-- a line, which is not empty, before others
leads_line : {part after : Part} {s : Bytes} {P : Problem} (line : Bytes) → 0 < length line → problem_line part (line ++ s) ≡ done (after, s)
    → Leads after s P → Leads part (line ++ s) P
leads_line {part} {s = s} line some e others =
    record {
      reads = λ most k h.
          let h = simp length-append at h in
          rw (read_lines-step 1 problem_line whole_problem most k part (line ++ s) (omega arith) (simp length-append (omega arith)), e)
          (others.reads (most - 1) (k + 1) (omega arith));
    }

module _ (n : ℕ) (is : List Input) where
  leads_outputs : (before after : List Predicate) → Declares (predicates (problem n is (before ++ after)))
      → Leads (closing (problem n is before)) (flat_map output_text after) (problem n is (before ++ after))
  unfolding problem_line read_output output_text flat_map word
  leads_outputs before [] together =
      record { reads = λ most k h. rw (read_lines-end 1 problem_line whole_problem most k (closing (problem n is before)), append-nil before) }
  leads_outputs before (q ∷ after) together =
      let P : Problem = problem n is before in
      leads_line (output_text q) (omega arith) (read_after P q after (rw append_assoc together) (λ q. closing (with_output P q)) (flat_map output_text after))
      (rw append_snoc at (leads_outputs (before ++ (q ∷ [])) after (rw append_snoc together)))

  -- where inputs may follow too, outputs are read as where they may not
  declaring-closing : (qs : List Predicate) (most k : ℕ)
      → read_lines 1 problem_line whole_problem most k (declaring (problem n is [])) (flat_map output_text qs)
      ≡ read_lines 1 problem_line whole_problem most k (closing (problem n is [])) (flat_map output_text qs)
  unfolding problem_line output_text flat_map one_of read_lines
  declaring-closing qs zero k = refl
  declaring-closing [] (suc most) k = refl
  declaring-closing (q ∷ qs) (suc most) k = refl

module _ (n : ℕ) (outs : List Predicate) where
  leads_inputs : (before after : List Input) → Valid (problem n (before ++ after) outs)
      → Leads (declaring (problem n before [])) (flat_map input_text after ++ flat_map output_text outs) (problem n (before ++ after) outs)
  unfolding problem_line read_input declaration_text input_text flat_map word one_of tuple_count
  leads_inputs before [] valid =
      let others = leads_outputs n before [] outs (rw append-nil at valid.declares) in
      record { reads = λ most k h. rw append-nil (declaring-closing n before outs most k ∙ others.reads most k h) }
  leads_inputs before (i ∷ after) valid =
      let P : Problem = problem n before [] in
      let q : Predicate = i.predicate in
      let rest : Bytes = flat_map input_text after ++ flat_map output_text outs in
      let rows : Bytes = rows_text (relation_of q.arity i.rows) in
      rw (append_assoc, append_assoc)
      (leads_line (declaration_text q) (omega arith)
      (read_after P q (map (λ i. i.predicate) after ++ outs) (simp append_assoc (simp (map-append, append_assoc) at valid.declares)) (awaiting P) (rows ++ rest))
      (leads_line rows (omega arith) (read_rows_lem P i after rest (each_at_lem (Tabled n) before i after valid.tabled) valid.total)
      (rw append_snoc at (leads_inputs (before ++ (i ∷ [])) after (rw append_snoc valid)))))

-- the text of a valid problem is read as that problem
read_problem_lem : (P : Problem) → Valid P → problem_of (problem_text P) ≡ done P
unfolding problem_of problem_text domain_text domain_size
read_problem_lem P valid =
    (leads_line (domain_text P.domain) (omega arith) (read_domain_lem P.domain _ valid.least valid.greatest)
    (leads_inputs P.domain P.outputs [] P.inputs valid)).reads _ 1 (omega arith)

pub problem_of_exactly : (text : Bytes) (P : Problem) → (problem_of text ≡ done P) ↔ (Valid P × (text ≡ problem_text P))
problem_of_exactly text P = (allowed_done _ (problem_of text) P (problem_of-reads text), λ (valid, e). rw e (read_problem_lem P valid))
