-- A problem that is read is valid and has one text, that which it was read from: every line keeps what is read so far valid, and adds
-- its own text, by the laws of the readers that it is made of.
-- Assumes nothing.
use Prim.Native.Nat.{ℕ, suc, zero, ◌<◌}
use native.Mathlib.Omega.{arith}
use mathlib.Core.Path.{◌≡◌, refl, sym, ◌∙◌}
use mathlib.Core.List.{List, [], ◌∷◌, ◌++◌, flat_map, append-nil, append_assoc}
use mathlib.Core.Bool.{true, false}
use lib.ListN.{length, length-append}
use Rattle.grammar.specs.Bytes.{Bytes, bytes, next, is_letter_or_digit}
use Rattle.grammar.specs.Outcome.{Outcome, done, refused, provided}
use Rattle.grammar.specs.Reading.{give, judge}
use Rattle.grammar.specs.Lines.{is_lf}
use Rattle.grammar.specs.Problem.{Row, Predicate, Problem, Relation, truth_value, tuples, with_input, with_output}
use Rattle.grammar.specs.Problem.{is_name, domain_fits, predicate_fits, tuples_fit, rows_for, read_name, read_domain, read_predicate, read_tuples, read_relation}
use Rattle.grammar.specs.ProblemText.{domain_text, predicate_text, tuples_text, relation_text, rows_text, relation_of, declaration_text, input_text, output_text, problem_text}
use Rattle.grammar.specs.Problem.{Part, start, declaring, awaiting, closing, read_input, read_output, problem_line, whole_problem, problem_of}
use Rattle.grammar.specs.Valid.{Valid}
use Rattle.grammar.proofs.Outcome.{Allowed, allowed_mapped, allowed_weaken, allowed_done, allowed_any}
use Rattle.grammar.proofs.Lines.{read_text-reads}
use Rattle.grammar.proofs.Problem.{valid_domain, valid_input, valid_output}
use Rattle.grammar.proofs.Reading.{Reads, reads-give, reads_then, reads_weaken, reads_cond}
use Rattle.grammar.proofs.Reading.{reads-require, reads_word, reads-token, reads-number, reads-one_of, reads-separated}

-- The readers of a line's parts.

reads-domain : Reads [] (λ n. Unit {0}) domain_text read_domain
unfolding read_domain domain_text
reads-domain = reads_then (reads_word 3 _) _ λ _ _. reads_then (reads-number 3) _ λ n _. reads_then (reads_word 3 _) _ λ _ _. reads-give tt refl

reads-predicate : Reads [] (λ q. is_name q.name ≡ true) predicate_text read_predicate
unfolding read_predicate read_name
reads-predicate =
    reads_then (reads-token is_letter_or_digit 3 is_name) _ λ p spelled. reads_then (reads_word 3 _) _ λ _ _. reads_then (reads-number 3) _ λ k _.
    reads_then (reads_word 3 _) _ λ _ _. reads-give spelled.1 (simp append_assoc)

reads-tuples : Reads [] (λ rows. Unit {0}) tuples_text read_tuples
unfolding read_tuples
reads-tuples =
    reads_cond (λ s. is_lf (next s)) (reads-give tt refl)
    (reads_weaken (reads-separated (reads-separated (reads-number 3) 46 (omega arith)) 44 (omega arith)) (λ rows _. (tt, refl)))

reads-relation : Reads [] (λ r. Unit {0}) rows_text read_relation
unfolding read_relation
reads-relation =
    reads_then (reads_word 3 _) _ λ _ _.
    reads_then {Part = λ r. Unit {0}} {part_text = relation_text}
    (reads-one_of _ _ (reads-give tt refl, (reads-give tt refl, tt)) (reads_then reads-tuples _ λ rows _. reads-give tt refl)) _ λ r _.
    reads_then (reads_word 3 _) _ λ _ _. reads-give tt refl

-- Each line adds its text.

flat_map_snoc : {A : Type 0} (text : A → Bytes) (before : List A) (a : A) → flat_map text (before ++ (a ∷ [])) ≡ flat_map text before ++ text a
unfolding flat_map
flat_map_snoc text [] a = append-nil (text a)
flat_map_snoc text (b ∷ before) a = rw (flat_map_snoc text before a, append_assoc)

problem_text-domain : (n : ℕ) → problem_text (record { domain = n; inputs = []; outputs = [] }) ≡ domain_text n
unfolding problem_text flat_map
problem_text-domain n = append-nil (domain_text n)

module _ (P : Problem) (q : Predicate) where
  problem_text_input : (rows : List Row) → P.outputs ≡ []
      → problem_text (with_input P q rows) ≡ (problem_text P ++ declaration_text q) ++ rows_text (relation_of q.arity rows)
  unfolding problem_text flat_map input_text
  problem_text_input rows none = rw (none, flat_map_snoc) (simp (append_assoc, append-nil))

  problem_text-output : problem_text (with_output P q) ≡ problem_text P ++ output_text q
  unfolding problem_text
  problem_text-output = rw flat_map_snoc (simp append_assoc)

-- The lines.

rows_written : (P : Problem) (arity : ℕ) (r : Relation) → Allowed (λ rows. relation_of arity rows ≡ r) (rows_for P arity r)
rows_written P zero (truth_value true) = refl
rows_written P zero (truth_value false) = refl
rows_written P zero (tuples rows) = tt
rows_written P (suc arity) (truth_value b) = tt
rows_written P (suc arity) (tuples rows) =
    let fits : Outcome ℕ (Unit {0}) = provided (tuples_fit P (suc arity) rows) 4 in allowed_mapped _ _ _ (λ u e. refl) fits (allowed_any fits)

reads-judge : {A : Type 0} (o : Outcome ℕ A) → Reads [] (λ a. o ≡ done a) (λ a. []) (judge o)
reads-judge (done a) = record { sound = λ s. (refl, refl) }
reads-judge (refused number) = record { sound = λ s. tt }

-- what is read so far is valid, with no outputs before the inputs are all read
abbrev Fine : Part → Type 0
Fine start = Unit {0}
Fine (declaring P) = Valid P × (P.outputs ≡ [])
Fine (awaiting P q) = Valid P × (P.outputs ≡ []) × (is_name q.name ≡ true) × (predicate_fits P q ≡ true)
Fine (closing P) = Valid P

-- and its text
abbrev part_text : Part → Bytes
part_text start = []
part_text (declaring P) = problem_text P
part_text (awaiting P q) = problem_text P ++ declaration_text q
part_text (closing P) = problem_text P

abbrev Grown : Bytes → Part → Type 0
Grown before part = Fine part × (length before < length (part_text part))

-- the end of a line, which is not empty
gives : {gone : Bytes} (before : Bytes) (part : Part) (b : ℕ) (line : Bytes) → Fine part
    → part_text part ≡ before ++ (b ∷ line) → gone ≡ before ++ (b ∷ line) → Reads gone (Grown before) part_text (give part)
gives before part b line fine e h = reads-give (fine, rw (e, length-append) (omega arith)) (h ∙ sym e)

module _ (P : Problem) (valid : Valid P) where
  reads-output : Reads (problem_text P) (Grown (problem_text P)) part_text (read_output P)
  unfolding read_output output_text
  reads-output =
      reads_then (reads_word 3 _) _ λ _ _. reads_then reads-predicate _ λ q spelled. reads_then (reads-require 4 _) _ λ _ fits.
      gives (problem_text P) (closing (with_output P q)) _ _ (valid_output P valid q spelled fits)
      (problem_text-output P q) (simp (append_assoc, append-nil))

  reads_input : P.outputs ≡ [] → Reads (problem_text P ++ bytes "input=") (Grown (problem_text P)) part_text (read_input P)
  unfolding read_input declaration_text
  reads_input none =
      reads_then reads-predicate _ λ q spelled. reads_then (reads-require 4 _) _ λ _ fits.
      gives (problem_text P) (awaiting P q) _ _ (valid, none, spelled, fits) refl (simp (append_assoc, append-nil))

problem_line-reads : (part : Part) → Fine part → Reads (part_text part) (Grown (part_text part)) part_text (problem_line part)
unfolding problem_line domain_text
problem_line-reads start fine =
    reads_then reads-domain _ λ n _. reads_then (reads-require 4 (domain_fits n)) _ λ _ fits.
    gives [] (declaring (record { domain = n; inputs = []; outputs = [] })) _ _ (valid_domain n fits, refl)
    (problem_text-domain n) (append-nil (domain_text n))
problem_line-reads (declaring P) fine = reads-one_of _ _ (reads_input P fine.0 fine.1, tt) (reads-output P fine.0)
problem_line-reads (awaiting P q) fine =
    reads_then reads-relation _ λ r _. reads_then (reads-judge (rows_for P q.arity r)) _ λ rows e.
    gives (part_text (awaiting P q)) (declaring (with_input P q rows)) _ _ (valid_input P fine.0 q fine.2 fine.3 r rows e, fine.1)
    (rw (allowed_done _ _ rows (rows_written P q.arity r) e) at (problem_text_input P q rows fine.1)) (append-nil _)
problem_line-reads (closing P) fine = reads-output P fine

whole_problem-reads : (part : Part) → Fine part → Allowed (λ P. Valid P × (part_text part ≡ problem_text P)) (whole_problem part)
whole_problem-reads start fine = tt
whole_problem-reads (declaring P) fine = (fine.0, refl)
whole_problem-reads (awaiting P q) fine = tt
whole_problem-reads (closing P) fine = (fine, refl)

-- a problem that is read is valid, and its text is what it was read from
pub problem_of-reads : (s : Bytes) → Allowed (λ P. Valid P × (s ≡ problem_text P)) (problem_of s)
unfolding problem_of
problem_of-reads s =
    read_text-reads 1 problem_line whole_problem Fine part_text (λ s P. Valid P × (s ≡ problem_text P)) problem_line-reads whole_problem-reads start s tt

pub problem_of_valid : (s : Bytes) → Allowed Valid (problem_of s)
problem_of_valid s = allowed_weaken _ Valid (λ P h. h.0) (problem_of s) (problem_of-reads s)
