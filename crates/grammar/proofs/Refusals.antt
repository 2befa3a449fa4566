-- Which numbers, files and lines a text is refused with: a law for each way to make a reader, and every reader by a search through these laws.
-- "Only with 3 or 4" is said so: what holds of 3 and of 4 holds of each number refused with.
-- Assumes nothing.
use Prim.Native.Nat.{ℕ, suc, zero, ◌≤◌}
use native.Mathlib.Omega.{arith}
use mathlib.Core.Path.{◌≡◌, refl}
use mathlib.Core.List.{List, [], ◌∷◌}
use mathlib.Core.Bool.{Bool, true, false, cond}
use lib.Dec.{eqb}
use lib.ListN.{length, drop}
use Rattle.grammar.specs.Bytes.{Bytes, next, begins, is_digit}
use Rattle.grammar.specs.Numbers.{is_number, value}
use Rattle.grammar.specs.Outcome.{Outcome, done, refused, mapped, provided, ◌>>=◌}
use Rattle.grammar.specs.Reading.{Reading, give, refuse, judge, word, token, read_number, ◌⇒◌, one_of, further, separated}
use Rattle.grammar.specs.Reading as reading
use Rattle.grammar.specs.Lines.{Refusal, on_line, read_lines, read_text}
use Rattle.grammar.specs.Problem.{Problem, read_name, Relation, truth_value, tuples, read_domain, read_predicate, read_tuples, read_relation, rows_for}
use Rattle.grammar.specs.Problem.{Part, start, declaring, awaiting, closing, read_output, read_input, problem_line, whole_problem, problem_of}
use Rattle.grammar.specs.Derivation.{Position, RuleLine, read_ranged, read_formula_name, read_path, read_position, at_position, read_split, read_footer}
use Rattle.grammar.specs.Derivation.{line_kinds, read_line, read_version, read_grounder}

-- what an outcome is refused with meets N; a data type, so that the laws read the outcome off its type
pub data Refuses {E A : Type 0} (N : E → Type 0) : Outcome E A → Type 0 where
  never : (a : A) → Refuses N (done a)
  only : {e : E} → N e → Refuses N (refused e)

module _ {E : Type 0} {N : E → Type 0} where
  pub refuses-bind : {A B : Type 0} {o : Outcome E A} {k : A → Outcome E B} → Refuses N o → ((a : A) → Refuses N (k a)) → Refuses N (o >>= k)
  refuses-bind (never a) h = h a
  refuses-bind (only n) h = only n

  pub refuses-mapped : {A B : Type 0} (f : A → B) {o : Outcome E A} → Refuses N o → Refuses N (mapped f o)
  refuses-mapped f (never a) = never (f a)
  refuses-mapped f (only n) = only n

  pub refuses-provided : (b : Bool) (e : E) → N e → Refuses N (provided b e)
  refuses-provided true e n = never tt
  refuses-provided false e n = only n

  pub refuses_cond : {A : Type 0} (b : Bool) {o q : Outcome E A} → Refuses N o → Refuses N q → Refuses N (cond b o q)
  refuses_cond true h k = h
  refuses_cond false h k = k

  pub refuses_weaken : {A : Type 0} {W : E → Type 0} {o : Outcome E A} → ((e : E) → N e → W e) → Refuses N o → Refuses W o
  refuses_weaken k (never a) = never a
  refuses_weaken k (only n) = only (k _ n)

-- what a search through outcomes goes by; and below, through readers
pub ruleset outcomes = (never, only, refuses-bind, refuses-mapped, refuses-provided, refuses_cond)

-- Readers, on every text; alternatives, each of them.

abbrev pub OnlyRefuses : {A : Type 0} → (ℕ → Type 0) → Reading A → Type 0
OnlyRefuses N r = (s : Bytes) → Refuses N (r s)

pub data EachRefuses {A : Type 0} (N : ℕ → Type 0) : List (Bytes × Reading A) → Type 0 where
  no_alternative : EachRefuses N []
  alternative : {w : Bytes} {r : Reading A} {rest : List (Bytes × Reading A)} → OnlyRefuses N r → EachRefuses N rest → EachRefuses N (w ⇒ r ∷ rest)

module _ {N : ℕ → Type 0} where
  pub only_give : {A : Type 0} (a : A) → OnlyRefuses N (give a)
  only_give a s = never (a, s)

  pub only_refuse : {A : Type 0} (number : ℕ) → N number → OnlyRefuses N (refuse {A = A} number)
  only_refuse number n s = only n

  pub only_bind : {A B : Type 0} {r : Reading A} {k : A → Reading B} → OnlyRefuses N r → ((a : A) → OnlyRefuses N (k a)) → OnlyRefuses N (reading.◌>>=◌ r k)
  only_bind h q s = refuses-bind (h s) (λ p. q p.0 p.1)

  pub only_judge : {A : Type 0} {o : Outcome ℕ A} → Refuses N o → OnlyRefuses N (judge o)
  only_judge h s = refuses-mapped _ h

  pub only_word : (number : ℕ) (w : Bytes) → N number → OnlyRefuses N (word number w)
  unfolding word
  only_word number w n s = refuses-mapped _ (refuses-provided (begins w s) number n)

  pub only_token : (number : ℕ) (class : ℕ → Bool) (test : Bytes → Bool) → N number → OnlyRefuses N (token number class test)
  unfolding token
  only_token number class test n s = search outcomes

  pub only_number : (number : ℕ) → N number → OnlyRefuses N (read_number number)
  unfolding read_number
  only_number number n = only_bind (only_token number is_digit is_number n) (λ ds. only_give (value ds))

  -- one reader or the other, by what the text begins with
  pub only_cond : {A : Type 0} (b : Bytes → Bool) {r q : Reading A} → OnlyRefuses N r → OnlyRefuses N q → OnlyRefuses N (λ s. cond (b s) r q s)
  only_cond b {r} {q} h k s = pick (b s)
    where
      pick : (c : Bool) → Refuses N (cond c r q s)
      pick true = h s
      pick false = k s

  pub only_one_of : {A : Type 0} {alternatives : List (Bytes × Reading A)} {r : Reading A}
      → EachRefuses N alternatives → OnlyRefuses N r → OnlyRefuses N (one_of alternatives r)
  unfolding one_of
  only_one_of no_alternative k = k
  only_one_of (alternative {w} h hs) k = only_cond (begins w) (λ s. h (drop (length w) s)) (only_one_of hs k)

  only_further : {A : Type 0} (separator : ℕ) {item : Reading A} → OnlyRefuses N item → (most : ℕ) → OnlyRefuses N (further separator item most)
  unfolding further
  only_further separator h zero = only_give []
  only_further separator h (suc most) =
      only_cond (λ s. eqb (next s) separator)
      (λ s. only_bind h (λ a. only_bind (only_further separator h most) (λ rest. only_give (a ∷ rest))) (drop 1 s)) (only_give [])

  pub only_separated : {A : Type 0} (separator : ℕ) {item : Reading A} → OnlyRefuses N item → OnlyRefuses N (separated separator item)
  unfolding separated
  only_separated separator h = only_bind h (λ a. only_bind (λ s. only_further separator h (length s) s) (λ rest. only_give (a ∷ rest)))

pub ruleset alternatives = (only_one_of, no_alternative, alternative)

pub ruleset readers = (only_give, only_refuse, only_bind, only_judge, refuses-provided, only_word, only_token, only_number, only_cond, alternatives, only_separated)

-- Texts read line by line.

-- such a number, of that file, at that line or a later one
pub record From (file line : ℕ) (N : ℕ → Type 0) (r : Refusal) : Type 0 where
  pub numbered : N r.number
  pub filed : r.file ≡ file
  pub lined : line ≤ r.line

module _ {N : ℕ → Type 0} {S A : Type 0} (file : ℕ) {line : S → Reading S} {finish : S → Outcome ℕ A}
    (each : (state : S) → OnlyRefuses N (line state)) (end : (state : S) → Refuses N (finish state)) where
  on_line-refuses : {B : Type 0} {o : Outcome ℕ B} (k : ℕ) → 1 ≤ k → Refuses N o → Refuses (From file 1 N) (on_line file k o)
  on_line-refuses k h (never a) = never a
  on_line-refuses k h (only n) = only (record { numbered = n; filed = refl; lined = h })

  read_lines-refuses : (most k : ℕ) → 1 ≤ k → (state : S) (s : Bytes) → Refuses (From file 1 N) (read_lines file line finish most k state s)
  unfolding read_lines
  read_lines-refuses zero k h state s = on_line-refuses k h (end state)
  read_lines-refuses (suc most) k h state [] = on_line-refuses k h (end state)
  read_lines-refuses (suc most) k h state (b ∷ s) =
      refuses-bind (on_line-refuses k h (each state (b ∷ s))) (λ p. read_lines-refuses most (suc k) (omega arith) p.0 p.1)

  pub read_text-refuses : (state : S) (s : Bytes) → Refuses (From file 1 N) (read_text file line finish state s)
  read_text-refuses state s = read_lines-refuses (length s) 1 (omega arith) state s

-- The problem: 3 for its spelling, 4 for its values.

module _ {N : ℕ → Type 0} (misspelt : N 3) (unfitting : N 4) where
  read_predicate-refuses : OnlyRefuses N read_predicate
  unfolding read_predicate read_name
  read_predicate-refuses = search readers

  read_tuples-refuses : OnlyRefuses N read_tuples
  unfolding read_tuples
  read_tuples-refuses = search readers

  read_relation-refuses : OnlyRefuses N read_relation
  unfolding read_relation
  read_relation-refuses = search (readers, read_tuples-refuses) depth 8

  rows_for-refuses : (P : Problem) (arity : ℕ) (r : Relation) → Refuses N (rows_for P arity r)
  rows_for-refuses P zero (truth_value b) = never _
  rows_for-refuses P zero (tuples rows) = only unfitting
  rows_for-refuses P (suc arity) (truth_value b) = only unfitting
  rows_for-refuses P (suc arity) (tuples rows) = search outcomes

  read_output-refuses : (P : Problem) → OnlyRefuses N (read_output P)
  unfolding read_output
  read_output-refuses P = search (readers, read_predicate-refuses)

  pub problem_line-refuses : (part : Part) → OnlyRefuses N (problem_line part)
  unfolding problem_line read_domain read_input
  problem_line-refuses start = search readers depth 8
  problem_line-refuses (declaring P) = search (readers, read_predicate-refuses, read_output-refuses) depth 8
  problem_line-refuses (awaiting P q) = search (readers, read_relation-refuses, rows_for-refuses)
  problem_line-refuses (closing P) = read_output-refuses P

  whole_problem-refuses : (part : Part) → Refuses N (whole_problem part)
  whole_problem-refuses start = only misspelt
  whole_problem-refuses (declaring P) = never P
  whole_problem-refuses (awaiting P q) = only misspelt
  whole_problem-refuses (closing P) = never P

  pub problem_of-refuses : (s : Bytes) → Refuses (From 1 1 N) (problem_of s)
  unfolding problem_of
  problem_of-refuses s = read_text-refuses 1 problem_line-refuses whole_problem-refuses start s

-- The lines of a derivation: 10.

module _ {N : ℕ → Type 0} (malformed : N 10) where
  read_ranged-refuses : (least greatest : ℕ) → OnlyRefuses N (read_ranged least greatest)
  unfolding read_ranged
  read_ranged-refuses least greatest = search readers

  read_position-refuses : OnlyRefuses N read_position
  unfolding read_position read_path read_formula_name
  read_position-refuses = search (readers, read_ranged-refuses) depth 8

  at_position-refuses : (make : Position → RuleLine) → OnlyRefuses N (at_position make)
  at_position-refuses make = search (readers, read_position-refuses)

  read_split-refuses : OnlyRefuses N read_split
  unfolding read_split read_formula_name
  read_split-refuses = search (readers, read_ranged-refuses, read_position-refuses) depth 8

  read_footer-refuses : OnlyRefuses N read_footer
  unfolding read_footer read_formula_name
  read_footer-refuses = search (readers, read_ranged-refuses)

  pub read_line-refuses : OnlyRefuses N read_line
  unfolding read_line line_kinds
  read_line-refuses = search (readers, at_position-refuses, read_split-refuses, read_footer-refuses) depth 16

  pub read_version-refuses : OnlyRefuses N read_version
  unfolding read_version
  read_version-refuses = search readers

  pub read_grounder-refuses : OnlyRefuses N read_grounder
  unfolding read_grounder
  read_grounder-refuses = search readers
