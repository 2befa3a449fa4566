-- The problem: domain, input predicates with their rows, output predicates; and its reading, with numbers 3 and 4.
use Rattle.std.specs.Prelude.{ℕ, suc, zero, ◌+◌, List, [], ◌∷◌, ◌++◌, map, Bool, true, false, cond, not, ◌&&◌, ◌||◌, eqb, leb, ltb, length}
use Rattle.grammar.specs.Sizes.{domain_size, predicate_count, greatest_arity, name_size, tuple_count}
use Rattle.grammar.specs.Bytes.{Bytes, bytes, next, same, member, every, is_capital, is_letter_or_digit}
use Rattle.grammar.specs.Outcome.{Outcome, done, refused, mapped, provided}
use Rattle.grammar.specs.Reading.{Reading, give, judge, require, ◌>>=◌, ◌>>◌, word, token, read_number, ◌⇒◌, one_of, separated}
use Rattle.grammar.specs.Lines.{Judged, is_lf, read_text}

abbrev pub Name : Type 0
Name = Bytes

-- a tuple of elements
abbrev pub Row : Type 0
Row = List ℕ

pub record Predicate : Type 0 where
  pub name : Name
  pub arity : ℕ

-- of arity 0, `true` is the one empty row and `false` is none
pub record Input : Type 0 where
  pub predicate : Predicate
  pub rows : List Row

pub record Problem : Type 0 where
  pub domain : ℕ
  pub inputs : List Input
  pub outputs : List Predicate

abbrev pub input_predicates : Problem → List Predicate
input_predicates P = map (λ i. i.predicate) P.inputs

abbrev pub predicates : Problem → List Predicate
predicates P = input_predicates P ++ P.outputs

-- there is a predicate of that name; of that name and arity
abbrev pub named : List Predicate → Name → Bool
named [] p = false
named (q ∷ qs) p = same p q.name || named qs p

abbrev pub declared : List Predicate → Name → ℕ → Bool
declared [] p arity = false
declared (q ∷ qs) p arity = (same p q.name && eqb q.arity arity) || declared qs p arity

abbrev pub is_input : Problem → Name → Bool
is_input P p = named (input_predicates P) p

abbrev pub is_output : Problem → Name → Bool
is_output P p = named P.outputs p

abbrev pub rows_of : List Input → Name → List Row
rows_of [] p = []
rows_of (i ∷ is) p = cond (same p i.predicate.name) i.rows (rows_of is p)

-- the input structure: an input predicate holds for its rows and for nothing else
abbrev pub given : Problem → Name → Row → Bool
given P p row = member row (rows_of P.inputs p)

-- one of the elements 1 to n
abbrev pub is_element : ℕ → ℕ → Bool
is_element n v = leb 1 v && leb v n

-- Spelling: number 3.

-- a capital letter, then letters or digits
abbrev pub is_name : Name → Bool
is_name w = is_capital (next w) && every is_letter_or_digit w

unfoldable pub read_name : ℕ → Reading Name
read_name number = token number is_letter_or_digit is_name

pub data Relation : Type 0 where
  truth_value : Bool → Relation
  tuples : List Row → Relation

unfoldable pub read_domain : Reading ℕ
read_domain = do
  word 3 (bytes "domain=")
  n ← read_number 3
  word 3 (bytes "\n")
  give n

-- what follows `input=` or `output=`
unfoldable pub read_predicate : Reading Predicate
read_predicate = do
  p ← read_name 3
  word 3 (bytes "/")
  k ← read_number 3
  word 3 (bytes "\n")
  give (record { name = p; arity = k })

unfoldable pub read_tuples : Reading (List Row)
read_tuples s = cond (is_lf (next s)) (give []) (separated 44 (separated 46 (read_number 3))) s

unfoldable pub read_relation : Reading Relation
read_relation = do
  word 3 (bytes "rows=")
  r ← one_of (bytes "true" ⇒ give (truth_value true) ∷ bytes "false" ⇒ give (truth_value false) ∷ []) (do rows ← read_tuples; give (tuples rows))
  word 3 (bytes "\n")
  give r

-- Values: number 4.

abbrev pub domain_fits : ℕ → Bool
domain_fits n = is_element domain_size n

-- a predicate more: its arity and name within their sizes, its name not yet taken, and room for it
abbrev pub predicate_fits : Problem → Predicate → Bool
predicate_fits P q =
    leb q.arity greatest_arity && (leb (length q.name) name_size && (not (named (predicates P) q.name) && ltb (length (predicates P)) predicate_count))

abbrev pub row_fits : ℕ → ℕ → Row → Bool
row_fits n zero [] = true
row_fits n zero (v ∷ vs) = false
row_fits n (suc arity) [] = false
row_fits n (suc arity) (v ∷ vs) = is_element n v && row_fits n arity vs

abbrev pub rows_fit : ℕ → ℕ → List Row → Bool
rows_fit n arity rows = every (row_fits n arity) rows

-- a row before another, element by element
abbrev pub before : Row → Row → Bool
before [] row = false
before (a ∷ as') [] = false
before (a ∷ as') (b ∷ bs) = ltb a b || (eqb a b && before as' bs)

abbrev pub ascending : List Row → Bool
ascending [] = true
ascending (row ∷ []) = true
ascending (row ∷ other ∷ rows) = before row other && ascending (other ∷ rows)

-- tuples of all input predicates; `true` and `false` count as none
abbrev pub tuple_total : List Input → ℕ
tuple_total [] = 0
tuple_total (i ∷ is) = cond (eqb i.predicate.arity 0) 0 (length i.rows) + tuple_total is

abbrev pub tuples_fit : Problem → ℕ → List Row → Bool
tuples_fit P arity rows = rows_fit P.domain arity rows && (ascending rows && leb (tuple_total P.inputs + length rows) tuple_count)

-- the rows of a predicate of some arity: a truth value for arity 0, tuples for every other
abbrev pub rows_for : Problem → ℕ → Relation → Outcome ℕ (List Row)
rows_for P zero (truth_value b) = done (cond b ([] ∷ []) [])
rows_for P zero (tuples rows) = refused 4
rows_for P (suc arity) (truth_value b) = refused 4
rows_for P (suc arity) (tuples rows) = mapped (λ u. rows) (provided (tuples_fit P (suc arity) rows) 4)

-- Line by line.

-- before `domain=`; where inputs or outputs may follow; after `input=`, where `rows=` must follow; where only outputs may follow
pub data Part : Type 0 where
  start : Part
  declaring : Problem → Part
  awaiting : Problem → Predicate → Part
  closing : Problem → Part

abbrev pub with_input : Problem → Predicate → List Row → Problem
with_input P q rows = record { domain = P.domain; inputs = P.inputs ++ (record { predicate = q; rows = rows } ∷ []); outputs = P.outputs }

abbrev pub with_output : Problem → Predicate → Problem
with_output P q = record { domain = P.domain; inputs = P.inputs; outputs = P.outputs ++ (q ∷ []) }

unfoldable pub read_output : Problem → Reading Part
read_output P = do
  word 3 (bytes "output=")
  q ← read_predicate
  require 4 (predicate_fits P q)
  give (closing (with_output P q))

unfoldable pub read_input : Problem → Reading Part
read_input P = do
  q ← read_predicate
  require 4 (predicate_fits P q)
  give (awaiting P q)

unfoldable pub problem_line : Part → Reading Part
problem_line start = do
  n ← read_domain
  require 4 (domain_fits n)
  give (declaring (record { domain = n; inputs = []; outputs = [] }))
problem_line (declaring P) = one_of (bytes "input=" ⇒ read_input P ∷ []) (read_output P)
problem_line (awaiting P q) = do
  r ← read_relation
  rows ← judge (rows_for P q.arity r)
  give (declaring (with_input P q rows))
problem_line (closing P) = read_output P

abbrev pub whole_problem : Part → Outcome ℕ Problem
whole_problem start = refused 3
whole_problem (declaring P) = done P
whole_problem (awaiting P q) = refused 3
whole_problem (closing P) = done P

-- the problem that a text is
unfoldable pub problem_of : Bytes → Judged Problem
problem_of s = read_text 1 problem_line whole_problem start s
