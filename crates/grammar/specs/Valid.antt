-- Valid problems: within the statement's sizes, well spelled, no name twice, and rows that fit. Just these have a text that is read.
use Rattle.std.specs.Prelude.{ℕ, ◌+◌, ◌≤◌, ◌≡◌, List, [], ◌∷◌, true, cond, length}
use Rattle.grammar.specs.Sizes.{domain_size, predicate_count, greatest_arity, name_size, tuple_count}
use Rattle.grammar.specs.Bytes.{same}
use Rattle.grammar.specs.Each.{Each}
use Rattle.grammar.specs.Problem.{Name, Predicate, Input, Problem, predicates, is_name, rows_fit, ascending, tuple_total}

-- how many predicates have a name
abbrev pub occurrences : List Predicate → Name → ℕ
occurrences [] p = 0
occurrences (q ∷ qs) p = cond (same p q.name) 1 0 + occurrences qs p

-- a predicate well spelled and within its sizes
pub record Small (q : Predicate) : Type 0 where
  pub spelled : is_name q.name ≡ true
  pub short : length q.name ≤ name_size
  pub few : q.arity ≤ greatest_arity

-- predicates that may stand together, no name twice
pub record Declares (qs : List Predicate) : Type 0 where
  pub small : Each Small qs
  pub count : length qs ≤ predicate_count
  pub once : (p : Name) → occurrences qs p ≤ 1

-- an input with rows that it may have over n elements
pub record Tabled (n : ℕ) (i : Input) : Type 0 where
  pub fit : rows_fit n i.predicate.arity i.rows ≡ true
  pub ordered : ascending i.rows ≡ true

pub record Valid (P : Problem) : Type 0 where
  pub least : 1 ≤ P.domain
  pub greatest : P.domain ≤ domain_size
  pub declares : Declares (predicates P)
  pub tabled : Each (Tabled P.domain) P.inputs
  pub total : tuple_total P.inputs ≤ tuple_count
