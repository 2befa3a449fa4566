-- The statement's sizes, each by its name.
use Rattle.std.specs.Prelude.{ℕ}

-- bytes of a text
unfoldable pub text_size : ℕ
text_size = 65536

-- elements of the domain
unfoldable pub domain_size : ℕ
domain_size = 64

-- predicates of a problem, and terms of one
unfoldable pub predicate_count : ℕ
predicate_count = 32

unfoldable pub greatest_arity : ℕ
greatest_arity = 3

-- bytes of a predicate's or a variable's name
unfoldable pub name_size : ℕ
name_size = 15

-- tuples of all input predicates together
unfoldable pub tuple_count : ℕ
tuple_count = 1024

-- different variables of a theory
unfoldable pub variable_count : ℕ
variable_count = 64

-- levels of a formula, an atom being one
unfoldable pub level_count : ℕ
level_count = 32

-- quantifiers on a path inside a guard
unfoldable pub guard_quantifier_count : ℕ
guard_quantifier_count = 3

-- live formulas, and their sizes together
unfoldable pub formula_count : ℕ
formula_count = 1024

unfoldable pub theory_size : ℕ
theory_size = 4096

-- names of formulas, and numbers of a path
unfoldable pub greatest_name : ℕ
greatest_name = 65535

unfoldable pub greatest_path_number : ℕ
greatest_path_number = 4095

-- bytes of a grounder's name
unfoldable pub grounder_size : ℕ
grounder_size = 31

-- numbers of working memory
unfoldable pub work_size : ℕ
work_size = 16384
