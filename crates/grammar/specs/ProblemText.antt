-- A problem's text.
use Rattle.std.specs.Prelude.{ℕ, suc, zero, true, false}
use mathlib.Core.List.{List, [], ◌∷◌, ◌++◌, map, flat_map}
use Rattle.grammar.specs.Bytes.{Bytes, bytes, joined}
use Rattle.grammar.specs.Numbers.{decimal}
use Rattle.grammar.specs.Problem.{Row, Predicate, Input, Problem, Relation, truth_value, tuples}

unfoldable pub domain_text : ℕ → Bytes
domain_text n = bytes "domain=" ++ (decimal n ++ bytes "\n")

-- what follows `input=` or `output=`
abbrev pub predicate_text : Predicate → Bytes
predicate_text q = q.name ++ (bytes "/" ++ (decimal q.arity ++ bytes "\n"))

abbrev pub row_text : Row → Bytes
row_text row = joined 46 (map decimal row)

abbrev pub tuples_text : List Row → Bytes
tuples_text rows = joined 44 (map row_text rows)

abbrev pub relation_text : Relation → Bytes
relation_text (truth_value true) = bytes "true"
relation_text (truth_value false) = bytes "false"
relation_text (tuples rows) = tuples_text rows

abbrev pub rows_text : Relation → Bytes
rows_text r = bytes "rows=" ++ (relation_text r ++ bytes "\n")

-- how the rows of a predicate of some arity are written
abbrev pub relation_of : ℕ → List Row → Relation
relation_of zero [] = truth_value false
relation_of zero (row ∷ rows) = truth_value true
relation_of (suc arity) rows = tuples rows

unfoldable pub declaration_text : Predicate → Bytes
declaration_text q = bytes "input=" ++ predicate_text q

unfoldable pub input_text : Input → Bytes
input_text i = declaration_text i.predicate ++ rows_text (relation_of i.predicate.arity i.rows)

unfoldable pub output_text : Predicate → Bytes
output_text q = bytes "output=" ++ predicate_text q

unfoldable pub problem_text : Problem → Bytes
problem_text P = domain_text P.domain ++ (flat_map input_text P.inputs ++ flat_map output_text P.outputs)
