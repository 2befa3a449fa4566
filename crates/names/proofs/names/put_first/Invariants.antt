-- `names::put_first` stores the names one by one. The invariant: those passed are stored, and the others as they were.
use mathlib.Core.Path.{◌≡◌}
use mathlib.Core.List.{◌++◌}
use lib.ListN.{drop}
use Rattle.logic.specs.Meaning.{count_from}
use Rattle.names.proofs.names.put_first.Given as goal

abbrev pub invariant-loop-i : goal.invariant-loop-i
invariant-loop-i l = l.list ≡ count_from 1 l.i ++ drop l.i l.initial.list
