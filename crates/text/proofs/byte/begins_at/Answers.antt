-- `byte::begins_at` asks the library whether the word stands at the front of the rest.
use mathlib.Core.Path.{ap, ◌∙◌}
use lib.ListN.{drop}
use lib.Dec.{eqb}
use Rattle.std.specs.List.{starts_with}
use Rattle.text.proofs.Places.{begins-front, rest_all}
use Rattle.text.proofs.byte.begins_at.Goals as goal

pub returns : goal.returns
returns c =
    c.starts_with.ensures.value
    ∙ ap (λ s. starts_with eqb s c.args.word.now) (rest_all c.args.text.now c.args.at)
    ∙ begins-front c.args.word.now (drop c.args.at c.args.text.now)
