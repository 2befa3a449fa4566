-- `job::Texts::judged_short`: 2, or what is judged of texts within their size.
use mathlib.Core.Path.{sym, ◌∙◌}
use Rattle.replay.proofs.Concluding.{short-refused, short-judged}
use Rattle.replay.proofs.job.Texts.judged_short.Goals as goal

pub returns-then-not-are_short : goal.returns-then-not-are_short
returns-then-not-are_short c =
    short-refused _ _ _ _ _ _ (sym c.are_short.ensures ∙ c.if-not-are_short.true)

pub returns : goal.returns
returns c = short-judged _ _ _ _ _ _ _ _ (sym c.are_short.ensures ∙ c.if-not-are_short.false) c.judged.ensures
