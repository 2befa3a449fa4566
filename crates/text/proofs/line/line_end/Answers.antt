-- `line::line_end` adds the size of the line at the front of the rest.
use Prim.Native.Nat.{ℕ, ◌+◌}
use mathlib.Core.Path.{ap, ◌∙◌}
use mathlib.Core.Bool.{not}
use lib.ListN.{length, drop}
use Rattle.std.specs.List.{take_while}
use Rattle.grammar.specs.Lines.{is_lf}
use Rattle.text.proofs.Places.{line_size-front, rest_all, front-within}
use Rattle.text.proofs.line.line_end.Goals as goal

pub returns : goal.returns
returns c =
    let text = c.args.text.now in
    let at = c.args.at in (
      ap (◌+◌ at) (c.line_size.ensures ∙ ap (λ s. length (take_while (λ (b : ℕ). not (is_lf b)) s)) (rest_all text at) ∙ line_size-front (drop at text)),
      rw c.line_size.ensures (front-within text at (λ b. not (is_lf b)) c.requires),
    )
