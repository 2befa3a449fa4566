-- `rule_line::line_at` reads a kind, and the rest as that kind.
use Rattle.std.proofs.Common.{rules}
use Rattle.derivation.proofs.LinePlaces.{line-unknown, kind-behind, line-told}
use Rattle.derivation.proofs.rule_line.line_at.Goals as goal

pub returns-in_err-kind-clause-read : goal.returns-in_err-kind-clause-read
returns-in_err-kind-clause-read c = let f = line-unknown c.args.text.now c.args.at c.in_err-kind.ensures in search rules

pub returns-clause-read : goal.returns-clause-read
returns-clause-read c =
    let told = c.line_behind.ensures in
    (line-told c.args.text.now c.args.at (kind-behind c.args.text.now c.args.at c.in_ok-kind.ensures) c.line_behind.result (told.read, told.after)).0

pub returns-clause-after : goal.returns-clause-after
returns-clause-after c =
    let told = c.line_behind.ensures in
    (line-told c.args.text.now c.args.at (kind-behind c.args.text.now c.args.at c.in_ok-kind.ensures) c.line_behind.result (told.read, told.after)).1
