-- `line::refused_line` hands back the part from the line's start to its end, of line 0 the part from the end to the end.
use Prim.Native.Nat.{◌-◌, ◌<◌}
use native.Mathlib.Nat.{sub_self}
use native.Mathlib.Omega.{arith}
use mathlib.Core.Path.{◌≡◌, refl, sym, ◌∙◌}
use lib.ListN.{drop}
use Rattle.grammar.specs.Lines.{line_size, line_start}
use Rattle.grammar.proofs.Lines.{line_count, line_start_missing, refused_line_missing}
use Rattle.text.proofs.Places.{line_start-later}
use Rattle.text.proofs.line.refused_line.Goals as goal

pub returns-then-line-eq0 : goal.returns-then-line-eq0
returns-then-line-eq0 c =
    let missing : 0 < c.args.line → line_count c.args.text.now < c.args.line = λ h. omega (arith, c.if-line-eq0.true) in
    record {
      within = refl;
      begins = omega (arith, line_start_missing c.args.text.now c.args.line missing);
      reads = simp sub_self (sym (refused_line_missing c.args.text.now c.args.line missing));
    }

pub returns : goal.returns
returns c =
    let begun : line_start c.args.text.now c.args.line ≡ c.lines_end-from.result = line_start-later c.args.text.now c.args.line c.if-line-eq0.false ∙ sym c.lines_end-from.ensures.0 in
    let size : c.line_end-to.result - c.lines_end-from.result ≡ line_size (drop c.lines_end-from.result c.args.text.now) = omega (arith, c.line_end-to.ensures.0) in
    record { within = refl; begins = omega arith; reads = rw (begun, size) }
