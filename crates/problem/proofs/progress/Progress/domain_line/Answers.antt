-- `domain_line` reads the domain's size and sees that it fits.
use mathlib.Core.Path.{refl, subst}
use Rattle.grammar.specs.Problem.{read_domain}
use Rattle.problem.specs.memory.Declarations.{NumberTold, ToldLast}
use Rattle.problem.proofs.ProblemPlaces.{domain_below, domain_above, domain-line}
use Rattle.problem.proofs.progress.Progress.domain_line.Goals as goal
use Rattle.problem.proofs.progress.Progress.domain_line.Goals.{In_ok-value, then-domain-lt1-via-then-domain-lt1, then-domain-lt1-via-else-domain-lt1+then-domain-gt-GREATEST_ELEMENT}

-- the number is read
number : (c : In_ok-value) → NumberTold read_domain c.args.text.now c.args.at c.in_ok-value.field-0.value c.in_ok-value.field-0.next
number c = subst (ToldLast read_domain c.args.text.now c.args.at) c.in_ok-value.ensures.ok_part c.domain_at.ensures

pub returns-then-domain-lt1 : goal.returns-then-domain-lt1
returns-then-domain-lt1 c =
    let told = number (goal.at.returns-then-domain-lt1 c).In_ok-value in
    let value = c.in_ok-value.field-0.value in
    let next = c.in_ok-value.field-0.next in
    elim c.then-domain-lt1.branch [
      | then-domain-lt1-via-then-domain-lt1 w ↦
          domain_below c.args.text.now c.args.at c.args.self.now value next told c.in_ok-domain.domain c.in_ok-domain.ensures.ok_part w.if-domain-lt1.true
      | then-domain-lt1-via-else-domain-lt1+then-domain-gt-GREATEST_ELEMENT w ↦
          domain_above c.args.text.now c.args.at c.args.self.now value next told c.in_ok-domain.domain c.in_ok-domain.ensures.ok_part w.if-domain-gt-GREATEST_ELEMENT.true
    ]

pub returns : goal.returns
returns c =
    domain-line c.args.text.now c.args.at c.args.self.now c.in_ok-value.field-0.value c.in_ok-value.field-0.next (number (goal.at.returns c).In_ok-value)
    c.in_ok-domain.domain c.in_ok-domain.ensures.ok_part c.requires.1 c.if-domain-lt1.false c.if-domain-gt-GREATEST_ELEMENT.false _
    (record { stage = refl; table = refl; used = refl; total = refl })
