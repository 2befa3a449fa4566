-- `term::read_terms` reads one term after another. The invariant: those that were read, and as many as may still follow from here on, are the whole.
use mathlib.Core.Path.{sym, ◌∙◌}
use Rattle.terms.proofs.memory.TermReads.{terms_first, terms_refused, terms_full, terms_last, terms_on}
use Rattle.terms.proofs.term.read_terms.Goals as goal
use Rattle.terms.proofs.term.read_terms.Goals.{then-terms-most-via-then-terms-most, then-terms-most-via-else-terms-most+then-peek-ne44}

pub terms-init : goal.terms-init
terms-init c =
    terms_first _ _ _ _ _ c.requires.0

pub returns-in_err-value : goal.returns-in_err-value
returns-in_err-value c =
    rw c.from_residual.ensures (terms_refused _ _ _ _ _ _ _ _ c.terms.invariant c.in_err-value.ensures)

pub returns-then-terms-most : goal.returns-then-terms-most
returns-then-terms-most c =
    rw c.and-terms.ensures
    (elim c.then-terms-most.branch [
      | then-terms-most-via-then-terms-most w ↦ terms_full _ _ _ _ _ _ _ _ c.terms.invariant _ _ _ c.in_ok-value.ensures (rw c.and-terms.ensures at w.if-terms-most.true)
      | then-terms-most-via-else-terms-most+then-peek-ne44 w ↦
          terms_last _ _ _ _ _ _ _ _ c.terms.invariant _ _ _ c.in_ok-value.ensures (λ e. w.if-peek-ne44.true (w.peek.ensures ∙ e))
    ])

pub terms-preserved : goal.terms-preserved
terms-preserved c =
    rw c.and-terms.ensures (terms_on _ _ _ _ _ _ _ _ c.terms.invariant _ _ _ c.in_ok-value.ensures (rw c.and-terms.ensures at c.if-terms-most.false) (sym c.peek.ensures ∙ c.if-peek-ne44.false))
