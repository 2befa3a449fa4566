-- `term::read_terms` reads one term after another. The invariant: those that were read, and as many as may still follow from here on, are the whole.
use Prim.Native.Nat.{◌+◌, ◌-◌}
use Rattle.terms.specs.memory.Entries.{setting_of, memory}
use Rattle.terms.proofs.memory.TermReads.{TermsPassed}
use Rattle.terms.proofs.term.read_terms.Given as goal

abbrev pub invariant-terms : goal.invariant-terms
invariant-terms l =
    TermsPassed (setting_of l.setting) l.most l.at (memory l.initial.names l.initial.work) l.to l.i l.terms (memory l.names l.work)

abbrev pub decreases-terms : goal.decreases-terms
decreases-terms l = l.most + 1 - l.terms.count
