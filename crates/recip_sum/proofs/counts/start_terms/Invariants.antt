use Rattle.recip_sum.proofs.Started.{AreStarted}
use Rattle.recip_sum.proofs.counts.start_terms.Given as goal

abbrev pub invariant-loop-ratio : goal.invariant-loop-ratio
invariant-loop-ratio l =
    AreStarted l.counts.entries l.ratio-iterator l.terms l.place ×
    (goal.iterator-loop-ratio).can_next l.ratio-iterator ×
    (goal.iterator-loop-ratio).is_finite l.ratio-iterator
