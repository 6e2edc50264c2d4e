use Rattle.std.proofs.Common.{◌≡◌, ◌-◌, ◌≤◌, length}
use Rattle.recip_sum.specs.Items.{items_of}
use Rattle.recip_sum.proofs.Trials.{IsBetween}
use Rattle.recip_sum.proofs.least_even.least_even_of.Given as goal

abbrev pub invariant-loop-low : goal.invariant-loop-low
invariant-loop-low g l =
    IsBetween (items_of l.counts.entries) l.lanes l.low l.high × (length l.terms ≡ length l.initial.terms)
    × (l.initial.steps ≤ l.steps)

abbrev pub decreases-loop-low : goal.decreases-loop-low
decreases-loop-low g l = l.high - l.low
