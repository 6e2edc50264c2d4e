use Rattle.std.proofs.Common.{◌+◌, ◌-◌, ◌≤◌, vec_len}
use Rattle.recip_sum.proofs.counts.make_room.Given as goal

abbrev pub invariant-loop-terms : goal.invariant-loop-terms
invariant-loop-terms l = vec_len l.initial.terms ≤ vec_len l.terms

abbrev pub decreases-loop-terms : goal.decreases-loop-terms
decreases-loop-terms l = l.ratios + 2 - vec_len l.terms
