use Rattle.std.proofs.Common.{◌≡◌, ◌+◌, ◌*◌, length}
use Rattle.recip_sum.proofs.Undecided.{IsUndecided}
use Rattle.recip_sum.proofs.long_division.sum_to_at_most.Given as goal

abbrev pub invariant-loop-turn : goal.invariant-loop-turn
invariant-loop-turn g l = IsUndecided l.fn.terms l.terms l.lanes l._turn l.whole
    × (l.steps ≡ l.fn.steps + l._turn * length l.fn.terms)
