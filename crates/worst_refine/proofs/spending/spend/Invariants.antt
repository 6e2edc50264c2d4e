use Rattle.std.proofs.Common.{◌≡◌, ℕ, ◌+◌, ◌<◌, ◌^◌, length, get_or, take}
use Rattle.std.specs.Prelude.{filter, min, ◌==◌}
use Rattle.tdm_problem.specs.Routing.{ratios_of}
use Rattle.recip_sum.specs.Rounded.{ceiling_sum}
use Rattle.worst_refine.proofs.spending.spend.Given as goal

abbrev pub invariant-loop-wire_use : goal.invariant-loop-wire_use
invariant-loop-wire_use l = (e : ℕ) → e < length l.initial.spent
    → get_or l.spent e 0
    ≡ min (get_or l.initial.spent e 0
    + ceiling_sum (ratios_of (filter (λ u. u.wire == e) (take l.wire_use-index l.uses)))) (2 ^ 64 + 1)
