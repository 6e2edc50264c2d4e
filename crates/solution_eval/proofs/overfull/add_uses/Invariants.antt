use Rattle.std.proofs.Common.{◌≡◌, ℕ, ◌<◌, ◌++◌, length, take}
use Rattle.std.specs.Prelude.{filter, ◌==◌}
use Rattle.tdm_problem.specs.Routing.{ratios_of}
use Rattle.recip_sum.specs.Items.{SameReciprocals}
use Rattle.solution_eval.specs.Counted.{items_at, IsWanted}
use Rattle.solution_eval.proofs.overfull.add_uses.Given as goal

abbrev pub invariant-loop-wire_use : goal.invariant-loop-wire_use
invariant-loop-wire_use l = (length l.counts ≡ length l.initial.counts)
    × ((e : ℕ) → e < length l.initial.counts → IsWanted l.wanted e
    → SameReciprocals (items_at l.counts e) (items_at l.initial.counts e
    ++ ratios_of (filter (λ u. u.wire == e) (take l.wire_use-index l.uses))))
