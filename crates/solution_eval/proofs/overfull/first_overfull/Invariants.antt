use Rattle.std.proofs.Common.{◌≡◌, ℕ, ◌<◌, ◌≤◌, length}
use Rattle.tdm_problem.specs.Routing.{ratios_on}
use Rattle.recip_sum.specs.Items.{SameReciprocals}
use Rattle.solution_eval.specs.Violations.{IsFitting, AllBelow}
use Rattle.solution_eval.specs.Counted.{items_at}
use Rattle.solution_eval.proofs.overfull.first_overfull.Given as goal

abbrev pub invariant-loop-e : goal.invariant-loop-e
invariant-loop-e l =
    AllBelow (IsFitting l.problem l.solution) l.e × (length l.counts.items ≡ length l.problem.wires)
    × ((k : ℕ) → l.e ≤ k → k < length l.problem.wires
    → SameReciprocals (items_at l.counts.items k) (ratios_on l.solution k))
