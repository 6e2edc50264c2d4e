use Rattle.std.proofs.Common.{ℕ, ◌+◌}
use Rattle.net_groups.proofs.Gathered.{IsEach}
use Rattle.net_groups.proofs.summing.add_to.Given as goal

abbrev pub invariant-loop-g : goal.invariant-loop-g
invariant-loop-g l = IsEach (λ (x : ℕ). x + l.amount) 0 l.groups l.g-index l.fn.sums l.sums
