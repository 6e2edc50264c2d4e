use Rattle.std.proofs.Common.{◌≡◌, take}
use Rattle.even_legalise.specs.Shared.{shared_routing}
use Rattle.even_legalise.proofs.shared.with_shared_ratios.Given as goal

abbrev pub invariant-loop-n : goal.invariant-loop-n
invariant-loop-n l = l.solution ≡ take l.n (shared_routing l.problem l.trees l.s)
