use Rattle.std.proofs.Common.{◌≡◌, take}
use Rattle.even_legalise.specs.Uniform.{uniform_routing}
use Rattle.even_legalise.proofs.solution.with_uniform_ratios.Given as goal

abbrev pub invariant-loop-n : goal.invariant-loop-n
invariant-loop-n l = l.solution ≡ take l.n (uniform_routing l.problem l.trees)
