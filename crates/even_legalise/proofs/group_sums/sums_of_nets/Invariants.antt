use Rattle.std.proofs.Common.{◌≡◌, ◌<◌, ◌^◌, map, take}
use Rattle.std.specs.Prelude.{sum, All}
use Rattle.tdm_problem.specs.Routing.{ratios_of}
use Rattle.even_legalise.specs.Shared.{shared_routing}
use Rattle.even_legalise.proofs.group_sums.sums_of_nets.Given as goal

abbrev pub invariant-loop-n : goal.invariant-loop-n
invariant-loop-n l =
    (l.sums.items ≡ map (λ uses. sum (ratios_of uses)) (take l.n (shared_routing l.problem l.trees l.s)))
    × All (λ total. total < 2 ^ 96) l.sums.items
