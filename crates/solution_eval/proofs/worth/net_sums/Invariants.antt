use Rattle.std.proofs.Common.{◌≡◌, ◌<◌, ◌^◌, map, take}
use Rattle.std.specs.Prelude.{sum, All}
use Rattle.tdm_problem.specs.Routing.{ratios_of}
use Rattle.solution_eval.proofs.worth.net_sums.Given as goal

abbrev pub invariant-loop-n : goal.invariant-loop-n
invariant-loop-n l = (l.sums.items ≡ map (λ uses. sum (ratios_of uses)) (take l.n l.solution))
    × All (λ total. total < 2 ^ 96) l.sums.items
