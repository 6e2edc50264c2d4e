use Rattle.std.proofs.Common.{◌≡◌, take}
use Rattle.std.specs.Prelude.{All}
use Rattle.tdm_problem.specs.Routing.{ratios_of}
use Rattle.tdm_problem.specs.Trees.{trees_of}
use Rattle.worst_refine.specs.Traded.{IsSmallRatio}
use Rattle.worst_refine.proofs.proposed.with_halves.Given as goal

abbrev pub invariant-loop-n : goal.invariant-loop-n
invariant-loop-n l = (trees_of l.solution ≡ take l.n l.trees)
    × All (λ uses. All IsSmallRatio (ratios_of uses)) l.solution
