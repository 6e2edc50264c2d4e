use Rattle.std.proofs.Common.{◌≡◌, map, take}
use Rattle.tdm_problem.specs.Value.{group_sum, largest}
use Rattle.solution_eval.proofs.worth.value.Given as goal

abbrev pub invariant-loop-g : goal.invariant-loop-g
invariant-loop-g l = l.most ≡ largest (map (group_sum l.solution) (take l.g l.problem.groups))
