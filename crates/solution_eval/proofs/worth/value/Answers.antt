use Rattle.std.proofs.Common.{◌≡◌, ◌+◌, ◌<◌, [], length, map, take, ap, sym, ◌∙◌, arith}
use Rattle.std.specs.Prelude.{max, slice_index_or}
use Rattle.tdm_problem.specs.Value.{group_sum, largest}
use Rattle.solution_eval.proofs.Sums.{group_sum_is, largest_more, ord_max_is}
use Rattle.solution_eval.proofs.worth.value.Goals as goal

pub loop-g-preserved : goal.loop-g-preserved
loop-g-preserved c =
    let inside : c.loop-g.g < length c.args.problem.now.groups = omega arith in
    let next : c.sum_of_group.result ≡ group_sum c.args.solution.now
    (slice_index_or c.args.problem.now.groups c.loop-g.g []) =
    c.sum_of_group.ensures
    ∙ (group_sum_is c.args.solution.now c.deref.result.now c.group.result.now (c.deref.ensures.value
    ∙ c.in_ok-sums.ensures.sums)
    ∙ ap (group_sum c.args.solution.now) (sym c.group.ensures.value)) in
    let more : largest (map (group_sum c.args.solution.now) (take (c.loop-g.g + 1) c.args.problem.now.groups))
    ≡ max (largest (map (group_sum c.args.solution.now) (take c.loop-g.g c.args.problem.now.groups)))
    (group_sum c.args.solution.now (slice_index_or c.args.problem.now.groups c.loop-g.g [])) =
    largest_more c.args.solution.now c.args.problem.now.groups c.loop-g.g inside in
    let before : c.loop-g.most
    ≡ largest (map (group_sum c.args.solution.now) (take c.loop-g.g c.args.problem.now.groups)) =
    c.loop-g.invariant in
    omega (arith, c.max-most.ensures, ord_max_is c.loop-g.most c.sum_of_group.result)
