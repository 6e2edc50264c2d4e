use Rattle.std.proofs.Common.{◌≡◌, ℕ, List, length, map, ap, sym, ◌∙◌}
use Rattle.std.specs.Prelude.{sum, sum_by, slice_index}
use Rattle.std.proofs.lemmas.List.{length-map}
use Rattle.std.proofs.lemmas.Result.{IfOk-weaker}
use Rattle.tdm_problem.specs.Routing.{ratios_of}
use Rattle.tdm_problem.specs.Value.{group_sum}
use Rattle.even_legalise.specs.Shared.{shared_routing}
use Rattle.even_legalise.proofs.GroupSums.{groups_from_nets}
use Rattle.even_legalise.proofs.SharedSteps.{length-shared}
use Rattle.even_legalise.proofs.group_sums.shared_sums.Goals as goal

pub sums_of_groups-requires-clause-paired : goal.sums_of_groups-requires-clause-paired
sums_of_groups-requires-clause-paired c =
    let paired : length c.args.s.now ≡ length c.args.trees.now = c.requires.paired
    ∙ sym c.requires.trees_for.nets in
    ap length (c.deref-4.ensures.value ∙ c.in_ok-net_sums.ensures.sums)
    ∙ (length-map (shared_routing c.args.problem.now c.args.trees.now c.args.s.now)
    (λ uses. sum (ratios_of uses))
    ∙ (length-shared c.args.problem.now c.args.trees.now c.args.s.now paired ∙ c.requires.trees_for.nets))

pub returns : goal.returns
returns c =
    IfOk-weaker c.sums_of_groups.result (λ sums. sums.items
    ≡ map (λ group. sum_by (λ n. slice_index c.deref-4.result.now n) group) c.args.problem.now.groups)
    (λ sums. sums.items ≡ map
    (group_sum (shared_routing c.args.problem.now c.args.trees.now c.args.s.now))
    c.args.problem.now.groups)
    (λ sums is.
    is
    ∙ (ap (λ (xs : List ℕ). map (λ group. sum_by (λ n. slice_index xs n) group) c.args.problem.now.groups)
    (c.deref-4.ensures.value ∙ c.in_ok-net_sums.ensures.sums)
    ∙ groups_from_nets (shared_routing c.args.problem.now c.args.trees.now c.args.s.now)
    c.args.problem.now.groups))
    c.sums_of_groups.ensures
