use Rattle.std.proofs.Common.{ℕ, List, [], ◌∷◌, ◌++◌, map, take, ap, sym, ◌∙◌, arith}
use Rattle.std.specs.Prelude.{sum_by, slice_index}
use Rattle.std.proofs.lemmas.List.{map_more}
use Rattle.even_legalise.proofs.group_sums.sums_of_groups.Goals as goal

pub loop-g-preserved : goal.loop-g-preserved
loop-g-preserved c =
    c.in_ok-push.ensures.items
    ∙ (ap (λ sums. sums ++ c.sum_of_group.result ∷ []) c.loop-g.invariant
    ∙ (ap (λ (x : ℕ). map (λ group. sum_by (λ n. slice_index c.args.net_sums.now n) group)
    (take c.loop-g.g c.args.problem.now.groups) ++ x ∷ []) (c.sum_of_group.ensures
    ∙ ap (λ (group : List ℕ). sum_by (λ n. slice_index c.args.net_sums.now n) group)
    (sym c.group.ensures.value))
    ∙ sym (map_more (λ group. sum_by (λ n. slice_index c.args.net_sums.now n) group) c.args.problem.now.groups
    c.loop-g.g [] (omega arith))))
