use Rattle.std.proofs.Common.{ltb, ltb-true, rules}
use Rattle.std.proofs.lemmas.Bool.{ltb-false}
use Rattle.std.proofs.lemmas.List.Sorted.{IsPartitionPoint-from_clause, IsPartitionedBy-ltb}
use Rattle.solution_eval.proofs.flood.steps_below.Goals as goal

pub returns-clause-below : goal.returns-clause-below
returns-clause-below c =
    let parted = IsPartitionedBy-ltb (λ s. s.from) _ c.args.limit c.requires in
    let point = IsPartitionPoint-from_clause (λ s. ltb s.from c.args.limit)
    _ _ c.partition_point.ensures.partitioned parted (λ a r q k. search rules) in
    λ k d low high. ltb-true _ _ (point.0 k d low high)

pub returns-clause-above : goal.returns-clause-above
returns-clause-above c =
    let parted = IsPartitionedBy-ltb (λ s. s.from) _ c.args.limit c.requires in
    let point = IsPartitionPoint-from_clause (λ s. ltb s.from c.args.limit)
    _ _ c.partition_point.ensures.partitioned parted (λ a r q k. search rules) in
    λ k d low high. ltb-false _ _ (point.1 k d low high)
