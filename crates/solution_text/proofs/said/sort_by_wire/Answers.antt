use Rattle.std.proofs.Common.{sym, rules}
use Rattle.std.proofs.lemmas.List.Sorted.{IsNonDecreasingBy-from_sort_by_key}
use Rattle.tdm_problem.specs.declared.solution.WireUse.{WireUse}
use Rattle.solution_text.proofs.Sorting.{by_wire-from_sort, strictly_from_sort}
use Rattle.solution_text.proofs.said.sort_by_wire.Goals as goal
use Rattle.solution_text.proofs.said.sort_by_wire.Goals.{After-sort_unstable_by_key}

pub returns-clause-sorted : goal.returns-clause-sorted
returns-clause-sorted c =
    sym (by_wire-from_sort c.args.uses.now _ c.sort_unstable_by_key.ensures.permutation c.requires
    (IsNonDecreasingBy-from_sort_by_key (λ (u : WireUse). u.wire) _ c.sort_unstable_by_key.ensures.sorted
    (λ a r q k. search rules)))

pub returns-clause-rising : goal.returns-clause-rising
returns-clause-rising c = strictly_from_sort c.args.uses.now _ c.sort_unstable_by_key.ensures.permutation
    c.requires (IsNonDecreasingBy-from_sort_by_key (λ (u : WireUse). u.wire)
    _ c.sort_unstable_by_key.ensures.sorted (λ a r q k. search rules))
