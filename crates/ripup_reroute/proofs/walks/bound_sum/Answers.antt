use Rattle.std.proofs.Common.{arith}
use Rattle.std.specs.Prelude.{slice_index}
use Rattle.std.proofs.lemmas.List.Sums.{sum_by_more_le}
use Rattle.ripup_reroute.specs.Bounds.{bound_at}
use Rattle.ripup_reroute.proofs.walks.bound_sum.Goals as goal

pub returns-then-cap-sum-clause-within : goal.returns-then-cap-sum-clause-within
returns-then-cap-sum-clause-within c =
    omega (
      arith,
      sum_by_more_le (λ t. bound_at c.args.table.now c.args.scale t (slice_index c.args.terminals.now 0))
          c.args.terminals.now c.loop-t.t-index 0 c.loop-t-test.true,
      c.loop-t.invariant.sum,
      c.bound-bound.ensures.value,
      c.if-cap-sum.true,
    )
