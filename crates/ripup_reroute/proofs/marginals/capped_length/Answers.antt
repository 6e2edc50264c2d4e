use Rattle.std.proofs.Common.{ℕ, ◌+◌, ◌*◌, arith}
use Rattle.std.specs.Prelude.{slice_index}
use Rattle.std.proofs.lemmas.List.Sums.{sum_by_more_le}
use Rattle.ripup_reroute.proofs.marginals.capped_length.Goals as goal

pub returns-then-length-total-clause-within : goal.returns-then-length-total-clause-within
returns-then-length-total-clause-within c =
    let f : ℕ → ℕ = λ e. 2 * slice_index c.args.marginals.now.loads.now e + c.args.marginals.now.own in
    omega (
      arith,
      sum_by_more_le f c.args.wires.now c.loop-e.e-index 0 c.loop-e-test.true,
      c.loop-e.invariant.0,
      c.len_of-length.ensures,
      c.if-length-total.true,
    )
