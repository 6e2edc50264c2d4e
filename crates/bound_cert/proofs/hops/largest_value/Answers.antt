use Rattle.std.proofs.Common.{◌≡◌, ℕ, ◌+◌, map, take, get_or, arith}
use Rattle.std.specs.Prelude.{max}
use Rattle.tdm_problem.specs.Value.{largest}
use Rattle.bound_cert.specs.Certificate.{value_at}
use Rattle.bound_cert.proofs.Largest.{largest_more, ord_max_is}
use Rattle.bound_cert.proofs.hops.largest_value.Goals as goal

pub loop-f-preserved : goal.loop-f-preserved
loop-f-preserved c =
    let value : ℕ = value_at c.args.values.now (get_or c.args.fpgas.now c.loop-f.f-index 0) in
    let before : c.loop-f.most
    ≡ largest (map (value_at c.args.values.now) (take c.loop-f.f-index c.args.fpgas.now)) =
    c.loop-f.invariant in
    let more : largest (map (value_at c.args.values.now) (take (c.loop-f.f-index + 1) c.args.fpgas.now))
    ≡ max (largest (map (value_at c.args.values.now) (take c.loop-f.f-index c.args.fpgas.now))) value =
    largest_more (value_at c.args.values.now) c.args.fpgas.now c.loop-f.f-index 0 c.loop-f-test.true in
    omega (arith, c.max-most.ensures, ord_max_is c.loop-f.most value)
