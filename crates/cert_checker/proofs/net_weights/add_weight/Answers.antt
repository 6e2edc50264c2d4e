use Rattle.std.proofs.Common.{◌+◌, ◌<◌, ◌^◌, length, get_or, arith}
use Rattle.cert_checker.proofs.NetWeightSums.{untouched, weights_more, sum_more}
use Rattle.cert_checker.proofs.net_weights.add_weight.Goals as goal

pub overflow_add-weights : goal.overflow_add-weights
overflow_add-weights c =
    let inside : c.loop-n.n-index < length c.args.nets.now = omega arith in
    let there : get_or c.args.nets.now c.loop-n.n-index 0 < length c.args.weights.now =
    c.requires.there c.loop-n.n-index 0 inside in
    let room : get_or c.args.weights.now (get_or c.args.nets.now c.loop-n.n-index 0) 0 + c.args.weight
    < 2 ^ 64 = c.requires.room (get_or c.args.nets.now c.loop-n.n-index 0) 0 there in
    omega (
      arith,
      untouched c.args.weights.now c.loop-n.weights c.args.nets.now c.args.weight c.loop-n.n-index
          inside c.requires.distinct there c.loop-n.invariant.0,
    )

pub loop-n-preserved : goal.loop-n-preserved
loop-n-preserved c =
    let inside : c.loop-n.n-index < length c.args.nets.now = omega arith in
    let there : get_or c.args.nets.now c.loop-n.n-index 0 < length c.args.weights.now =
    c.requires.there c.loop-n.n-index 0 inside in (
      weights_more c.args.weights.now c.loop-n.weights c.args.nets.now c.args.weight c.loop-n.n-index inside
          c.loop-n.auto.weights c.requires.distinct there c.loop-n.invariant.0,
      sum_more c.args.weights.now c.loop-n.weights c.args.weight c.loop-n.n-index
          (get_or c.args.nets.now c.loop-n.n-index 0) (omega (arith, c.loop-n.auto.weights))
          c.loop-n.invariant.1,
    )
