use Rattle.std.proofs.Common.{◌<◌, length, arith}
use Rattle.ripup_reroute.proofs.Adding.{rising-distinct}
use Rattle.ripup_reroute.proofs.Summing.{before-small, number-small}
use Rattle.ripup_reroute.proofs.loads.loads_of.Goals as goal

pub add_number-requires-clause-distinct : goal.add_number-requires-clause-distinct
add_number-requires-clause-distinct c = rising-distinct c.wires_of.result.now c.wires_of.ensures.rising

pub add_number-requires-clause-room : goal.add_number-requires-clause-room
add_number-requires-clause-room c e =
    let below : c.loop-n.n < length c.args.problem.now.nets =
    omega (arith, c.loop-n-test.true, c.nets-n-end.ensures.value, c.requires.trees.nets) in
    omega (
      arith,
      below,
      c.requires.trees.nets,
      c.nets-n-end.ensures.rising.net_limit,
      before-small c.args.problem.now c.args.trees.now c.args.numbers.now c.loop-n.n c.loop-n.loads.items
          c.requires.numbers (omega (arith, below)) c.loop-n.invariant e,
      number-small c.args.problem.now c.args.numbers.now c.loop-n.n c.requires.numbers below,
    )
