use Rattle.std.proofs.Common.{◌<◌, length, arith, ◌∙◌}
use Rattle.std.proofs.lemmas.List.{length-set}
use Rattle.solution_eval.proofs.Counting.{counted_more, room_here}
use Rattle.solution_eval.proofs.overfull.add_uses.Goals as goal

pub add-requires-clause-few : goal.add-requires-clause-few
add-requires-clause-few c =
    let inside : c.loop-wire_use.wire_use-index < length c.args.uses.now = omega arith in
    room_here c.args.wanted.now c.args.counts.now c.loop-wire_use.counts c.index-counts-wire.result
    c.args.uses.now c.loop-wire_use.wire_use-index _ inside c.loop-wire_use.invariant.0
    (c.requires.there c.loop-wire_use.wire_use-index _ inside) c.requires.distinct
    c.if-not-wanted-wire.false c.loop-wire_use.invariant.1 c.requires.room

pub loop-wire_use-preserved : goal.loop-wire_use-preserved
loop-wire_use-preserved c =
    let inside : c.loop-wire_use.wire_use-index < length c.args.uses.now = omega arith in (
      length-set c.loop-wire_use.counts _ c.add.new.self ∙ c.loop-wire_use.invariant.0,
      counted_more c.args.wanted.now c.args.counts.now c.loop-wire_use.counts c.index-counts-wire.result
          c.add.new.self c.args.uses.now c.loop-wire_use.wire_use-index _ inside c.loop-wire_use.invariant.0
          (c.requires.there c.loop-wire_use.wire_use-index _ inside) c.in_ok-add.ensures.same
          c.loop-wire_use.invariant.1,
    )
