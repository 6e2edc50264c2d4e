use Rattle.std.proofs.Common.{◌≡◌, ◌+◌, ◌<◌, ◌++◌, length, take, drop, sym, subst, ◌∙◌, arith}
use Rattle.std.proofs.lemmas.List.{take_at}
use Rattle.cert_checker.proofs.NetWeightSums.{AreWeightsUpTo, room_for_group, group_more}
use Rattle.cert_checker.proofs.net_weights.net_weights.Goals as goal

pub add_weight-requires-clause-room : goal.add_weight-requires-clause-room
add_weight-requires-clause-room c =
    room_for_group c.loop-g.g c.args.problem.now.groups c.args.cert.now.weights
    (length c.args.problem.now.nets) c.weight.result c.deref_mut.result.now
    (omega (arith, c.nets.ensures.board.group_limit)) c.weight.ensures.within
    (subst (λ weights. AreWeightsUpTo c.loop-g.g c.args.problem.now.groups c.args.cert.now.weights
    (length c.args.problem.now.nets) weights) (sym c.deref_mut.ensures.value) c.loop-g.invariant)

pub loop-g-preserved : goal.loop-g-preserved
loop-g-preserved c =
    let inside : c.loop-g.g < length c.args.problem.now.groups = omega arith in
    let kept : length c.add_weight.new.weights ≡ length c.deref_mut.result.now = c.add_weight.auto.weights in
    let same : take c.loop-g.weights.len (c.add_weight.new.weights ++ drop (length c.add_weight.new.weights)
    c.loop-g.weights.items) ≡ c.add_weight.new.weights =
    take_at c.add_weight.new.weights (drop (length c.add_weight.new.weights) c.loop-g.weights.items)
    c.loop-g.weights.len (kept ∙ c.deref_mut.ensures.len) in
    subst (λ weights. AreWeightsUpTo (c.loop-g.g + 1) c.args.problem.now.groups c.args.cert.now.weights
    (length c.args.problem.now.nets) weights) (sym same)
    (group_more c.loop-g.g c.args.problem.now.groups c.args.cert.now.weights (length c.args.problem.now.nets)
    c.weight.result c.group.result.now c.deref_mut.result.now c.add_weight.new.weights inside
    c.requires.weights c.group.ensures.value c.weight.ensures.value c.weight.ensures.within kept
    c.add_weight.ensures.each c.add_weight.ensures.total
    (subst (λ weights. AreWeightsUpTo c.loop-g.g c.args.problem.now.groups c.args.cert.now.weights
    (length c.args.problem.now.nets) weights) (sym c.deref_mut.ensures.value) c.loop-g.invariant))
