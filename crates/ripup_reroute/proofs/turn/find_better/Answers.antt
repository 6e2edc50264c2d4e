use Rattle.std.proofs.Common.{◌<◌, length, arith}
use Rattle.std.proofs.lemmas.List.{get_or_default}
use Rattle.ripup_reroute.proofs.Looking.{found-better, kept-within, none-better, tree-connects}
use Rattle.ripup_reroute.proofs.Scaling.{scaled-turn}
use Rattle.ripup_reroute.proofs.Summing.{without-small, number-small}
use Rattle.ripup_reroute.proofs.turn.find_better.Goals as goal

pub invariant_of-lengths : goal.invariant_of-lengths
invariant_of-lengths c = record {
  small = λ k d below. (
      let there : c.args.n < length c.args.trees.now = omega (
        arith,
        c.requires.there,
        c.requires.minimal.for_board.nets,
      ) in
      omega (
        arith,
        get_or_default c.args.loads.now k d 0 below,
        c.requires.loads.each k,
        c.requires.board.net_limit,
        c.requires.minimal.for_board.nets,
        without-small c.args.problem.now c.args.trees.now c.args.numbers.now c.args.n k c.requires.numbers
            c.requires.minimal.for_board.nets there,
        number-small c.args.problem.now c.args.numbers.now c.args.n c.requires.numbers c.requires.there,
      ));
}

pub walks_reach-requires-clause-scaled : goal.walks_reach-requires-clause-scaled
walks_reach-requires-clause-scaled c =
    scaled-turn c.args.problem.now c.args.trees.now c.args.numbers.now c.args.n c.args.loads.now
    c.wires_of-tree.result.now c.args.tools.now.table c.scale_for-scale.result
    (omega (arith, c.requires.there, c.requires.minimal.for_board.nets)) c.wires_of-tree.ensures.value
    c.requires.loads c.requires.scaled c.scale_for-scale.ensures.least c.scale_for-scale.ensures.scaled

pub grow_best-requires-clause-scaled : goal.grow_best-requires-clause-scaled
grow_best-requires-clause-scaled c =
    scaled-turn c.args.problem.now c.args.trees.now c.args.numbers.now c.args.n c.args.loads.now
    c.wires_of-tree.result.now c.args.tools.now.table c.scale_for-scale.result
    (omega (arith, c.requires.there, c.requires.minimal.for_board.nets)) c.wires_of-tree.ensures.value
    c.requires.loads c.requires.scaled c.scale_for-scale.ensures.least c.scale_for-scale.ensures.scaled

pub returns-then-branch-clause-best : goal.returns-then-branch-clause-best
returns-then-branch-clause-best c _ =
    kept-within c.args.problem.now c.args.graph.now c.requires.graph c.args.trees.now c.args.numbers.now
    c.args.n c.args.loads.now c.requires.loads
    c.net-terminals.result.now c.capped_length-cap.result c.net-terminals.ensures.value
    (rw c.wires_of-tree.ensures.value
    (c.capped_length-cap.ensures.exact (c.in_ok-walks_reach.ensures.below c.if-branch.true)))
    (c.in_ok-walks_reach.ensures.reach c.if-branch.true)

pub returns-in-Some-clause-better : goal.returns-in-Some-clause-better
returns-in-Some-clause-better c _ =
    let grown = rw c.in-Some.is at c.in_ok-grow_best.ensures.grown in
    found-better c.args.problem.now c.args.graph.now c.requires.graph c.args.trees.now c.args.numbers.now
    c.args.n c.args.loads.now c.requires.loads
    c.grow_best.new.tools.found.items c.net-terminals.result.now c.in-Some.field-0 c.capped_length-cap.result
    c.net-terminals.ensures.value
    (grown.0.minimal c.args.problem.now c.requires.graph) grown.0.rising grown.0.there grown.0.long grown.1
    (rw c.wires_of-tree.ensures.value c.capped_length-cap.ensures.within)
    grown.2

pub returns-in-None-clause-best : goal.returns-in-None-clause-best
returns-in-None-clause-best c _ =
    let grown = rw c.in-None.is at c.in_ok-grow_best.ensures.grown in
    none-better c.args.problem.now c.args.graph.now c.requires.graph c.args.trees.now c.args.numbers.now
    c.args.n c.args.loads.now c.requires.loads
    c.net-terminals.result.now c.capped_length-cap.result c.net-terminals.ensures.value
    (tree-connects c.args.problem.now c.args.trees.now c.args.n c.requires.minimal c.requires.there)
    (λ small. rw c.wires_of-tree.ensures.value (c.capped_length-cap.ensures.exact small))
    grown.0
    (λ large. grown.1 large c.args.problem.now c.requires.graph)
