use Rattle.std.proofs.Common.{ℕ, List, ◌<◌, arith, sym, subst, length}
use Rattle.board_graph.specs.Graph.{board_of}
use Rattle.shortest_forest.specs.Arcs.{both_ways}
use Rattle.steiner_build.proofs.ComposingLaws.{IsComposing, IsComposing-start, IsComposing-more, composing-far, composing-beyond, composing-done}
use Rattle.steiner_build.proofs.TakingLaws.{links-inside}
use Rattle.steiner_build.proofs.joining.join_all.Goals as goal

pub loop-left-init : goal.loop-left-init
loop-left-init g c =
    let board = board_of c.args.graph.now in
    let l = g.Q.Lengths.length c.args.lengths.now in
    let bound = g.B.LowerBounds.lower_bound c.args.bounds.now in
    let within : c.args.start < length c.args.search.now.labels = omega (
      arith,
      c.requires.start,
      c.requires.under_way.labelled.count,
    ) in
    let P : List ℕ → Type 0 = λ wires. IsComposing board l bound c.args.cap c.args.start c.args.search.now
    c.add_source.new.self wires 0 c.args.others in
    let start = IsComposing-start board l bound c.args.cap c.args.start c.args.search.now
    c.add_source.new.self c.args.others c.args.graph.now.fpgas c.requires.some c.requires.start
    c.requires.count c.requires.begun within
    (c.in_ok-add_source.ensures.under_way board (both_ways l) bound c.args.cap c.requires.under_way)
    c.add_source.ensures.goals c.in_ok-add_source.ensures.labels in
    record {
      composing = subst P (sym c.requires.none) start;
      lawful = subst (g.B.TreeBounds.are_true c.args.bounds.now board l) (sym c.add_source.ensures.goals)
          c.requires.lawful;
      covered = c.requires.bounds;
    }

pub overflow_add-total : goal.overflow_add-total
overflow_add-total g c =
    let near = rw c.in-Some.is at c.in_ok-distance.ensures.below in
    omega (arith, near, c.loop-left.invariant.composing.below, c.requires.cap)

pub loop-left-preserved : goal.loop-left-preserved
loop-left-preserved g c =
    let board = board_of c.args.graph.now in
    let l = g.Q.Lengths.length c.args.lengths.now in
    let step = rw c.in-Some.is at c.in_ok-distance.ensures.joined in
    let near = rw c.in-Some.is at c.in_ok-distance.ensures.below in
    record {
      composing = IsComposing-more board l (g.B.LowerBounds.lower_bound c.loop-left.bounds) c.args.cap
          c.args.start c.args.search.now c.loop-left.search c.loop-left.wires.items c.loop-left.total
          c.loop-left.left c.loop-left.invariant.composing (links-inside board c.requires.graph.wires)
          c.join_nearest.new.search (g.B.LowerBounds.lower_bound c.join_nearest.new.bounds)
          c.join_nearest.new.wires.items c.in-Some.distance step near c.in_ok-distance.ensures.under_way
          c.join_nearest.ensures.count c.join_nearest.ensures.size c.join_nearest.ensures.goals;
      lawful = rw c.in-Some.is at c.in_ok-distance.ensures.lawful;
      covered = omega (arith, c.loop-left.invariant.covered, c.join_nearest.ensures.covered);
    }

pub returns-in-None-clause-far : goal.returns-in-None-clause-far
returns-in-None-clause-far g c = λ terminals root others.
    let board = board_of c.args.graph.now in
    let l = g.Q.Lengths.length c.args.lengths.now in
    let bound = g.B.LowerBounds.lower_bound c.loop-left.bounds in
    let far = rw c.in-None.is at c.in_ok-distance.ensures.far in (
      composing-far board l bound c.args.cap c.args.start c.args.search.now c.loop-left.search
          c.loop-left.wires.items c.loop-left.total c.loop-left.left c.loop-left.invariant.composing
          c.loop-left-test.true far terminals root others,
      composing-beyond board l bound c.args.cap c.args.start c.args.search.now c.loop-left.search
          c.loop-left.wires.items c.loop-left.total c.loop-left.left c.loop-left.invariant.composing
          (λ e there. g.met.Q.Lengths.limit c.args.lengths.now e (omega (arith, there, c.requires.lengths)))
          (omega (arith, c.requires.graph.fpga_limit)) c.loop-left-test.true far terminals root others,
    )

pub returns-clause-joined : goal.returns-clause-joined
returns-clause-joined g c = (
  composing-done (board_of c.args.graph.now) (g.Q.Lengths.length c.args.lengths.now)
      (g.B.LowerBounds.lower_bound c.loop-left.bounds) c.args.cap c.args.start c.args.search.now
      c.loop-left.search c.loop-left.wires.items c.loop-left.total c.loop-left.left
      c.loop-left.invariant.composing (omega (arith, c.loop-left-test.false)),
  c.loop-left.invariant.composing.joining,
)
