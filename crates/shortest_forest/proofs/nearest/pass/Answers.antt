use Rattle.std.proofs.Common.{ℕ, ◌+◌, ◌<◌, List, length, get_or, sym, ap, subst, arith}
use Rattle.tdm_problem.proofs.Walks.{AnyWire-from_links}
use Rattle.board_graph.specs.declared.neighbour.Neighbour.{Neighbour}
use Rattle.board_graph.specs.Graph.{board_of}
use Rattle.board_graph.specs.Neighbours.{neighbours_of}
use Rattle.shortest_forest.specs.Labels.{IsReached}
use Rattle.shortest_forest.proofs.HopLaws.{Links-below}
use Rattle.shortest_forest.proofs.NeighbourLaws.{Links-from_neighbour}
use Rattle.shortest_forest.proofs.Passing.{IsPassingOn-start, IsPassingOn-more, IsUnderWay-passed}
use Rattle.shortest_forest.proofs.nearest.pass.Goals as goal

pub loop-neighbour-init : goal.loop-neighbour-init
loop-neighbour-init g c =
    IsPassingOn-start c.args.graph.now (g.A.ArcLengths.arc_length c.args.arcs.now)
    (g.B.LowerBounds.lower_bound c.args.bounds.now) c.args.cap c.args.f c.args.distance c.args.search.now
    c.requires.passing

pub arc_len-length-requires : goal.arc_len-length-requires
arc_len-length-requires g c =
    let z : Neighbour = record { wire = 0; fpga = 0 } in
    let exact = c.neighbours-neighbour-items.ensures.exact in
    let links = Links-from_neighbour c.args.graph.now c.args.f c.loop-neighbour.neighbour-index z
    (omega (arith, ap length exact)) in
    let P : List Neighbour → Type 0 = λ ns. (get_or ns c.loop-neighbour.neighbour-index z).wire
    < g.A.ArcLengths.arcs_covered c.args.arcs.now in
    subst P (sym exact) (omega (
      arith,
      c.requires.arcs,
      AnyWire-from_links (board_of c.args.graph.now) _ c.args.f _ links,
    ))

pub overflow_add-far : goal.overflow_add-far
overflow_add-far g c =
    let z : Neighbour = record { wire = 0; fpga = 0 } in
    let exact = c.neighbours-neighbour-items.ensures.exact in
    let links = Links-from_neighbour c.args.graph.now c.args.f c.loop-neighbour.neighbour-index z
    (omega (arith, ap length exact)) in
    let P : List Neighbour → Type 0 = λ ns. (get_or ns c.loop-neighbour.neighbour-index z).wire
    < g.A.ArcLengths.arcs_covered c.args.arcs.now in
    let there : (get_or c.neighbours-neighbour-items.result.now c.loop-neighbour.neighbour-index z).wire
    < g.A.ArcLengths.arcs_covered c.args.arcs.now =
    subst P (sym exact) (omega (
      arith,
      c.requires.arcs,
      AnyWire-from_links (board_of c.args.graph.now) _ c.args.f _ links,
    )) in
    let x = get_or c.neighbours-neighbour-items.result.now c.loop-neighbour.neighbour-index z in
    omega (
      arith,
      c.requires.small,
      c.arc_len-length.ensures,
      g.met.A.ArcLengths.arc_limit c.args.arcs.now x.wire c.args.f x.fpga there,
    )

pub reach-requires : goal.reach-requires
reach-requires g c =
    let z : Neighbour = record { wire = 0; fpga = 0 } in
    let exact = c.neighbours-neighbour-items.ensures.exact in
    let links = Links-from_neighbour c.args.graph.now c.args.f c.loop-neighbour.neighbour-index z
    (omega (arith, ap length exact)) in
    let below = Links-below (board_of c.args.graph.now) c.neighbours-neighbour-items.ensures.graph.wires
    _ c.args.f _ links in
    let P : List Neighbour → Type 0 = λ ns. (get_or ns c.loop-neighbour.neighbour-index z).fpga
    < c.args.graph.now.fpgas in
    let there = subst P (sym exact) below in
    record {
      there = omega (arith, there, c.loop-neighbour.invariant.passing.labelled.count);
      bounds = omega (arith, there, c.requires.bounds);
    }

pub loop-neighbour-preserved : goal.loop-neighbour-preserved
loop-neighbour-preserved g c =
    let z : Neighbour = record { wire = 0; fpga = 0 } in
    let exact = c.neighbours-neighbour-items.ensures.exact in
    let within : c.loop-neighbour.neighbour-index < length (neighbours_of c.args.graph.now c.args.f) =
    omega (arith, ap length exact) in
    let links = Links-from_neighbour c.args.graph.now c.args.f c.loop-neighbour.neighbour-index z within in
    let below = Links-below (board_of c.args.graph.now) c.neighbours-neighbour-items.ensures.graph.wires
    _ c.args.f _ links in
    let bound = g.B.LowerBounds.lower_bound c.args.bounds.now in
    let arcs = g.A.ArcLengths.arc_length c.args.arcs.now in
    let k = c.loop-neighbour.neighbour-index in
    let Q : ℕ → Type 0 =
    λ n. IsReached bound c.args.cap (get_or c.neighbours-neighbour-items.result.now k z).fpga
    (get_or c.neighbours-neighbour-items.result.now k z).wire (c.args.distance + n)
    c.loop-neighbour.search c.reach.new.search in
    let P : List Neighbour → Type 0 = λ ns. IsReached bound c.args.cap (get_or ns k z).fpga
    (get_or ns k z).wire (c.args.distance + arcs (get_or ns k z).wire c.args.f (get_or ns k z).fpga)
    c.loop-neighbour.search c.reach.new.search in
    IsPassingOn-more c.args.graph.now arcs bound c.args.cap c.args.f c.args.distance k c.args.search.now
    c.loop-neighbour.search c.reach.new.search z within c.loop-neighbour.invariant links
    (omega (arith, below, c.loop-neighbour.invariant.passing.labelled.count))
    (subst P exact (subst Q c.arc_len-length.ensures c.in_ok-reach.ensures.reached))

pub returns-clause-under_way : goal.returns-clause-under_way
returns-clause-under_way g c =
    IsUnderWay-passed c.args.graph.now (g.A.ArcLengths.arc_length c.args.arcs.now)
    (g.B.LowerBounds.lower_bound c.args.bounds.now) c.args.cap c.args.f c.args.distance
    c.loop-neighbour.neighbour-index c.args.search.now c.loop-neighbour.search c.loop-neighbour.invariant
    (omega (arith, ap length c.neighbours-neighbour-items.ensures.exact))
