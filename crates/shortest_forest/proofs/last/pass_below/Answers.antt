use Rattle.std.proofs.Common.{◌≡◌, ℕ, ◌+◌, ◌<◌, ◌⊎◌, List, length, get_or, sym, ap, subst, arith}
use Rattle.tdm_problem.proofs.Walks.{AnyWire-from_links}
use Rattle.board_graph.specs.declared.neighbour.Neighbour.{Neighbour}
use Rattle.board_graph.specs.Graph.{board_of}
use Rattle.board_graph.specs.Neighbours.{neighbours_of}
use Rattle.shortest_forest.specs.Arcs.{IsGoal}
use Rattle.shortest_forest.specs.Labels.{IsReached}
use Rattle.shortest_forest.proofs.HopLaws.{Links-below}
use Rattle.shortest_forest.proofs.NeighbourLaws.{Links-from_neighbour}
use Rattle.shortest_forest.proofs.Passing.{IsPassingOn-start, IsUnderWay-passed}
use Rattle.shortest_forest.proofs.LastGoal.{leaves-less, leaves-passed, leaves-limited}
use Rattle.shortest_forest.proofs.last.pass_below.Goals as goal

pub loop-neighbour-init : goal.loop-neighbour-init
loop-neighbour-init g c = (
  IsPassingOn-start c.args.graph.now (g.A.ArcLengths.arc_length c.args.arcs.now) (λ _. 0) c.args.cap c.args.f
      c.args.distance c.args.search.now c.requires.passing,
  omega arith,
  λ whole limited. limited,
)

pub arc_len-length-requires : goal.arc_len-length-requires
arc_len-length-requires g c =
    let z : Neighbour = record { wire = 0; fpga = 0 } in
    let exact = c.neighbours-neighbour-items.ensures.exact in
    let links = Links-from_neighbour c.args.graph.now c.args.f c.loop-neighbour.neighbour-index z
    (omega (arith, ap length exact)) in
    let P : List Neighbour → Type 0 = λ ns. (get_or ns c.loop-neighbour.neighbour-index z).wire
    < g.A.ArcLengths.arcs_covered c.args.arcs.now in
    subst P (sym exact) (omega (
      arith,
      c.requires.arcs,
      AnyWire-from_links (board_of c.args.graph.now) _ c.args.f _ links,
    ))

pub overflow_add-far : goal.overflow_add-far
overflow_add-far g c =
    let z : Neighbour = record { wire = 0; fpga = 0 } in
    let exact = c.neighbours-neighbour-items.ensures.exact in
    let links = Links-from_neighbour c.args.graph.now c.args.f c.loop-neighbour.neighbour-index z
    (omega (arith, ap length exact)) in
    let P : List Neighbour → Type 0 = λ ns. (get_or ns c.loop-neighbour.neighbour-index z).wire
    < g.A.ArcLengths.arcs_covered c.args.arcs.now in
    let there : (get_or c.neighbours-neighbour-items.result.now c.loop-neighbour.neighbour-index z).wire
    < g.A.ArcLengths.arcs_covered c.args.arcs.now =
    subst P (sym exact) (omega (
      arith,
      c.requires.arcs,
      AnyWire-from_links (board_of c.args.graph.now) _ c.args.f _ links,
    )) in
    let x = get_or c.neighbours-neighbour-items.result.now c.loop-neighbour.neighbour-index z in
    omega (
      arith,
      c.requires.small,
      c.arc_len-length.ensures,
      g.met.A.ArcLengths.arc_limit c.args.arcs.now x.wire c.args.f x.fpga there,
    )

pub reach_below-requires-clause-there : goal.reach_below-requires-clause-there
reach_below-requires-clause-there g c =
    let z : Neighbour = record { wire = 0; fpga = 0 } in
    let exact = c.neighbours-neighbour-items.ensures.exact in
    let links = Links-from_neighbour c.args.graph.now c.args.f c.loop-neighbour.neighbour-index z
    (omega (arith, ap length exact)) in
    let below = Links-below (board_of c.args.graph.now) c.neighbours-neighbour-items.ensures.graph.wires
    _ c.args.f _ links in
    let P : List Neighbour → Type 0 = λ ns. (get_or ns c.loop-neighbour.neighbour-index z).fpga
    < c.args.graph.now.fpgas in
    omega (arith, subst P (sym exact) below, c.loop-neighbour.invariant.0.passing.labelled.count)

pub reach_below-requires-clause-few : goal.reach_below-requires-clause-few
reach_below-requires-clause-few g c =
    let z : Neighbour = record { wire = 0; fpga = 0 } in
    let exact = c.neighbours-neighbour-items.ensures.exact in
    let links = Links-from_neighbour c.args.graph.now c.args.f c.loop-neighbour.neighbour-index z
    (omega (arith, ap length exact)) in
    let below = Links-below (board_of c.args.graph.now) c.neighbours-neighbour-items.ensures.graph.wires
    _ c.args.f _ links in
    let P : List Neighbour → Type 0 = λ ns. (get_or ns c.loop-neighbour.neighbour-index z).fpga
    < c.args.graph.now.fpgas in
    omega (arith, subst P (sym exact) below, c.requires.few)

pub loop-neighbour-preserved : goal.loop-neighbour-preserved
loop-neighbour-preserved g c =
    let z : Neighbour = record { wire = 0; fpga = 0 } in
    let exact = c.neighbours-neighbour-items.ensures.exact in
    let within : c.loop-neighbour.neighbour-index < length (neighbours_of c.args.graph.now c.args.f) =
    omega (arith, ap length exact) in
    let links = Links-from_neighbour c.args.graph.now c.args.f c.loop-neighbour.neighbour-index z within in
    let below = Links-below (board_of c.args.graph.now) c.neighbours-neighbour-items.ensures.graph.wires
    _ c.args.f _ links in
    let was = c.loop-neighbour.invariant in
    let board = board_of c.args.graph.now in
    let arcs = g.A.ArcLengths.arc_length c.args.arcs.now in
    let k = c.loop-neighbour.neighbour-index in
    let limit = c.loop-neighbour.limit in
    let Q : ℕ → Type 0 =
    λ n. IsReached (λ _. 0) limit (get_or c.neighbours-neighbour-items.result.now k z).fpga
    (get_or c.neighbours-neighbour-items.result.now k z).wire (c.args.distance + n)
    c.loop-neighbour.search c.reach_below.new.search in
    let P : List Neighbour → Type 0 = λ ns. IsReached (λ _. 0) limit (get_or ns k z).fpga
    (get_or ns k z).wire (c.args.distance + arcs (get_or ns k z).wire c.args.f (get_or ns k z).fpga)
    c.loop-neighbour.search c.reach_below.new.search in
    let reached = subst P exact (subst Q c.arc_len-length.ensures c.in_ok-limit.ensures.reached) in
    let left = c.in_ok-limit.limit in
    let goals = c.reach_below.new.search.goals in
    let L : ℕ → Type 0 = λ n. (left ≡ limit)
    ⊎ (IsGoal goals (get_or c.neighbours-neighbour-items.result.now k z).fpga × (c.args.distance + n < limit)
    × (left ≡ c.args.distance + n + 1)) in
    let M : List Neighbour → Type 0 = λ ns. (left ≡ limit) ⊎ (IsGoal goals (get_or ns k z).fpga
    × (c.args.distance + arcs (get_or ns k z).wire c.args.f (get_or ns k z).fpga < limit)
    × (left ≡ c.args.distance + arcs (get_or ns k z).wire c.args.f (get_or ns k z).fpga + 1)) in
    let leaves = subst M exact (subst L c.arc_len-length.ensures c.in_ok-limit.ensures.limit) in
    let there : (get_or (neighbours_of c.args.graph.now c.args.f) k z).fpga
    < length c.loop-neighbour.search.labels = omega (arith, below, was.0.passing.labelled.count) in (
      leaves-passed c.args.graph.now arcs limit c.args.f c.args.distance k c.args.search.now
          c.loop-neighbour.search c.reach_below.new.search z within was.0 links there reached left leaves,
      omega (
        arith,
        was.1,
        leaves-less c.args.graph.now arcs limit c.args.f c.args.distance k c.args.search.now
            c.loop-neighbour.search c.reach_below.new.search z within was.0 links there reached left leaves,
      ),
      λ whole limited. leaves-limited c.args.graph.now arcs limit c.args.f c.args.distance k
          c.args.search.now c.loop-neighbour.search c.reach_below.new.search z within was.0 links there
          reached left whole leaves (was.2 whole limited),
    )

pub returns-clause-under_way : goal.returns-clause-under_way
returns-clause-under_way g c =
    IsUnderWay-passed c.args.graph.now (g.A.ArcLengths.arc_length c.args.arcs.now) (λ _. 0)
    c.loop-neighbour.limit c.args.f c.args.distance c.loop-neighbour.neighbour-index c.args.search.now
    c.loop-neighbour.search c.loop-neighbour.invariant.0
    (omega (arith, ap length c.neighbours-neighbour-items.ensures.exact))
