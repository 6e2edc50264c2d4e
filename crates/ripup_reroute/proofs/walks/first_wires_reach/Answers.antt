use Rattle.std.proofs.Common.{ℕ, ◌+◌, ◌*◌, ◌<◌, List, length, get_or, sym, ap, subst, arith}
use Rattle.std.specs.Prelude.{slice_index}
use Rattle.tdm_problem.proofs.Walks.{AnyWire-from_links}
use Rattle.board_graph.specs.declared.neighbour.Neighbour.{Neighbour}
use Rattle.board_graph.specs.Graph.{board_of}
use Rattle.shortest_forest.proofs.HopLaws.{Links-below}
use Rattle.shortest_forest.proofs.NeighbourLaws.{Links-from_neighbour}
use Rattle.ripup_reroute.proofs.FirstWires.{no_neighbour, reach_by, DoReach-more, walks-reach}
use Rattle.ripup_reroute.proofs.walks.first_wires_reach.Goals as goal

pub len_of-length-requires : goal.len_of-length-requires
len_of-length-requires c =
    let k = c.loop-neighbour.neighbour-index in
    let exact = c.neighbours-neighbour-items.ensures.exact in
    let count = length c.args.lengths.now.loads.now in
    let links = Links-from_neighbour c.args.graph.now c.args.a k no_neighbour
    (omega (arith, ap length exact)) in
    let wire = AnyWire-from_links (board_of c.args.graph.now) _ c.args.a _ links in
    let P : List Neighbour → Type 0 = λ ns. (get_or ns k no_neighbour).wire < count in
    subst P (sym exact) (omega (arith, c.requires.covered, wire))

pub bound-bound-requires-clause-b : goal.bound-bound-requires-clause-b
bound-bound-requires-clause-b c =
    let k = c.loop-neighbour.neighbour-index in
    let exact = c.neighbours-neighbour-items.ensures.exact in
    let graph = c.neighbours-neighbour-items.ensures.graph in
    let links = Links-from_neighbour c.args.graph.now c.args.a k no_neighbour
    (omega (arith, ap length exact)) in
    let below = Links-below (board_of c.args.graph.now) graph.wires _ c.args.a _ links in
    let P : List Neighbour → Type 0 = λ ns. (get_or ns k no_neighbour).fpga < c.args.table.now.fpgas in
    subst P (sym exact) (omega (arith, below, c.requires.table.fpgas))

pub overflow_add-length : goal.overflow_add-length
overflow_add-length c =
    let k = c.loop-neighbour.neighbour-index in
    let items = c.neighbours-neighbour-items.result.now in
    let exact = c.neighbours-neighbour-items.ensures.exact in
    let count = length c.args.lengths.now.loads.now in
    let links = Links-from_neighbour c.args.graph.now c.args.a k no_neighbour
    (omega (arith, ap length exact)) in
    let wire = AnyWire-from_links (board_of c.args.graph.now) _ c.args.a _ links in
    let P : List Neighbour → Type 0 = λ ns. (get_or ns k no_neighbour).wire < count in
    let there : (get_or items k no_neighbour).wire < count =
    subst P (sym exact) (omega (arith, c.requires.covered, wire)) in
    omega (
      arith,
      c.len_of-length.ensures,
      c.bound-bound.ensures.small,
      c.args.lengths.now.small (get_or items k no_neighbour).wire 0 there,
    )

pub loop-neighbour-preserved : goal.loop-neighbour-preserved
loop-neighbour-preserved c =
    let wire_length : ℕ → ℕ = λ e. 2 * slice_index c.args.lengths.now.loads.now e + c.args.lengths.now.own in
    let table = c.args.table.now in
    let k = c.loop-neighbour.neighbour-index in
    let exact = c.neighbours-neighbour-items.ensures.exact in
    let f : List Neighbour → ℕ =
    λ ns. reach_by table c.args.scale wire_length c.args.b (get_or ns k no_neighbour) in
    DoReach-more c.args.graph.now table c.args.scale wire_length c.args.a c.args.b c.args.cap k
    c.loop-neighbour.invariant
    (omega (
      arith,
      ap f exact,
      c.len_of-length.ensures,
      c.bound-bound.ensures.value,
      c.if-length-bound.false,
    ))

pub returns : goal.returns
returns c _ =
    let exact = c.neighbours-neighbour-items.ensures.exact in
    let wire_length : ℕ → ℕ = λ e. 2 * slice_index c.args.lengths.now.loads.now e + c.args.lengths.now.own in
    walks-reach c.args.graph.now c.args.table.now c.args.scale wire_length c.args.a c.args.b c.args.cap
    c.requires.table c.requires.scaled c.requires.b (λ same. omega (arith, same, c.if-a-b.false))
    (λ k below. c.loop-neighbour.invariant k
    (omega (arith, below, c.loop-neighbour-test.false, ap length exact)))
