use Rattle.std.proofs.Common.{◌≡◌, ℕ, ◌+◌, ◌<◌, List, length, get_or, slice_index, sym, ap, ◌∙◌, subst, arith}
use Rattle.board_graph.specs.declared.neighbour.Neighbour.{Neighbour}
use Rattle.board_graph.specs.Graph.{board_of}
use Rattle.board_graph.specs.Neighbours.{neighbours_of}
use Rattle.shortest_forest.specs.BreadthFirst.{IsReached}
use Rattle.shortest_forest.proofs.PassLaws.{neighbour-below, head_there, head_distance, IsPassing, IsPassing-more, IsSearch-passed}
use Rattle.shortest_forest.proofs.breadth_first.pass.Goals as goal

pub index-requires : goal.index-requires
index-requires c =
    let there = head_there (board_of c.args.graph.now) c.args.distances.now.items c.args.queue.now.items
    c.args.head c.index-f.result.now c.requires.search c.requires.waiting c.index-f.ensures in
    omega (arith, there.1, c.requires.search.count)

pub overflow_add-next : goal.overflow_add-next
overflow_add-next c =
    let low = head_distance (board_of c.args.graph.now) c.args.distances.now.items c.args.queue.now.items
    c.args.head c.index-f.result.now c.index.result.now c.unwrap_or-next.result c.requires.search
    c.requires.waiting c.index-f.ensures c.index.ensures c.unwrap_or-next.ensures in
    omega (arith, low.1, c.requires.waiting, c.args.queue.now.ok, c.args.queue.now.small)

pub neighbours-neighbour-items-requires : goal.neighbours-neighbour-items-requires
neighbours-neighbour-items-requires c =
    (head_there (board_of c.args.graph.now) c.args.distances.now.items c.args.queue.now.items c.args.head
    c.index-f.result.now c.requires.search c.requires.waiting c.index-f.ensures).1

pub reach-requires : goal.reach-requires
reach-requires c =
    let exact = c.neighbours-neighbour-items.ensures.exact in
    let z : Neighbour = record { wire = 0; fpga = 0 } in
    let P : List Neighbour → Type 0 = λ ns. (get_or ns c.loop-neighbour.neighbour-index z).fpga
    < length c.loop-neighbour.distances.items in
    subst P (sym exact) (omega (
      arith,
      c.loop-neighbour.invariant.search.count,
      neighbour-below c.args.graph.now c.neighbours-neighbour-items.ensures.graph c.index-f.result.now
          c.loop-neighbour.neighbour-index z (omega (arith, ap length exact)),
    ))

pub loop-neighbour-preserved : goal.loop-neighbour-preserved
loop-neighbour-preserved c =
    let there = head_there (board_of c.args.graph.now) c.args.distances.now.items c.args.queue.now.items
    c.args.head c.index-f.result.now c.requires.search c.requires.waiting c.index-f.ensures in
    let here = head_distance (board_of c.args.graph.now) c.args.distances.now.items c.args.queue.now.items
    c.args.head c.index-f.result.now c.index.result.now c.unwrap_or-next.result c.requires.search
    c.requires.waiting c.index-f.ensures c.index.ensures c.unwrap_or-next.ensures in
    let z : Neighbour = record { wire = 0; fpga = 0 } in
    let exact : c.neighbours-neighbour-items.result.now ≡ neighbours_of c.args.graph.now
    (slice_index c.args.queue.now.items c.args.head) = c.neighbours-neighbour-items.ensures.exact
    ∙ ap (neighbours_of c.args.graph.now) there.0 in
    let P : List Neighbour → Type 0 = λ ns. IsReached (get_or ns c.loop-neighbour.neighbour-index z).fpga
    (c.unwrap_or-next.result + 1) c.loop-neighbour.distances.items c.reach.new.distances.items
    c.loop-neighbour.queue.items c.reach.new.queue.items in
    IsPassing-more c.args.graph.now c.args.head c.unwrap_or-next.result c.loop-neighbour.neighbour-index
    c.args.distances.now.items c.loop-neighbour.distances.items c.reach.new.distances.items
    c.args.queue.now.items c.loop-neighbour.queue.items c.reach.new.queue.items z
    c.neighbours-neighbour-items.ensures.graph c.requires.waiting here.0 c.loop-neighbour.invariant
    (omega (arith, ap length exact)) (subst P exact c.in_ok-reach.ensures)

pub returns-clause-search : goal.returns-clause-search
returns-clause-search c =
    let there = head_there (board_of c.args.graph.now) c.args.distances.now.items c.args.queue.now.items
    c.args.head c.index-f.result.now c.requires.search c.requires.waiting c.index-f.ensures in
    let here = head_distance (board_of c.args.graph.now) c.args.distances.now.items c.args.queue.now.items
    c.args.head c.index-f.result.now c.index.result.now c.unwrap_or-next.result c.requires.search
    c.requires.waiting c.index-f.ensures c.index.ensures c.unwrap_or-next.ensures in
    let exact : c.neighbours-neighbour-items.result.now ≡ neighbours_of c.args.graph.now
    (slice_index c.args.queue.now.items c.args.head) = c.neighbours-neighbour-items.ensures.exact
    ∙ ap (neighbours_of c.args.graph.now) there.0 in
    let all : c.loop-neighbour.neighbour-index
    ≡ length (neighbours_of c.args.graph.now (slice_index c.args.queue.now.items c.args.head)) =
    omega (arith, ap length exact) in
    let P : ℕ → Type 0 = λ n. IsPassing c.args.graph.now c.args.head c.args.distances.now.items
    c.loop-neighbour.distances.items c.args.queue.now.items c.loop-neighbour.queue.items n in
    IsSearch-passed c.args.graph.now c.args.head c.unwrap_or-next.result c.args.distances.now.items
    c.loop-neighbour.distances.items c.args.queue.now.items c.loop-neighbour.queue.items
    c.requires.waiting here.0 (subst P all c.loop-neighbour.invariant)
