use Rattle.std.proofs.Common.{◌≡◌, ℕ, List, [], ◌∷◌, ◌++◌, Option, Some, None, set, slice_index, slice_index_or, ap, ◌∙◌, arith, rules}
use Rattle.std.specs.Prelude.{replicate}
use Rattle.board_graph.specs.Graph.{board_of}
use Rattle.shortest_forest.proofs.BreadthFirstLaws.{none_at, IsSearch-start, AreHops-from_search, distance-lt}
use Rattle.shortest_forest.proofs.breadth_first.distances_from.Goals as goal

pub loop-head-init : goal.loop-head-init
loop-head-init c =
    let none : List (Option ℕ) = replicate c.args.graph.now.fpgas None in
    let items : c.in_ok-distances.distances.items ≡ none =
    c.in_ok-distances.ensures.items_if_clones_equal (search rules)
    ∙ ap (λ n. replicate n None) c.fpgas-fpgas.ensures.value in
    let open' = ap (λ xs. slice_index_or xs c.args.source None) items
    ∙ none_at c.args.graph.now.fpgas c.args.source in
    let new = c.in_ok-reach.ensures.new open' in
    let queue : c.reach.new.queue.items ≡ c.args.source ∷ [] =
    new.1 ∙ ap (λ xs. xs ++ c.args.source ∷ []) c.in_ok-queue.ensures.items in (
      IsSearch-start (board_of c.args.graph.now) c.args.source c.reach.new.distances.items
          c.reach.new.queue.items c.requires (new.0 ∙ ap (λ xs. set xs c.args.source (Some 0)) items) queue,
      ap (λ xs. slice_index xs 0) queue,
    )

pub loop-head-preserved : goal.loop-head-preserved
loop-head-preserved c = (c.in_ok-pass.ensures.search, c.in_ok-pass.ensures.first ∙ c.loop-head.invariant.1)

pub returns-clause-hops : goal.returns-clause-hops
returns-clause-hops c =
    AreHops-from_search (board_of c.args.graph.now) c.args.source c.loop-head.distances.items
    c.loop-head.queue.items c.loop-head.head c.loop-head.invariant.0 (omega arith) c.loop-head.invariant.1

pub returns-clause-few : goal.returns-clause-few
returns-clause-few c =
    distance-lt (board_of c.args.graph.now) c.loop-head.distances.items c.loop-head.queue.items
    c.loop-head.head c.loop-head.invariant.0
