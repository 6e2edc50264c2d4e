use Rattle.std.proofs.Common.{◌≡◌, ℕ, Option, Some, None, length, slice_index, sym, ap, ◌∙◌, subst, arith, refl, false, not}
use Rattle.std.specs.Prelude.{is_some, List, Bool}
use Rattle.std.specs.Ordering.{nat_cmp}
use Rattle.std.specs.List.Sorted.{IsPermutation, IsSorted}
use Rattle.std.proofs.lemmas.Bool.{false≢true}
use Rattle.std.proofs.lemmas.List.Elements.{Contains-get_or}
use Rattle.tdm_problem.specs.Board.{Board}
use Rattle.board_graph.specs.Graph.{Graph, IsGraph, graph_of, board_of}
use Rattle.shortest_forest.specs.Baseline.{IsBaseTree}
use Rattle.shortest_forest.specs.Reach.{Reach, HasHops}
use Rattle.shortest_forest.proofs.BaselineLaws.{base-tree-minimal}
use Rattle.shortest_forest.proofs.SameBoard.{IsBaseTree-same, IsConnectable-same}
use Rattle.shortest_forest.proofs.ClimbLaws.{IsGathered, IsGathered-more, IsBaseTree-gathered, at_terminal, distance_from}
use Rattle.shortest_forest.proofs.Connected.{IsConnectable-from_distances, not_connectable}
use Rattle.shortest_forest.proofs.baseline.BaseTrees.build.Goals as goal

pub dist-requires : goal.dist-requires
dist-requires c =
    let hops = c.requires.hops.on_board (board_of c.args.graph.now) refl in
    omega (arith, hops.distances.count, c.requires.there c.loop-t.t-index 0 c.loop-t-test.true)

none_from : (x : Option ℕ) → is_some x ≡ false → x ≡ None
none_from None is = refl
none_from (Some d) is = absurd (false≢true (sym is))

pub returns-then-is_none-clause-none : goal.returns-then-is_none-clause-none
returns-then-is_none-clause-none c = λ _ board same.
    let hops = c.requires.hops.on_board board same in
    let t = slice_index c.args.terminals.now c.loop-t.t-index in
    let there = c.requires.there c.loop-t.t-index 0 c.loop-t-test.true in
    let none = sym c.dist.ensures ∙ none_from c.dist.result (c.is_none.ensures ∙ ap not c.if-is_none.true) in
    not_connectable board c.args.forest.now hops c.args.terminals.now c.requires.rooted t
    (omega (arith, there, ap (λ (g : Graph). g.fpgas) same))
    (Contains-get_or c.args.terminals.now c.loop-t.t-index 0 c.loop-t-test.true) none

pub loop-t-preserved : goal.loop-t-preserved
loop-t-preserved c =
    let some = ap is_some (sym c.dist.ensures) ∙ c.is_none.ensures ∙ ap not c.if-is_none.false in
    let at = distance_from c.args.forest.now (slice_index c.args.terminals.now c.loop-t.t-index) some in
    IsGathered-more (board_of c.args.graph.now) c.args.forest.now c.args.terminals.now c.loop-t.t-index at.0
    c.loop-t.self-inside.marks c.climb.new.marks c.loop-t.self-inside.wires.items c.climb.new.wires.items
    c.loop-t.invariant c.loop-t-test.true at.1 c.in_ok-climb.ensures.collected
    c.in_ok-climb.ensures.marked c.in_ok-climb.ensures.kept c.in_ok-climb.ensures.above

gathered_base : (graph : Graph) (reach : Reach) (terminals : List ℕ) (n : ℕ) (marks : List Bool)
    (wires sorted : List ℕ) → IsGraph graph → HasHops (board_of graph) reach
    → IsGathered (board_of graph) reach terminals n marks wires → n ≡ length terminals
    → IsPermutation wires sorted → IsSorted nat_cmp sorted → (board : Board) → graph ≡ graph_of board
    → IsBaseTree board reach.root terminals sorted
gathered_base graph reach terminals n marks wires sorted is_graph hops gathered all moved in_order board same
    =
    let whole = subst (λ (k : ℕ). IsGathered (board_of graph) reach terminals k marks wires) all gathered in
    IsBaseTree-same (board_of graph) board (ap (λ (g : Graph). g.wires) same) reach.root terminals sorted
    (IsBaseTree-gathered (board_of graph) reach hops is_graph.wires terminals marks wires whole sorted moved
    in_order)

pub returns-clause-some : goal.returns-clause-some
returns-clause-some c = λ _ board same.
    let hops = c.requires.hops.on_board (board_of c.args.graph.now) refl in
    let all : c.loop-t.t-index ≡ length c.args.terminals.now = omega arith in
    let whole = subst (λ (k : ℕ). IsGathered (board_of c.args.graph.now) c.args.forest.now
    c.args.terminals.now k c.loop-t.self-inside.marks c.loop-t.self-inside.wires.items) all
    c.loop-t.invariant in
    IsConnectable-same (board_of c.args.graph.now) board (ap (λ (g : Graph). g.wires) same)
    c.args.terminals.now
    (IsConnectable-from_distances (board_of c.args.graph.now) c.args.forest.now hops c.args.terminals.now
    (at_terminal (board_of c.args.graph.now) c.args.forest.now hops c.fpgas-fpgas.ensures.graph.wires
    c.args.terminals.now c.loop-t.self-inside.marks c.loop-t.self-inside.wires.items whole))

pub returns-clause-base : goal.returns-clause-base
returns-clause-base c = λ _.
    gathered_base c.args.graph.now c.args.forest.now c.args.terminals.now c.loop-t.t-index
    c.loop-t.self-inside.marks c.loop-t.self-inside.wires.items c.sort_unstable.new.self.items
    c.fpgas-fpgas.ensures.graph (c.requires.hops.on_board (board_of c.args.graph.now) refl)
    c.loop-t.invariant (omega arith) c.sort_unstable.ensures.permutation c.sort_unstable.ensures.sorted

pub returns-clause-minimal : goal.returns-clause-minimal
returns-clause-minimal c = λ _ board same.
    base-tree-minimal board c.args.forest.now.root c.args.terminals.now c.sort_unstable.new.self.items
    c.requires.rooted
    (gathered_base c.args.graph.now c.args.forest.now c.args.terminals.now c.loop-t.t-index
    c.loop-t.self-inside.marks c.loop-t.self-inside.wires.items c.sort_unstable.new.self.items
    c.fpgas-fpgas.ensures.graph (c.requires.hops.on_board (board_of c.args.graph.now) refl)
    c.loop-t.invariant (omega arith) c.sort_unstable.ensures.permutation c.sort_unstable.ensures.sorted
    board same)
