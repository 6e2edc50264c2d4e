use Rattle.std.proofs.Common.{◌≡◌, ℕ, ◌-◌, ◌^◌, ◌<◌, ◌≤◌, arith, sym, ap, subst, length}
use Rattle.std.specs.Prelude.{All}
use Rattle.std.specs.List.Sorted.{IsStrictlyIncreasing}
use Rattle.tdm_problem.specs.Board.{Board}
use Rattle.tdm_problem.specs.Walk.{IsMinimalTree, IsConnectable}
use Rattle.tdm_problem.specs.Distance.{length_of}
use Rattle.board_graph.specs.Graph.{Graph, board_of, graph_of}
use Rattle.steiner_build.specs.Building.{IsWithinWalks}
use Rattle.steiner_build.specs.Joining.{IsSomeBeyond}
use Rattle.steiner_build.proofs.JoiningLaws.{tree-minimal, tree-together}
use Rattle.steiner_build.proofs.BuildLaws.{graph-minimal, whole-rising, whole-inside, whole-long, some-by, none-by, beyond-apart}
use Rattle.steiner_build.proofs.TakingLaws.{links-inside}
use Rattle.shortest_forest.proofs.SameBoard.{IsConnectable-same}
use Rattle.steiner_build.proofs.builder.TreeBuilder.grow.Goals as goal

pub join_all-grown-requires-clause-lawful : goal.join_all-grown-requires-clause-lawful
join_all-grown-requires-clause-lawful g c =
    c.requires.lawful c.mark-others.new.search.goals c.mark-others.ensures.goals

pub returns-clause-minimal : goal.returns-clause-minimal
returns-clause-minimal g c =
    let board = board_of c.args.graph.now in
    let l = g.Q.Lengths.length c.args.lengths.now in
    some-by board l c.args.start c.args.terminals.now c.requires.start c.mark-others.new.search
    c.mark-others.ensures.goals c.join_all-grown.new.search c.join_all-grown.new.wires.items
    c.join_all-grown.result
    (λ total. (b : Board) → c.args.graph.now ≡ graph_of b
    → IsMinimalTree b c.sort_unstable.new.self.items c.args.terminals.now)
    c.join_all-grown.ensures.joined
    (λ total none joining. graph-minimal c.args.graph.now c.sort_unstable.new.self.items c.args.terminals.now
    (tree-minimal board l c.args.start c.args.terminals.now c.join_all-grown.new.search
    c.join_all-grown.new.wires.items total joining none c.sort_unstable.new.self.items
    c.sort_unstable.ensures.permutation))

pub returns-clause-rising : goal.returns-clause-rising
returns-clause-rising g c =
    let board = board_of c.args.graph.now in
    let l = g.Q.Lengths.length c.args.lengths.now in
    some-by board l c.args.start c.args.terminals.now c.requires.start c.mark-others.new.search
    c.mark-others.ensures.goals c.join_all-grown.new.search c.join_all-grown.new.wires.items
    c.join_all-grown.result
    (λ total. IsStrictlyIncreasing c.sort_unstable.new.self.items) c.join_all-grown.ensures.joined
    (λ total none joining. whole-rising board l c.args.start c.args.terminals.now c.join_all-grown.new.search
    c.join_all-grown.new.wires.items c.sort_unstable.new.self.items total joining
    c.sort_unstable.ensures.permutation c.sort_unstable.ensures.sorted)

pub returns-clause-inside : goal.returns-clause-inside
returns-clause-inside g c =
    let board = board_of c.args.graph.now in
    let l = g.Q.Lengths.length c.args.lengths.now in
    some-by board l c.args.start c.args.terminals.now c.requires.start c.mark-others.new.search
    c.mark-others.ensures.goals c.join_all-grown.new.search c.join_all-grown.new.wires.items
    c.join_all-grown.result
    (λ total. All (λ (e : ℕ). e < length c.args.graph.now.wires) c.sort_unstable.new.self.items)
    c.join_all-grown.ensures.joined
    (λ total none joining. whole-inside board l c.args.start c.args.terminals.now c.join_all-grown.new.search
    c.join_all-grown.new.wires.items c.sort_unstable.new.self.items total joining
    c.sort_unstable.ensures.permutation)

pub returns-clause-total : goal.returns-clause-total
returns-clause-total g c =
    let board = board_of c.args.graph.now in
    let l = g.Q.Lengths.length c.args.lengths.now in
    some-by board l c.args.start c.args.terminals.now c.requires.start c.mark-others.new.search
    c.mark-others.ensures.goals c.join_all-grown.new.search c.join_all-grown.new.wires.items
    c.join_all-grown.result
    (λ total. total ≡ length_of l c.sort_unstable.new.self.items) c.join_all-grown.ensures.joined
    (λ total none joining. whole-long board l c.args.start c.args.terminals.now c.join_all-grown.new.search
    c.join_all-grown.new.wires.items c.sort_unstable.new.self.items total joining
    c.sort_unstable.ensures.permutation)

pub returns-clause-short : goal.returns-clause-short
returns-clause-short g c =
    let board = board_of c.args.graph.now in
    let l = g.Q.Lengths.length c.args.lengths.now in
    some-by board l c.args.start c.args.terminals.now c.requires.start c.mark-others.new.search
    c.mark-others.ensures.goals c.join_all-grown.new.search c.join_all-grown.new.wires.items
    c.join_all-grown.result
    (λ total. IsWithinWalks board l c.args.start c.args.terminals.now total) c.join_all-grown.ensures.joined
    (λ total none joining. tree-together board l c.args.start c.args.terminals.now c.join_all-grown.new.search
    c.join_all-grown.new.wires.items total joining)

pub returns-clause-far : goal.returns-clause-far
returns-clause-far g c =
    let board = board_of c.args.graph.now in
    let l = g.Q.Lengths.length c.args.lengths.now in
    none-by board l c.args.start c.args.terminals.now c.requires.start c.mark-others.new.search
    c.mark-others.ensures.goals c.args.cap c.join_all-grown.result
    (IsWithinWalks board l c.args.start c.args.terminals.now c.args.cap) c.join_all-grown.ensures.far
    (λ failed. failed.0)

pub returns-clause-apart : goal.returns-clause-apart
returns-clause-apart g c =
    let board = board_of c.args.graph.now in
    let l = g.Q.Lengths.length c.args.lengths.now in
    none-by board l c.args.start c.args.terminals.now c.requires.start c.mark-others.new.search
    c.mark-others.ensures.goals c.args.cap c.join_all-grown.result
    (2 ^ 64 - 2 ^ 51 ≤ c.args.cap → (b : Board) → c.args.graph.now ≡ graph_of b
    → IsConnectable b c.args.terminals.now → ⊥) c.join_all-grown.ensures.far
    (λ failed most b same connectable.
    let whole : c.args.cap ≡ 2 ^ 64 - 2 ^ 51 = omega (arith, most, c.requires.cap) in
    beyond-apart board l (links-inside board c.fpgas.ensures.graph.wires)
    (λ e there. g.met.Q.Lengths.limit c.args.lengths.now e (omega (arith, there, c.requires.lengths)))
    (omega (arith, c.fpgas.ensures.graph.fpga_limit)) c.args.start c.args.terminals.now c.requires.start
    c.requires.there
    (subst (λ (n : ℕ). IsSomeBeyond board l c.args.start c.args.terminals.now n) whole failed.1)
    (IsConnectable-same b board (sym (ap (λ (x : Graph). x.wires) same)) c.args.terminals.now connectable))
