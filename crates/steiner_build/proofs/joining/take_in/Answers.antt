use Rattle.std.proofs.Common.{ℕ, List, ◌∷◌, ◌+◌, ◌<◌, length, drop, get_or, sym, subst, arith}
use Rattle.tdm_problem.specs.Board.{Board}
use Rattle.shortest_forest.specs.Labels.{Labels}
use Rattle.board_graph.specs.Graph.{board_of}
use Rattle.shortest_forest.proofs.ClimbLaws.{read_other}
use Rattle.steiner_build.proofs.TakingLaws.{IsTaking, IsTaking-start, IsTaking-more, IsTakenIn-taking, drop-open, drop-all, links-inside}
use Rattle.steiner_build.proofs.joining.take_in.Goals as goal

opened : (board : Board) (goal f : ℕ) (path : List ℕ) (i : ℕ) (old now : Labels) → i < length path
    → IsTaking board goal f path (drop i path) old now
    → IsTaking board goal f path (get_or path i 0 ∷ drop (i + 1) path) old now
opened board goal f path i old now below taking =
    subst (λ (rest : List ℕ). IsTaking board goal f path rest old now) (drop-open path i below) taking

pub loop-e-init : goal.loop-e-init
loop-e-init c = IsTaking-start (board_of c.args.graph.now) c.args.goal c.args.path.now c.args.search.now
    c.requires.path

pub add_source-requires : goal.add_source-requires
add_source-requires c =
    let board = board_of c.args.graph.now in
    let taking = opened board c.args.goal c.loop-e.f c.args.path.now c.loop-e.e-index c.args.search.now
    c.loop-e.search c.loop-e-test.true c.loop-e.invariant in
    let below = links-inside board c.requires.graph.wires (get_or c.args.path.now c.loop-e.e-index 0)
    c.loop-e.f taking.walk.1.1.0 taking.walk.1.1.1 in
    omega (arith, below, taking.size, c.requires.size)

pub wire-requires : goal.wire-requires
wire-requires c =
    let taking = opened (board_of c.args.graph.now) c.args.goal c.loop-e.f c.args.path.now c.loop-e.e-index
    c.args.search.now c.loop-e.search c.loop-e-test.true c.loop-e.invariant in
    taking.walk.1.0

pub loop-e-preserved : goal.loop-e-preserved
loop-e-preserved c =
    let board = board_of c.args.graph.now in
    let e = get_or c.args.path.now c.loop-e.e-index 0 in
    let rest = drop (c.loop-e.e-index + 1) c.args.path.now in
    let taking = opened board c.args.goal c.loop-e.f c.args.path.now c.loop-e.e-index c.args.search.now
    c.loop-e.search c.loop-e-test.true c.loop-e.invariant in
    let u = taking.walk.1.1.0 in
    let links = taking.walk.1.1.1 in
    let below : c.loop-e.f < length c.loop-e.search.labels =
    omega (
      arith,
      links-inside board c.requires.graph.wires e c.loop-e.f u links,
      taking.size,
      c.requires.size,
    ) in
    let end' = read_other board e c.loop-e.f u c.other_end-f.result c.wire.result links c.wire.ensures.there
    c.wire.ensures.joins c.other_end-f.ensures.first c.other_end-f.ensures.second in
    let P : ℕ → Type 0 = λ x. IsTaking board c.args.goal x c.args.path.now rest c.args.search.now
    c.add_source.new.self in
    subst P (sym end'.0)
    (IsTaking-more board c.args.goal c.loop-e.f e u c.args.path.now rest c.args.search.now c.loop-e.search
    c.add_source.new.self taking links below c.in_ok-add_source.ensures.labels
    c.in_ok-add_source.ensures.goals c.in_ok-add_source.ensures.under_way)

pub returns-clause-sources : goal.returns-clause-sources
returns-clause-sources c =
    let P : List ℕ → Type 0 =
    λ rest. IsTaking (board_of c.args.graph.now) c.args.goal c.loop-e.f c.args.path.now rest
    c.args.search.now c.loop-e.search in
    IsTakenIn-taking (board_of c.args.graph.now) c.args.goal c.loop-e.f c.args.path.now c.args.search.now
    c.loop-e.search
    (subst P (drop-all c.args.path.now c.loop-e.e-index c.loop-e-test.false) c.loop-e.invariant)
