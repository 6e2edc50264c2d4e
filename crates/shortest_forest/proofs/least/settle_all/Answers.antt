use Rattle.std.proofs.Common.{◌-◌, ◌^◌, Option, None, false, length, refl, ap, ◌∙◌, arith}
use Rattle.std.proofs.lemmas.List.{length-replicate}
use Rattle.board_graph.specs.Graph.{board_of}
use Rattle.shortest_forest.specs.declared.label.Label.{Label}
use Rattle.shortest_forest.specs.Arcs.{both_ways}
use Rattle.shortest_forest.proofs.ForestLaws.{far_without_goals, one_source, all_settled, distances_exact}
use Rattle.shortest_forest.proofs.least.settle_all.Goals as goal

pub nearest_goal-requires-clause-under_way : goal.nearest_goal-requires-clause-under_way
nearest_goal-requires-clause-under_way g c =
    let none : Option Label = None in
    let board = board_of c.args.graph.now in
    let arcs = both_ways (g.Q.Lengths.length c.args.lengths.now) in
    let count = ap length c.begin.ensures.labels ∙ length-replicate (length c.args.search.now.labels) none
    ∙ c.requires.count in
    let marks = ap length c.begin.ensures.goals ∙ ap length c.requires.goals
    ∙ length-replicate c.args.graph.now.fpgas false in
    c.in_ok-add_source.ensures.under_way board arcs (λ _. 0) (2 ^ 64 - 2 ^ 51)
    (c.begin.ensures.begun board arcs (λ _. 0) (2 ^ 64 - 2 ^ 51) count marks)

pub returns-clause-settled : goal.returns-clause-settled
returns-clause-settled g c =
    let graph = c.args.graph.now in
    let board = board_of graph in
    let l = g.Q.Lengths.length c.args.lengths.now in
    let s = c.nearest_goal.new.search in
    let n = length c.args.search.now.labels in
    let goals = c.in_ok-_found.ensures.marks.goals ∙ c.in_ok-add_source.ensures.goals ∙ c.begin.ensures.goals
    ∙ c.requires.goals in
    let far = far_without_goals board (both_ways l) (λ _. 0) (2 ^ 64 - 2 ^ 51) graph.fpgas s goals
    c.in_ok-_found._found c.in_ok-_found.ensures.found c.in_ok-_found.ensures.far in
    let source = one_source n c.args.root c.begin.new.self c.add_source.new.self c.begin.ensures.labels
    c.in_ok-add_source.ensures.labels (omega (arith, c.requires.root, c.requires.count)) in
    all_settled graph l (2 ^ 64 - 2 ^ 51) s c.in_ok-_found.ensures.under_way far.nearer_settled refl
    c.fpgas-fpgas.ensures.graph.fpga_limit (λ e below. g.met.Q.Lengths.limit c.args.lengths.now e
    (omega (arith, below, c.requires.lengths))) c.args.root c.add_source.new.self source
    c.in_ok-_found.ensures.sources

pub returns-clause-exact : goal.returns-clause-exact
returns-clause-exact g c = λ f below.
    distances_exact (board_of c.args.graph.now) (g.Q.Lengths.length c.args.lengths.now) c.args.root
    c.nearest_goal.new.search (returns-clause-settled g c) f
