use Rattle.std.proofs.Common.{◌≡◌, ◌-◌, ◌^◌, ℕ, Option, None, Some, length, sym, ap, ◌∙◌, arith, subst, refl}
use Rattle.std.specs.Prelude.{IfSome}
use Rattle.std.proofs.lemmas.List.{length-replicate}
use Rattle.board_graph.specs.Graph.{board_of}
use Rattle.shortest_forest.specs.declared.label.Label.{Label}
use Rattle.shortest_forest.specs.Labels.{distance_in}
use Rattle.shortest_forest.proofs.ForestLaws.{one_source}
use Rattle.steiner_build.proofs.TakingLaws.{links-inside}
use Rattle.cert_checker.specs.Growing.{arcs_of, HasReached}
use Rattle.cert_checker.proofs.Reached.{reached, reaches-none, distances}
use Rattle.cert_checker.proofs.Rests.{arcs-small, goals-inside}
use Rattle.cert_checker.proofs.growth.reach_from.Goals as goal

pub last_goal-requires-clause-under_way : goal.last_goal-requires-clause-under_way
last_goal-requires-clause-under_way c =
    let none : Option Label = None in
    let board = board_of c.args.graph.now in
    let arcs = arcs_of c.args.up.now c.args.down.now in
    let count = ap length c.begin.ensures.labels ∙ length-replicate (length c.args.search.now.labels) none
    ∙ c.requires.labels in
    let marks = ap length c.begin.ensures.goals ∙ c.requires.goals in
    c.in_ok-add_source.ensures.under_way board arcs (λ _. 0) (2 ^ 64 - 2 ^ 51)
    (c.begin.ensures.begun board arcs (λ _. 0) (2 ^ 64 - 2 ^ 51) count marks)

pub returns-in_default-clause-none : goal.returns-in_default-clause-none
returns-in_default-clause-none c =
    let graph = c.args.graph.now in
    let board = board_of graph in
    let arcs = arcs_of c.args.up.now c.args.down.now in
    let s = c.last_goal.new.search in
    let begun = one_source (length c.args.search.now.labels) c.args.x c.begin.new.self c.add_source.new.self
    c.begin.ensures.labels c.in_ok-add_source.ensures.labels (omega (
      arith,
      c.requires.there,
      c.requires.labels,
    )) in
    let source = (c.in_ok-goal.ensures.sources c.args.x).1 begun.0 in
    let far = rw c.in_default.is at c.in_ok-goal.ensures.far in
    reaches-none board arcs (2 ^ 64 - 2 ^ 51) c.args.x s far.under_way source
    (λ f is. begun.1 f ((c.in_ok-goal.ensures.sources f).0 is))
    (omega arith) c.requires.graph.fpga_limit (links-inside board c.requires.graph.wires)
    (λ f goal. omega (arith, goals-inside s.goals f goal, far.under_way.labelled.marks))
    (λ e a b links. arcs-small c.args.up.now c.args.down.now c.requires.up_small c.requires.down_small e a b)
    far.far

pub returns-in_default-clause-all : goal.returns-in_default-clause-all
returns-in_default-clause-all c =
    let graph = c.args.graph.now in
    let board = board_of graph in
    let arcs = arcs_of c.args.up.now c.args.down.now in
    let s = c.last_goal.new.search in
    let begun = one_source (length c.args.search.now.labels) c.args.x c.begin.new.self c.add_source.new.self
    c.begin.ensures.labels c.in_ok-add_source.ensures.labels (omega (
      arith,
      c.requires.there,
      c.requires.labels,
    )) in
    let source = (c.in_ok-goal.ensures.sources c.args.x).1 begun.0 in
    let far = rw c.in_default.is at c.in_ok-goal.ensures.far in
    distances board arcs (2 ^ 64 - 2 ^ 51) c.args.x s far.under_way source
    (λ f is. begun.1 f ((c.in_ok-goal.ensures.sources f).0 is))
    refl c.requires.graph.fpga_limit (links-inside board c.requires.graph.wires)
    (λ e a b links. arcs-small c.args.up.now c.args.down.now c.requires.up_small c.requires.down_small e a b)
    far.far

pub returns-clause-reached : goal.returns-clause-reached
returns-clause-reached c =
    let board = board_of c.args.graph.now in
    let arcs = arcs_of c.args.up.now c.args.down.now in
    let s = c.last_goal.new.search in
    let begun = one_source (length c.args.search.now.labels) c.args.x c.begin.new.self c.add_source.new.self
    c.begin.ensures.labels c.in_ok-add_source.ensures.labels (omega (
      arith,
      c.requires.there,
      c.requires.labels,
    )) in
    let source = (c.in_ok-goal.ensures.sources c.args.x).1 begun.0 in
    let ended = rw c.in-Some.is at c.in_ok-goal.ensures.found in
    let near = ended.nearest in
    let at : c.distance.result ≡ Some near.distance = c.distance.ensures ∙ ap distance_in near.label.1 in
    subst (λ (found : Option ℕ). IfSome found (HasReached board arcs c.args.x s)) (sym at)
    (reached board arcs ended.limit c.args.x s ended.under_way source
    (λ f is. begun.1 f ((c.in_ok-goal.ensures.sources f).0 is)) c.in-Some.goal near)
