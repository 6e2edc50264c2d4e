use Rattle.std.proofs.Common.{ℕ, suc, ◌∷◌, Option, subst, arith}
use Rattle.std.specs.Prelude.{IfSome}
use Rattle.board_graph.specs.Graph.{board_of}
use Rattle.cert_checker.specs.Growing.{arcs_of, HasDistances}
use Rattle.cert_checker.proofs.Distances.{apart-first, heights-first, reached-first}
use Rattle.cert_checker.proofs.growth.first_reach.Goals as goal

pub start_from-requires-clause-there : goal.start_from-requires-clause-there
start_from-requires-clause-there c = c.requires.there 1 0 (omega arith)

pub least_distance-requires-clause-there : goal.least_distance-requires-clause-there
least_distance-requires-clause-there c = λ k d inside. omega (
  arith,
  c.requires.there (suc (suc k)) d (omega (arith, inside)),
  c.start_from.ensures.labels,
  c.requires.labels,
)

pub least_distance-requires-clause-root : goal.least_distance-requires-clause-root
least_distance-requires-clause-root c = omega (
  arith,
  c.requires.there 0 0 (omega arith),
  c.start_from.ensures.labels,
  c.requires.labels,
)

pub returns-clause-reached : goal.returns-clause-reached
returns-clause-reached c =
    let board = board_of c.args.graph.now in
    let arcs = arcs_of c.args.lengths.now c.args.lengths.now in
    let has = subst (λ (from : Option ℕ). IfSome from (λ x. HasDistances board arcs x
    c.start_from.new.start)) c.in_ok-start_from.ensures.started c.start_from.ensures.known in
    reached-first board arcs c.args.first c.start_from.new.start has (c.args.root ∷ c.args.later.now)
    c.least_distance.result c.least_distance.ensures

pub returns-clause-heights : goal.returns-clause-heights
returns-clause-heights c =
    let board = board_of c.args.graph.now in
    let arcs = arcs_of c.args.lengths.now c.args.lengths.now in
    let has = subst (λ (from : Option ℕ). IfSome from (λ x. HasDistances board arcs x
    c.start_from.new.start)) c.in_ok-start_from.ensures.started c.start_from.ensures.known in
    heights-first board arcs c.args.first c.start_from.new.start has (c.args.root ∷ c.args.later.now)
    c.least_distance.result c.least_distance.ensures

pub returns-clause-apart : goal.returns-clause-apart
returns-clause-apart c =
    let board = board_of c.args.graph.now in
    let arcs = arcs_of c.args.lengths.now c.args.lengths.now in
    let has = subst (λ (from : Option ℕ). IfSome from (λ x. HasDistances board arcs x
    c.start_from.new.start)) c.in_ok-start_from.ensures.started c.start_from.ensures.known in
    apart-first board arcs c.args.first c.start_from.new.start has c.args.root c.args.later.now
    c.least_distance.result (c.requires.there 0 0 (omega arith)) c.least_distance.ensures
