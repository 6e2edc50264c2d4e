use Rattle.std.proofs.Common.{◌≡◌, ℕ, ◌<◌, List, length, sym, ap, ◌∙◌, subst, arith}
use Rattle.std.specs.Prelude.{All}
use Rattle.board_graph.specs.Graph.{Graph}
use Rattle.bound_cert.specs.Sources.{sources_of}
use Rattle.bound_cert.specs.Makers.{AreSourcePotentials, ArePotentialsFrom}
use Rattle.bound_cert.proofs.SourceLaws.{sources_below, sources_few}
use Rattle.bound_cert.proofs.hops.HopReach.of.Goals as goal

pub hop_potentials-requires : goal.hop_potentials-requires
hop_potentials-requires c =
    let sources : c.as_slice.result.now ≡ sources_of c.args.problem.now = c.as_slice.ensures.keys
    ∙ c.in_ok-sources.ensures.fpgas in
    let fpgas : c.args.graph.now.fpgas ≡ c.args.problem.now.fpgas =
    ap (λ (g : Graph). g.fpgas) c.requires.graph in
    let below : All (λ source. source < c.args.graph.now.fpgas) (sources_of c.args.problem.now) =
    subst (λ (n : ℕ). All (λ source. source < n) (sources_of c.args.problem.now)) (sym fpgas)
    (sources_below c.args.problem.now c.in_ok-sources.ensures.board) in
    record {
      there = subst (λ (rs : List ℕ). All (λ source. source < c.args.graph.now.fpgas) rs)
          (sym sources) below;
    }

pub depths_of-requires-clause-potentials : goal.depths_of-requires-clause-potentials
depths_of-requires-clause-potentials c =
    let sources : c.as_slice.result.now ≡ sources_of c.args.problem.now = c.as_slice.ensures.keys
    ∙ c.in_ok-sources.ensures.fpgas in
    subst (λ (ps : List (List ℕ)). AreSourcePotentials c.args.problem.now (λ _. 1) ps)
    (sym c.deref.ensures.value)
    (subst (λ (rs : List ℕ). ArePotentialsFrom c.args.problem.now
    (λ _. 1) rs c.in_ok-potentials.potentials.items) sources
    (c.in_ok-potentials.ensures.hops c.args.problem.now c.requires.graph))

pub returns-clause-potentials : goal.returns-clause-potentials
returns-clause-potentials c =
    let sources : c.as_slice.result.now ≡ sources_of c.args.problem.now = c.as_slice.ensures.keys
    ∙ c.in_ok-sources.ensures.fpgas in
    subst (λ (rs : List ℕ). ArePotentialsFrom c.args.problem.now
    (λ _. 1) rs c.in_ok-potentials.potentials.items) sources
    (c.in_ok-potentials.ensures.hops c.args.problem.now c.requires.graph)

pub returns-clause-few : goal.returns-clause-few
returns-clause-few c =
    let count = (c.in_ok-potentials.ensures.hops c.args.problem.now c.requires.graph).count in
    let sources : length c.as_slice.result.now ≡ length (sources_of c.args.problem.now) =
    ap length (c.as_slice.ensures.keys ∙ c.in_ok-sources.ensures.fpgas) in
    omega (
      arith,
      count,
      sources_few c.args.problem.now c.in_ok-sources.ensures.board,
      c.in_ok-sources.ensures.board.fpga_limit,
    )
