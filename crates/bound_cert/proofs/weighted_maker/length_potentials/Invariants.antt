use Rattle.std.proofs.Common.{◌≡◌, ℕ, ◌<◌, ◌≤◌, [], length, get_or}
use Rattle.std.specs.Prelude.{All, slice_index}
use Rattle.tdm_problem.specs.Board.{Board}
use Rattle.board_graph.specs.Graph.{graph_of}
use Rattle.bound_cert.specs.Limits.{most_potential_value}
use Rattle.bound_cert.specs.Makers.{IsSourcePotential}
use Rattle.bound_cert.proofs.weighted_maker.length_potentials.Given as goal

abbrev pub invariant-loop-source : goal.invariant-loop-source
invariant-loop-source l = record {
  count : length l.potentials.items ≡ l.source-index;
  each : (board : Board) → l.graph ≡ graph_of board → (p : ℕ) → p < l.source-index
      → IsSourcePotential board (λ e. get_or l.lengths e 0) (slice_index l.sources p)
      (get_or l.potentials.items p []);
  within : All (All (λ v. v ≤ most_potential_value)) l.potentials.items;
}
