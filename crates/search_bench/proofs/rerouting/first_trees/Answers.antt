use Rattle.std.proofs.Common.{◌∙◌, ◌<◌, length, sym, subst}
use Rattle.std.specs.Prelude.{All}
use Rattle.tdm_problem.specs.Walk.{IsMinimalTree}
use Rattle.board_graph.specs.Graph.{Graph}
use Rattle.ripup_reroute.proofs.FirstTrees.{first-more}
use Rattle.search_bench.proofs.rerouting.first_trees.Goals as goal

pub loop-n-preserved : goal.loop-n-preserved
loop-n-preserved c = record {
  first =
      rw c.in_ok-push_tree.ensures.pushed
      (first-more c.args.problem.now c.loop-n.n c.loop-n.trees c.push_tree.new.builder.wires
      c.loop-n.invariant.first
      (subst (λ (g : Graph). All (λ e. e < length g.wires) c.push_tree.new.builder.wires) c.requires
      c.in_ok-push_tree.ensures.there)
      (subst (IsMinimalTree c.args.problem.now c.push_tree.new.builder.wires) (sym c.net.ensures.value)
      (c.in_ok-push_tree.ensures.minimal c.args.problem.now c.requires)));
  builder = c.push_tree.ensures.builder ∙ c.loop-n.invariant.builder;
}
