-- What a search over the marginal lengths of a net finds, or shows.
use Rattle.std.proofs.Common.{◌≡◌, ℕ, ◌+◌, ◌-◌, ◌*◌, ◌^◌, ◌<◌, ◌≤◌, List, [], length, sym, ap, ◌∙◌, subst, ⊎_elim, arith}
use Rattle.std.specs.Prelude.{slice_index, All}
use Rattle.std.specs.List.Sorted.{IsStrictlyIncreasing}
use Rattle.std.proofs.Math.Path.{fun_ext}
use Rattle.std.proofs.lemmas.Bool.{cases_lt}
use Rattle.tdm_problem.specs.Board.{Board}
use Rattle.tdm_problem.specs.Distance.{length_of}
use Rattle.tdm_problem.specs.Legal.{terminals_of}
use Rattle.tdm_problem.specs.Loads.{marginal_length, without_net}
use Rattle.tdm_problem.specs.Trees.{tree_of}
use Rattle.tdm_problem.specs.Walk.{IsMinimalTree, IsConnectable}
use Rattle.board_graph.specs.Graph.{Graph, graph_of, board_of}
use Rattle.shortest_forest.proofs.SameBoard.{IsWalk-same}
use Rattle.steiner_build.specs.Building.{IsWithinWalks}
use Rattle.steiner_build.proofs.BuildLaws.{connectable-tree}
use Rattle.ripup_reroute.specs.Rerouting.{AreMinimalTrees}
use Rattle.ripup_reroute.specs.Working.{AreLoads, IsWithinNet, IsBetter, old_length}

-- the same walks on a board and on its graph
pub within-graph : (board : Board) (graph : Graph) → graph ≡ graph_of board
    → (wire_length : ℕ → ℕ) (start : ℕ) (fpgas : List ℕ) (number : ℕ)
    → IsWithinWalks (board_of graph) wire_length start fpgas number
    → IsWithinWalks board wire_length start fpgas number
within-graph board graph same wire_length start fpgas number within far reached =
    within far
    (λ t there. let r = reached t there in (
      r.0,
      IsWalk-same board (board_of graph) (sym (ap (λ (g : Graph). g.wires) same)) start r.0 t r.1,
      r.2,
    ))

-- a net that has a tree is connectable
pub tree-connects : (board : Board) (trees : List (List ℕ)) (n : ℕ) → AreMinimalTrees board trees
    → n < length board.nets → IsConnectable board (terminals_of board n)
tree-connects board trees n are there =
    connectable-tree board (tree_of trees n) (terminals_of board n)
    (are.for_board.there n [] (omega (arith, there, are.for_board.nets))) (are.minimal n there)

module _ (board : Board) (graph : Graph) (same : graph ≡ graph_of board) (trees : List (List ℕ))
    (numbers : List ℕ) (n : ℕ) (loads : List ℕ)
    (are : AreLoads board (without_net trees n) numbers loads) where
  -- the lengths that a search reads are the marginal lengths
  pub lengths-are : (λ (e : ℕ). 2 * slice_index loads e + slice_index numbers n)
      ≡ marginal_length trees numbers n
  lengths-are = fun_ext (λ e. ap (λ (x : ℕ). 2 * x + slice_index numbers n) (are.each e))

  pub within-net : (terminals : List ℕ) (number : ℕ) → terminals_of board n ≡ terminals
      → IsWithinWalks (board_of graph) (λ e. 2 * slice_index loads e + slice_index numbers n)
      (slice_index terminals 0) terminals number → IsWithinNet board trees numbers n number
  within-net terminals number are_terminals within =
      subst (λ (ts : List ℕ). IsWithinWalks board (marginal_length trees numbers n) (slice_index ts 0) ts
      number) (sym are_terminals)
      (subst (λ (f : ℕ → ℕ). IsWithinWalks board f (slice_index terminals 0) terminals number) lengths-are
      (within-graph board graph same (λ e. 2 * slice_index loads e + slice_index numbers n)
      (slice_index terminals 0) terminals number within))

  pub length-is : (wires : List ℕ) → length_of (λ e. 2 * slice_index loads e + slice_index numbers n) wires
      ≡ length_of (marginal_length trees numbers n) wires
  length-is wires = ap (λ (f : ℕ → ℕ). length_of f wires) lengths-are

  -- a tree below the cap is better
  pub found-better : (wires terminals : List ℕ) (total cap : ℕ) → terminals_of board n ≡ terminals
      → IsMinimalTree board wires terminals → IsStrictlyIncreasing wires
      → All (λ e. e < length graph.wires) wires
      → total ≡ length_of (λ e. 2 * slice_index loads e + slice_index numbers n) wires → total < cap
      → cap ≤ length_of (λ e. 2 * slice_index loads e + slice_index numbers n) (tree_of trees n)
      → IsWithinWalks (board_of graph) (λ e. 2 * slice_index loads e + slice_index numbers n)
      (slice_index terminals 0) terminals total → IsBetter board trees numbers n wires
  found-better wires terminals total cap are_terminals minimal rising there is below short within =
      let long : total ≡ length_of (marginal_length trees numbers n) wires = is ∙ length-is wires in
      record {
        minimal = subst (IsMinimalTree board wires) (sym are_terminals) minimal;
        rising = rising;
        there = subst (λ (g : Graph). All (λ e. e < length g.wires) wires) same there;
        shorter = omega (arith, long, below, short, length-is (tree_of trees n));
        within = subst (λ (k : ℕ). IsWithinNet board trees numbers n k) long
            (within-net terminals total are_terminals within);
      }

  -- where walks are at least as long as the tree, it is as short as can be said
  pub kept-within : (terminals : List ℕ) (cap : ℕ) → terminals_of board n ≡ terminals
      → cap ≡ length_of (λ e. 2 * slice_index loads e + slice_index numbers n) (tree_of trees n)
      → IsWithinWalks (board_of graph) (λ e. 2 * slice_index loads e + slice_index numbers n)
      (slice_index terminals 0) terminals cap → IsWithinNet board trees numbers n (old_length trees numbers n)
  kept-within terminals cap are_terminals exact within =
      subst (λ (k : ℕ). IsWithinNet board trees numbers n k) (exact ∙ length-is (tree_of trees n))
      (within-net terminals cap are_terminals within)

  -- where nothing is below the cap, the tree is as short as can be said
  pub none-better : (terminals : List ℕ) (cap : ℕ) → terminals_of board n ≡ terminals
      → IsConnectable board (terminals_of board n)
      → (cap < 2 ^ 64 - 2 ^ 51 → cap ≡ length_of (λ e. 2 * slice_index loads e + slice_index numbers n)
      (tree_of trees n)) → IsWithinWalks (board_of graph) (λ e. 2 * slice_index loads e
      + slice_index numbers n) (slice_index terminals 0) terminals cap
      → (2 ^ 64 - 2 ^ 51 ≤ cap → ¬ IsConnectable board terminals)
      → IsWithinNet board trees numbers n (old_length trees numbers n)
  none-better terminals cap are_terminals joins exact within apart =
      ⊎_elim
      (λ (small : cap < 2 ^ 64 - 2 ^ 51). kept-within terminals cap are_terminals (exact small) within)
      (λ (large : 2 ^ 64 - 2 ^ 51 ≤ cap). absurd
      (apart large (subst (IsConnectable board) are_terminals joins)))
      (cases_lt cap (2 ^ 64 - 2 ^ 51))
