-- What a whole tree keeps, on each board that has the graph.
use Rattle.std.proofs.Common.{◌≡◌, ◌≢◌, ℕ, Option, Some, None, Result, Ok, Err, ◌+◌, ◌-◌, ◌*◌, ◌^◌, ◌<◌, ◌≤◌, List, [], ◌∷◌, sym, ap, ◌∙◌, arith}
use Rattle.std.specs.Prelude.{All, Contains, IfOk, IfSome, IfNone}
use Rattle.std.specs.Ordering.{nat_cmp}
use Rattle.std.specs.List.Sorted.{IsPermutation, IsSorted, IsStrictlyIncreasing}
use Rattle.std.proofs.lemmas.List.Elements.{All-nil, All-cons, All-contains}
use Rattle.std.proofs.lemmas.List.Sorted.{All-permutation, IsPermutation-trans, sum_by-IsPermutation}
use Rattle.tdm_problem.specs.Board.{Board}
use Rattle.tdm_problem.specs.Walk.{Links, IsWalk, AnyWire, IsMinimalTree, IsConnectable}
use Rattle.tdm_problem.specs.Distance.{length_of}
use Rattle.board_graph.specs.Graph.{Graph, graph_of, board_of}
use Rattle.shortest_forest.specs.Labels.{Labels}
use Rattle.shortest_forest.proofs.ClimbLaws.{sorted_rising}
use Rattle.shortest_forest.proofs.SameBoard.{Links-same}
use Rattle.steiner_build.specs.Building.{IsWithinWalks}
use Rattle.steiner_build.specs.Joining.{AreOthers, HasNoGoals, IsJoining, IsSomeBeyond}
use Rattle.steiner_build.proofs.LengthLaws.{any-walk, walk-few, length-few}

-- ---- on each board that has the graph

same-walk : (b c : Board) → b.wires ≡ c.wires → (wires : ℕ → Type 0) → (x : ℕ) (es : List ℕ) (y : ℕ)
    → IsWalk b wires x es y → IsWalk c wires x es y
same-walk b c same wires x [] y walk = walk
same-walk b c same wires x (e ∷ es) y walk = (
  walk.0,
  (
    walk.1.0,
    Links-same b c same e x walk.1.0 walk.1.1,
    same-walk b c same wires walk.1.0 es y walk.1.2,
  ),
)

pub minimal-same : (b c : Board) → b.wires ≡ c.wires → (wires terminals : List ℕ)
    → IsMinimalTree b wires terminals → IsMinimalTree c wires terminals
minimal-same b c same wires terminals tree = record {
  joins = λ x y hx hy. let walk = tree.joins x y hx hy in
      (walk.0, same-walk b c same (Contains wires) x walk.0 y walk.1);
  needs = λ e there joins. tree.needs e there
      (λ x y hx hy. let walk = joins x y hx hy in
      (walk.0, same-walk c b (sym same) (λ d. Contains wires d × (d ≢ e)) x walk.0 y walk.1));
}

pub graph-minimal : (graph : Graph) (wires terminals : List ℕ)
    → IsMinimalTree (board_of graph) wires terminals → (board : Board) → graph ≡ graph_of board
    → IsMinimalTree board wires terminals
graph-minimal graph wires terminals tree board same =
    minimal-same (board_of graph) board (ap (λ (g : Graph). g.wires) same) wires terminals tree

-- ---- the whole tree

module _ (board : Board) (l : ℕ → ℕ) (start : ℕ) (terminals : List ℕ) (s : Labels) (wires sorted : List ℕ)
    (total : ℕ) (joining : IsJoining board l start terminals s wires total)
    (moved : IsPermutation wires sorted) where
  pub whole-rising : IsSorted nat_cmp sorted → IsStrictlyIncreasing sorted
  whole-rising in_order =
      sorted_rising joining.ordered sorted joining.tree.distinct
      (IsPermutation-trans joining.ordered wires sorted joining.moved moved) in_order

  pub whole-inside : All (AnyWire board) sorted
  whole-inside = All-permutation (AnyWire board) wires sorted moved joining.listed

  pub whole-long : total ≡ length_of l sorted
  whole-long = joining.long ∙ sym (sum_by-IsPermutation l wires sorted moved)

-- a minimal tree joins by wires of the board
pub connectable-tree : (board : Board) (wires terminals : List ℕ) → All (AnyWire board) wires
    → IsMinimalTree board wires terminals → IsConnectable board terminals
connectable-tree board wires terminals inside tree a b ha hb =
    let walk = tree.joins a b ha hb in
    (walk.0, any-walk board (Contains wires) a walk.0 b walk.1)

-- a walk goes by wires of the board
walk-listed : (board : Board) (a : ℕ) (es : List ℕ) (b : ℕ) → IsWalk board (AnyWire board) a es b
    → All (AnyWire board) es
walk-listed board a [] b walk = All-nil (AnyWire board)
walk-listed board a (e ∷ es) b walk =
    All-cons (AnyWire board) e es walk.0 (walk-listed board walk.1.0 es b walk.1.2)

-- where some terminal is beyond the greatest cap no wires join them
pub beyond-apart : (board : Board) (l : ℕ → ℕ) → ((e a b : ℕ) → Links board e a b → a < board.fpgas)
    → ((e : ℕ) → AnyWire board e → l e ≤ 2 ^ 51) → board.fpgas ≤ 4096 → (start : ℕ) (terminals : List ℕ)
    → Contains terminals start → All (λ t. t < board.fpgas) terminals
    → IsSomeBeyond board l start terminals (2 ^ 64 - 2 ^ 51) → IsConnectable board terminals → ⊥
beyond-apart board l inside limit small start terminals root there beyond connectable =
    let walk = connectable start beyond.0 root beyond.1 in
    let path = walk-few board inside start walk.0 beyond.0
    (All-contains (λ (t : ℕ). t < board.fpgas) terminals beyond.0 there beyond.1) walk.1 in
    let short : length_of l path.0 ≤ 4095 * 2 ^ 51 =
    length-few board l limit small path.0 (walk-listed board start path.0 beyond.0 path.1) path.2 in
    let long : 2 ^ 64 - 2 ^ 51 < length_of l path.0 + 2 ^ 63 = beyond.2 path.0 path.1 in
    omega (arith, short, long)

-- ---- what all goals joined, or some that are far, say of the terminals

-- no goal is left, and the wires are a tree of the terminals whose others were the goals
abbrev pub HasGrown : Board → (ℕ → ℕ) → ℕ → Labels → Labels → List ℕ → ℕ → Type 0
HasGrown board l start old new wires total = HasNoGoals new.goals
    × ((terminals : List ℕ) → Contains terminals start → AreOthers terminals start old.goals
    → IsJoining board l start terminals new wires total)

-- walks to the terminals whose others were the goals are as long as the cap
abbrev pub HasFailed : Board → (ℕ → ℕ) → ℕ → Labels → ℕ → Type 0
HasFailed board l start old cap = (terminals : List ℕ) → Contains terminals start
    → AreOthers terminals start old.goals
    → IsWithinWalks board l start terminals cap × IsSomeBeyond board l start terminals cap

module _ {E : Type 0} (board : Board) (l : ℕ → ℕ) (start : ℕ) (terminals : List ℕ)
    (root : Contains terminals start) (old : Labels) (others : AreOthers terminals start old.goals) where
  pub some-by : (new : Labels) (wires : List ℕ) (r : Result (Option ℕ) E) (Q : ℕ → Type 0)
      → IfOk r (λ grown. IfSome grown (HasGrown board l start old new wires))
      → ((total : ℕ) → HasNoGoals new.goals → IsJoining board l start terminals new wires total → Q total)
      → IfOk r (λ grown. IfSome grown Q)
  some-by new wires (Ok (Some total)) Q grown onward = onward total grown.0 (grown.1 terminals root others)
  some-by new wires (Ok None) Q grown onward = tt
  some-by new wires (Err fault) Q grown onward = tt

  pub none-by : (cap : ℕ) (r : Result (Option ℕ) E) (Q : Type 0)
      → IfOk r (λ grown. IfNone grown (HasFailed board l start old cap))
      → (IsWithinWalks board l start terminals cap × IsSomeBeyond board l start terminals cap → Q)
      → IfOk r (λ grown. IfNone grown Q)
  none-by cap (Ok (Some total)) Q failed onward = tt
  none-by cap (Ok None) Q failed onward = onward (failed terminals root others)
  none-by cap (Err fault) Q failed onward = tt
