use Rattle.std.proofs.Common.{◌≡◌, ℕ, ◌+◌, ◌<◌, ◌≤◌, List, [], ◌∷◌, ◌++◌, length, Result, Ok, Err, subst, sym, arith}
use Rattle.std.specs.Prelude.{sum_by, OnOk, OnErr}
use Rattle.std.proofs.lemmas.List.{length_push}
use Rattle.std.proofs.lemmas.List.Elements.{All-push, All-weaker}
use Rattle.std.proofs.lemmas.List.Sums.{sum_by_push}
use Rattle.tdm_problem.specs.Limits.{most_nets, most_groups, most_listed_fpgas, most_listed_nets}
use Rattle.tdm_problem.specs.Board.{Board, IsBoard, IsRowBelow}

-- a row below a limit is below a larger one
pub IsRowBelow-weaker : (low high : ℕ) → low ≤ high → (row : List ℕ) → IsRowBelow low row
    → IsRowBelow high row
IsRowBelow-weaker low high h row is = record {
  some = is.some;
  distinct = is.distinct;
  below = λ k d there. omega (arith, is.below k d there);
}

-- a board with one net more is a board
pub IsBoard-push_net : (board : Board) (net : List ℕ) → IsBoard board → length board.nets < most_nets
    → sum_by length board.nets + length net ≤ most_listed_fpgas → IsRowBelow board.fpgas net
    → IsBoard (record board { nets = board.nets ++ net ∷ [] })
IsBoard-push_net board net is room room_listed row = record {
  fpga_limit = is.fpga_limit;
  wire_limit = is.wire_limit;
  net_limit = omega (arith, length_push board.nets net);
  group_limit = is.group_limit;
  net_total = omega (arith, sum_by_push length board.nets net);
  group_total = is.group_total;
  wires = is.wires;
  nets = All-push (IsRowBelow board.fpgas) board.nets net is.nets row;
  groups = All-weaker (IsRowBelow (length board.nets)) (IsRowBelow (length (board.nets ++ net ∷ [])))
      (IsRowBelow-weaker (length board.nets) (length (board.nets ++ net ∷ []))
      (omega (arith, length_push board.nets net)))
      board.groups is.groups;
}

-- a board with one group more is a board
pub IsBoard-push_group : (board : Board) (group : List ℕ) → IsBoard board → length board.groups < most_groups
    → sum_by length board.groups + length group ≤ most_listed_nets → IsRowBelow (length board.nets) group
    → IsBoard (record board { groups = board.groups ++ group ∷ [] })
IsBoard-push_group board group is room room_listed row = record {
  fpga_limit = is.fpga_limit;
  wire_limit = is.wire_limit;
  net_limit = is.net_limit;
  group_limit = omega (arith, length_push board.groups group);
  net_total = is.net_total;
  group_total = omega (arith, sum_by_push length board.groups group);
  wires = is.wires;
  nets = is.nets;
  groups = All-push (IsRowBelow (length board.nets)) board.groups group is.groups row;
}

-- what holds before a step and after it holds whether the step was done or not
pub holds_either_way : {X E : Type 0} (P : X → Type 0) (r : Result (Unit {0}) E) (old new done : X)
    → OnOk r (new ≡ done) → OnErr r (new ≡ old) → P old → P done → P new
holds_either_way P (Ok u) old new done ok err before after = subst P (sym ok) after
holds_either_way P (Err e) old new done ok err before after = subst P (sym err) before
