-- Trees that are found net by net are minimal together.
use Rattle.std.proofs.Common.{◌≡◌, ℕ, ◌+◌, ◌<◌, ◌≤◌, List, [], ◌∷◌, ◌++◌, length, refl, sym, ap, ◌∙◌, subst, ⊎_elim, arith}
use Rattle.std.specs.Prelude.{All}
use Rattle.std.proofs.Math.ListN.{get_or-append}
use Rattle.std.proofs.Math.Seq.{get_or-append_seam}
use Rattle.std.proofs.lemmas.Bool.{cases_lt}
use Rattle.std.proofs.lemmas.List.{length-append}
use Rattle.std.proofs.lemmas.List.Elements.{All-nil, All-push}
use Rattle.tdm_problem.specs.Board.{Board}
use Rattle.tdm_problem.specs.Legal.{terminals_of}
use Rattle.tdm_problem.specs.Trees.{tree_of}
use Rattle.tdm_problem.specs.Walk.{IsMinimalTree}
use Rattle.ripup_reroute.specs.Rerouting.{AreMinimalTrees}

-- the first nets have minimal trees of wires of the board
pub record AreFirst (board : Board) (n : ℕ) (trees : List (List ℕ)) : Type 0 where
  pub count : length trees ≡ n
  pub there : All (λ wires. All (λ e. e < length board.wires) wires) trees
  pub minimal : (m : ℕ) → m < n → IsMinimalTree board (tree_of trees m) (terminals_of board m)

pub first-none : (board : Board) → AreFirst board 0 []
first-none board = record {
  count = refl;
  there = All-nil (λ wires. All (λ e. e < length board.wires) wires);
  minimal = λ m below. absurd (omega (arith, below));
}

pub first-more : (board : Board) (n : ℕ) (trees : List (List ℕ)) (wires : List ℕ) → AreFirst board n trees
    → All (λ e. e < length board.wires) wires → IsMinimalTree board wires (terminals_of board n)
    → AreFirst board (n + 1) (trees ++ wires ∷ [])
first-more board n trees wires so_far there minimal = record {
  count = omega (arith, length-append trees (wires ∷ []), so_far.count);
  there = All-push (λ ws. All (λ e. e < length board.wires) ws) trees wires so_far.there there;
  minimal = λ m below. ⊎_elim
      (λ (before : m < n).
      subst (λ (ws : List ℕ). IsMinimalTree board ws (terminals_of board m))
      (sym (get_or-append trees (wires ∷ []) [] m (omega (arith, before, so_far.count))))
      (so_far.minimal m before))
      (λ (last : n ≤ m).
      let at : m ≡ length trees = omega (arith, last, below, so_far.count) in
      let is : tree_of (trees ++ wires ∷ []) m ≡ wires = ap (tree_of (trees ++ wires ∷ [])) at
      ∙ get_or-append_seam trees wires [] [] in
      subst (λ (ws : List ℕ). IsMinimalTree board ws (terminals_of board m)) (sym is)
      (subst (λ (k : ℕ). IsMinimalTree board wires (terminals_of board k)) (omega (arith, at, so_far.count))
      minimal))
      (cases_lt m n);
}

pub first-all : (board : Board) (n : ℕ) (trees : List (List ℕ)) → n ≡ length board.nets
    → AreFirst board n trees → AreMinimalTrees board trees
first-all board n trees all first = record {
  for_board = record { nets = first.count ∙ all; there = first.there };
  minimal = λ m below. first.minimal m (omega (arith, below, all));
}
