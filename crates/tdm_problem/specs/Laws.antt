use Rattle.std.specs.Prelude.{◌≡◌, ℕ, ◌+◌, ◌*◌, ◌<◌, ◌≤◌, ◌↔◌, List, length, map, sum, sum_by, All}
use Rattle.tdm_problem.specs.Board.{Board, IsBoard}
use Rattle.tdm_problem.specs.Fit.{FitsLanes}
use Rattle.tdm_problem.specs.Legal.{IsLegal}
use Rattle.tdm_problem.specs.Routing.{Routing, ratios_on, IsFor}
use Rattle.tdm_problem.specs.Sums.{sum_below}
use Rattle.tdm_problem.specs.Roots.{IsRoot, root_of}
use Rattle.tdm_problem.specs.Users.{User, users_on}
use Rattle.tdm_problem.specs.Value.{value_of}
use Rattle.tdm_problem.specs.Weights.{net_weight, weighted_sums}

-- a ratio with a price, and a number whose square is at most the price
pub record Priced : Type 0 where
  pub ratio : ℕ
  pub price : ℕ
  pub root : ℕ

-- the ratio is positive, and the square of the root at most the price
pub record IsPriced (item : Priced) : Type 0 where
  pub positive : 0 < item.ratio
  pub square_at_most : item.root * item.root ≤ item.price

-- where the ratios fit, the prices times the ratios sum to at least 2 · l · (the sum of the roots) - lanes ·
-- l², at any l
abbrev pub TangentLaw : Type 0
TangentLaw = (items : List Priced) (lanes l : ℕ) → All IsPriced items
    → FitsLanes (map (λ item. item.ratio) items) lanes
    → 2 * l * sum_by (λ item. item.root) items
    ≤ sum_by (λ item. item.price * item.ratio) items + lanes * (l * l)

-- the weighted sum of the group sums is, over the wires and the nets on each, the sum of the net's weight
-- times its ratio
abbrev pub WireSumLaw : Type 0
WireSumLaw = (board : Board) (routing : Routing) (weights : List ℕ) → IsBoard board → IsFor board routing →
    weighted_sums routing board.groups weights
    ≡ sum_below (length board.wires)
    (λ e. sum_by (λ x. net_weight board.groups weights x.net * x.ratio) (users_on routing e))

-- the weighted sum of the group sums is at most the sum of the weights times the value
abbrev pub ValueLaw : Type 0
ValueLaw = (board : Board) (routing : Routing) (weights : List ℕ) →
    weighted_sums routing board.groups weights ≤ sum weights * value_of board routing

-- the value of a legal routing is even
abbrev pub EvenLaw : Type 0
EvenLaw = (board : Board) (routing : Routing) → IsLegal board routing
    → (half : ℕ) × (value_of board routing ≡ 2 * half)

-- the root is the greatest number whose square is at most n, and no other number is
abbrev pub RootLaw : Type 0
RootLaw = (n r : ℕ) → IsRoot n r ↔ (r ≡ root_of n)

-- the ratios of the users of a wire are the ratios on it
abbrev pub UsersLaw : Type 0
UsersLaw = (routing : Routing) (e : ℕ)
    → ratios_on routing e ≡ map (λ (x : User). x.ratio) (users_on routing e)
