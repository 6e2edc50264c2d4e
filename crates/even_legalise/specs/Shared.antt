-- The solution that shares give: each net has of each wire of its tree a share in proportion to its number.
use Rattle.std.specs.Prelude.{ℕ, ◌*◌, ◌^◌, ◌≤◌, ◌==◌, List, [], ◌∷◌, ◌++◌, map, filter}
use Rattle.std.specs.Int.{div_ceil}
use Rattle.std.specs.List.{zip}
use Rattle.tdm_problem.specs.declared.solution.WireUse.{WireUse}
use Rattle.tdm_problem.specs.Board.{Board}
use Rattle.tdm_problem.specs.Routing.{Routing}
use Rattle.tdm_problem.specs.Legal.{lanes_of, IsEvenRatio}
use Rattle.ratio_shares.specs.Shares.{share_in}

-- the even ratio for a share, where a lane has 2^64 units: twice as often as the share goes into half a lane,
-- rounded up
abbrev pub even_ratio : (share : ℕ) → ℕ
even_ratio share = 2 * div_ceil (2 ^ 63) share

-- the ratio is even and, times the share, at least a lane, and no smaller positive even ratio is so
pub record IsLeastEven (share ratio : ℕ) : Type 0 where
  pub even : IsEvenRatio ratio
  pub enough : 2 ^ 64 ≤ ratio * share
  pub least : (other : ℕ) → IsEvenRatio other → 2 ^ 64 ≤ other * share → ratio ≤ other

-- the numbers of the nets on wire e, nets rising
abbrev pub numbers_on : (trees : List (List ℕ)) → (numbers : List ℕ) → (e : ℕ) → List ℕ
numbers_on [] numbers e = []
numbers_on (wires ∷ trees) [] e = []
numbers_on (wires ∷ trees) (number ∷ numbers) e =
    map (λ d. number) (filter (λ d. d == e) wires) ++ numbers_on trees numbers e

-- the ratio on wire e of a net with a number: the even one for the number's share beside all numbers on the
-- wire
abbrev pub shared_ratio : Board → (trees : List (List ℕ)) → (numbers : List ℕ) → (e number : ℕ) → ℕ
shared_ratio board trees numbers e number =
    even_ratio (share_in (numbers_on trees numbers e) (lanes_of board e) number)

-- the wires of a net's tree, each with the ratio for the net's number
abbrev pub shared_uses : Board → (trees : List (List ℕ)) → (numbers : List ℕ) → (wires : List ℕ)
    → (number : ℕ) → List WireUse
shared_uses board trees numbers wires number =
    map (λ e. record { wire = e; ratio = shared_ratio board trees numbers e number }) wires

-- each net uses the wires of its tree with the ratios for its number
abbrev pub shared_routing : Board → (trees : List (List ℕ)) → (numbers : List ℕ) → Routing
shared_routing board trees numbers =
    map (λ net. shared_uses board trees numbers net.0 net.1) (zip trees numbers)
