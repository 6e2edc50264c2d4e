-- All wires of a board join FPGAs, one of them the root of a forest, just where each of them has a distance.
use Rattle.std.proofs.Common.{◌≡◌, ℕ, ◌<◌, List, Option, Some, None, subst, Contains}
use Rattle.std.specs.Prelude.{MatchOption}
use Rattle.tdm_problem.specs.Board.{Board}
use Rattle.tdm_problem.specs.Walk.{AnyWire, IsConnectable}
use Rattle.tdm_problem.specs.Distance.{IsHopCount}
use Rattle.tdm_problem.proofs.Walks.{Joins-from_source}
use Rattle.shortest_forest.specs.Reach.{Reach, HasNoWalk, HasHops, distance_of}
use Rattle.shortest_forest.proofs.HopLaws.{hops_at}

-- FPGAs with distances are joined
pub IsConnectable-from_distances : (board : Board) (reach : Reach) → HasHops board reach
    → (terminals : List ℕ) → ((t : ℕ) → Contains terminals t → (d : ℕ) × (distance_of reach t ≡ Some d))
    → IsConnectable board terminals
IsConnectable-from_distances board reach hops terminals at =
    Joins-from_source board (AnyWire board) reach.root terminals
    (λ t inside. (let a = at t inside in let h =
    hops_at board reach.root reach.distances hops.distances t a.0 a.1 in (h.walk.0, h.walk.1)))

-- an FPGA without a distance is not joined with the root
pub not_connectable : (board : Board) (reach : Reach) → HasHops board reach → (terminals : List ℕ)
    → Contains terminals reach.root → (t : ℕ) → t < board.fpgas → Contains terminals t
    → distance_of reach t ≡ None → ¬ IsConnectable board terminals
not_connectable board reach hops terminals rooted t below inside none joins =
    let walk = joins reach.root t rooted inside in
    let P : Option ℕ → Type 0 =
    λ x. MatchOption x (HasNoWalk board reach.root t) (IsHopCount board reach.root t) in
    let no_walk = subst P none (hops.distances.exact t below) in
    no_walk walk.0 walk.1
