-- A board has one list of depths, and so one floor by hops and one by shares.
use Rattle.std.proofs.Common.{◌≡◌, ℕ, ◌<◌, ◌≤◌, List, length, sym, ap, ◌∙◌, arith}
use Rattle.std.proofs.lemmas.List.{ext_get_or}
use Rattle.tdm_problem.specs.Board.{Board}
use Rattle.shortest_forest.proofs.HopLaws.{hops_unique}
use Rattle.tdm_problem.specs.Legal.{source_of}
use Rattle.bound_cert.specs.Depths.{IsDepth, AreDepths, depth_of}
use Rattle.bound_cert.specs.Floors.{hop_floor, share_floor, IsHopFloor, IsShareFloor}

-- a depth is no more than another of the same net
depth-le : (board : Board) (n depth other : ℕ) → IsDepth board n depth → IsDepth board n other → depth ≤ other
depth-le board n depth other is is_other =
    let far = is.reached in
    let near = is_other.within far.0 far.1 in
    omega (arith, near.2, hops_unique board (source_of board n) far.0 depth near.0 far.2 near.1)

pub depths_unique : (board : Board) (xs ys : List ℕ) → AreDepths board xs → AreDepths board ys → xs ≡ ys
depths_unique board xs ys first second =
    ext_get_or 0 xs ys (first.count ∙ sym second.count)
    (λ n below.
    let there : n < length board.nets = omega (arith, below, first.count) in
    omega (
      arith,
      depth-le board n (depth_of xs n) (depth_of ys n) (first.each n there) (second.each n there),
      depth-le board n (depth_of ys n) (depth_of xs n) (second.each n there) (first.each n there),
    ))

pub hop_floor_unique : (board : Board) (a b : ℕ) → IsHopFloor board a → IsHopFloor board b → a ≡ b
hop_floor_unique board a b first second =
    first.floor_is ∙ ap (hop_floor board) (depths_unique board first.depths second.depths first.are_depths
    second.are_depths) ∙ sym second.floor_is

pub share_floor_unique : (board : Board) (a b : ℕ) → IsShareFloor board a → IsShareFloor board b → a ≡ b
share_floor_unique board a b first second =
    first.floor_is ∙ ap (share_floor board) (depths_unique board first.depths second.depths first.are_depths
    second.are_depths) ∙ sym second.floor_is
