-- The weight of each net, as a list.
use Rattle.std.specs.Prelude.{◌≡◌, ℕ, ◌<◌, ◌≤◌, ◌^◌, List, length, slice_index, sum}
use Rattle.tdm_problem.specs.Board.{Board}
use Rattle.bound_cert.specs.Certificate.{Cert}
use Rattle.bound_cert.specs.Bound.{weight_of_net}

-- the list has the weight of each net
pub record AreNetWeights (board : Board) (cert : Cert) (weights : List ℕ) : Type 0 where
  pub whole : length weights ≡ length board.nets
  pub each : (n : ℕ) → n < length board.nets → slice_index weights n ≡ weight_of_net board cert n
  pub total : sum weights ≤ 2 ^ 64
