-- What the certificates by growth of rounds are made of.
use Rattle.std.specs.Prelude.{◌≡◌, ◌≤◌, List, length, All, Option, IfSome, MatchOption}
use Rattle.tdm_problem.specs.Board.{Board}
use Rattle.tdm_problem.specs.Limits.{most_weight}
use Rattle.bound_cert.specs.Limits.{most_length}
use Rattle.tdm_cli.specs.declared.candidates.Candidate.{Candidate}
use Rattle.tdm_cli.specs.declared.candidates.Candidates.{Candidates}
use Rattle.tdm_cli.specs.Rounds.{Round, round_lengths, IsLastFit}

-- a weight for each group and a length for each wire, none too large
pub record IsCandidate (board : Board) (candidate : Candidate) : Type 0 where
  pub weights_count : length candidate.weights.items ≡ length board.groups
  pub weights_small : All (λ w. w ≤ most_weight) candidate.weights.items
  pub lengths_count : length candidate.lengths.items ≡ length board.wires
  pub lengths_small : All (λ l. l ≤ most_length) candidate.lengths.items

-- the candidates of the last round and of the strongest, where they are there, are such
pub record AreCandidates (board : Board) (candidates : Candidates) : Type 0 where
  pub last : IfSome candidates.last (IsCandidate board)
  pub strongest : IfSome candidates.strongest (IsCandidate board)

-- the weights of the round, and the lengths of the wires after it
pub record IsOfRound (board : Board) (round : Round) (candidate : Candidate) : Type 0 where
  pub weights : candidate.weights.items ≡ round.weights
  pub lengths : candidate.lengths.items ≡ round_lengths board round

-- it is there and is of the last of the rounds that fits, if one does
abbrev pub IsOfLast : Board → List Round → Option Candidate → Type 0
IsOfLast board rounds candidate = (last : Round) → IsLastFit rounds last
    → MatchOption candidate ⊥ (IsOfRound board last)
