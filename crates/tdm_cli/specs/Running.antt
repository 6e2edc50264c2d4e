-- Rounds on their way: what one of them did, and what so many come to.
use Rattle.std.specs.Prelude.{◌≡◌, ℕ, ◌≤◌, List, length, All, Option, MatchOption}
use Rattle.tdm_problem.specs.Board.{Board}
use Rattle.tdm_problem.specs.Limits.{most_weight}
use Rattle.tdm_cli.specs.declared.candidates.Candidate.{Candidate}
use Rattle.tdm_cli.specs.Rounds.{Round, Reroutes, FitsUses, next_of, AreRounds, IsMet}
use Rattle.tdm_cli.specs.Candidates.{IsOfRound, IsOfLast}

-- there is a weight for each group, from 1 to the largest
pub record AreWeights (board : Board) (weights : List ℕ) : Type 0 where
  pub count : length weights ≡ length board.groups
  pub positive : All (λ weight. 1 ≤ weight) weights
  pub limited : All (λ weight. weight ≤ most_weight) weights

-- a round that fits led from these weights and trees to those, the value and the bound meet it, and the
-- candidate is of it
pub record IsWent (board : Board) (weights : List ℕ) (before : List (List ℕ)) (next : List ℕ)
    (trees : List (List ℕ)) (value bound : ℕ) (last : Option Candidate) : Type 0 where
  pub numbers : List ℕ
  pub reroutes : Reroutes board before (record { weights = weights; numbers = numbers; trees = trees })
  pub fits : FitsUses (record { weights = weights; numbers = numbers; trees = trees })
  pub next_is : next ≡ next_of board (record { weights = weights; numbers = numbers; trees = trees })
  pub met : IsMet board value bound (record { weights = weights; numbers = numbers; trees = trees })
  pub last_is : MatchOption last ⊥ (IsOfRound board (record {
    weights = weights;
    numbers = numbers;
    trees = trees;
  }))

-- a round from these weights and trees does not fit
pub record IsEnded (board : Board) (weights : List ℕ) (before : List (List ℕ)) : Type 0 where
  pub round : Round
  pub weights_are : round.weights ≡ weights
  pub reroutes : Reroutes board before round
  pub over : ¬ FitsUses round

-- there is one list of so many rounds from these weights and trees that the value and the bound both meet,
-- and the candidate is of the last of them that fits
pub record MeetsFrom (board : Board) (count : ℕ) (weights : List ℕ) (before : List (List ℕ)) (value bound : ℕ)
    (last : Option Candidate) : Type 0 where
  pub rounds : List Round
  pub list : AreRounds board count weights before rounds
  pub met : All (IsMet board value bound) rounds
  pub last_is : IsOfLast board rounds last
