-- What `route` writes of a board after so many rounds.
use Rattle.std.specs.Prelude.{ℕ, ◌<◌, List}
use Rattle.tdm_problem.specs.Board.{Board}
use Rattle.tdm_problem.specs.Routing.{Routing}
use Rattle.tdm_problem.specs.Tight.{IsTight}
use Rattle.tdm_problem.specs.Value.{value_of}
use Rattle.shortest_forest.specs.Baseline.{AreBaseTrees}
use Rattle.bound_cert.specs.Certificate.{Cert}
use Rattle.tdm_problem.specs.Legal.{AllConnectable}
use Rattle.tdm_cli.specs.Baseline.{IsWithinUseLimit}
use Rattle.tdm_cli.specs.Routing.{IsRouting}
use Rattle.tdm_cli.specs.Rounds.{MeetsRounds}

-- there is such a list of so many rounds from the baseline's trees
abbrev pub MeetsBaselineRounds : Board → (count value bound : ℕ) → Type 0
MeetsBaselineRounds board count value bound =
    (trees : List (List ℕ)) × AreBaseTrees board trees × MeetsRounds board trees count value bound

-- of a board with a baseline a tight solution that may be written, and a certificate that may be, with its
-- bound; unless the value is 0, a list of so many rounds with no smaller value and no larger bound
pub record IsImproved (board : Board) (count : ℕ) (routing : Routing) (cert : Cert) (bound : ℕ) : Type 0 where
  pub joined : AllConnectable board
  pub within : IsWithinUseLimit board
  pub may_be_written : IsRouting board routing cert bound
  pub tight : IsTight board routing
  pub rounds : 0 < value_of board routing → MeetsBaselineRounds board count (value_of board routing) bound
