-- Why a board has no solution that may be written.
use Rattle.std.specs.Prelude.{◌<◌, length}
use Rattle.tdm_problem.specs.Board.{Board}
use Rattle.tdm_cli.specs.declared.baseline.Obstacle.{Obstacle}
use Rattle.tdm_cli.specs.declared.baseline.Obstacle.TheVariants.{Unconnectable, UseLimit, NoMemory}
use Rattle.tdm_cli.specs.Baseline.{AreUnconnectable, IsOverUseLimit}

-- what an obstacle says of the board
abbrev pub ObstacleShows : Board → Obstacle → Type 0
ObstacleShows board (Unconnectable nets) = AreUnconnectable board nets.items × (0 < length nets.items)
ObstacleShows board UseLimit = IsOverUseLimit board
ObstacleShows board NoMemory = Unit {0}
