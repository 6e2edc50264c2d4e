use Rattle.std.specs.Prelude.{ℕ, ◌-◌, ◌<◌, length, slice_index}
use Rattle.tdm_problem.specs.Board.{Board}
use Rattle.tdm_problem.specs.Routing.{Routing, uses_of, wires_of, ratios_of, ratios_on, with_ratio}
use Rattle.tdm_problem.specs.Fit.{FitsLanes}
use Rattle.tdm_problem.specs.Legal.{lanes_of}

-- the wire of the use at a place of net n
abbrev pub wire_at : Routing → (n place : ℕ) → ℕ
wire_at routing n place = slice_index (wires_of (uses_of routing n)) place

-- the ratio of that use
abbrev pub ratio_at : Routing → (n place : ℕ) → ℕ
ratio_at routing n place = slice_index (ratios_of (uses_of routing n)) place

-- where that ratio is above 2: lowered by 2, the ratios on its wire do not fit
abbrev pub IsTightAt : Board → Routing → (n place : ℕ) → Type 0
IsTightAt board routing n place = 2 < ratio_at routing n place
    → ¬ FitsLanes (ratios_on (with_ratio routing n place (ratio_at routing n place - 2))
    (wire_at routing n place))
    (lanes_of board (wire_at routing n place))

-- no ratio above 2 can be lowered by 2
abbrev pub IsTight : Board → Routing → Type 0
IsTight board routing = (n place : ℕ) → n < length routing → place < length (uses_of routing n)
    → IsTightAt board routing n place
