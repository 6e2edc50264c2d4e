-- Two rounds of a small board, worked by hand.
use Rattle.std.specs.Prelude.{◌^◌, [], ◌∷◌}
use Rattle.tdm_problem.specs.Board.{Board}
use Rattle.tdm_problem.specs.Samples.{wire}
use Rattle.tdm_cli.specs.Rounds.{Round}

-- two FPGAs, two wires between them, and five nets on both, each in a group of its own
abbrev pub five_on_two : Board
five_on_two = record {
  fpgas = 2;
  wires = wire 0 1 ∷ wire 0 1 ∷ [];
  nets = (0 ∷ 1 ∷ []) ∷ (0 ∷ 1 ∷ []) ∷ (0 ∷ 1 ∷ []) ∷ (0 ∷ 1 ∷ []) ∷ (0 ∷ 1 ∷ []) ∷ [];
  groups = (0 ∷ []) ∷ (1 ∷ []) ∷ (2 ∷ []) ∷ (3 ∷ []) ∷ (4 ∷ []) ∷ [];
}

-- all groups weigh the same, and of five nets that begin on wire 0 the first two have moved to wire 1
abbrev pub first_round : Round
first_round = record {
  weights = 2 ^ 20 ∷ 2 ^ 20 ∷ 2 ^ 20 ∷ 2 ^ 20 ∷ 2 ^ 20 ∷ [];
  numbers = 1024 ∷ 1024 ∷ 1024 ∷ 1024 ∷ 1024 ∷ [];
  trees = (1 ∷ []) ∷ (1 ∷ []) ∷ (0 ∷ []) ∷ (0 ∷ []) ∷ (0 ∷ []) ∷ [];
}

-- the nets that shared a wire with one other weigh half as much as those that shared one with two, of which
-- the first moves to their wire
abbrev pub second_round : Round
second_round = record {
  weights = 2 ^ 39 ∷ 2 ^ 39 ∷ 2 ^ 40 ∷ 2 ^ 40 ∷ 2 ^ 40 ∷ [];
  numbers = 741455 ∷ 741455 ∷ 2 ^ 20 ∷ 2 ^ 20 ∷ 2 ^ 20 ∷ [];
  trees = (1 ∷ []) ∷ (1 ∷ []) ∷ (1 ∷ []) ∷ (0 ∷ []) ∷ (0 ∷ []) ∷ [];
}
