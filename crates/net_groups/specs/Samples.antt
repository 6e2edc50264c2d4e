-- A small board with two groups, on which incidences and sums are computed.
use Rattle.std.specs.Prelude.{[], ◌∷◌}
use Rattle.tdm_problem.specs.Board.{Board}
use Rattle.tdm_problem.specs.Routing.{Routing}
use Rattle.tdm_problem.specs.Samples.{shared, on_wire_0}
use Rattle.net_groups.specs.Incidence.{NetGroups}

-- three nets on one wire, all in the first group, and the second of them alone in the other
abbrev pub two_groups : Board
two_groups = record shared { groups = (0 ∷ 1 ∷ 2 ∷ []) ∷ (1 ∷ []) ∷ [] }

-- the groups of each of these nets
abbrev pub held : NetGroups
held = record { groups = 2; of_nets = (0 ∷ []) ∷ (0 ∷ 1 ∷ []) ∷ (0 ∷ []) ∷ [] }

-- the ratios 2, 6 and 6 of these nets
abbrev pub ratios_2_6_6 : Routing
ratios_2_6_6 = on_wire_0 (2 ∷ 6 ∷ 6 ∷ [])
