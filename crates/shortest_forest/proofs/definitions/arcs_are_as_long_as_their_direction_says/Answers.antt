use Rattle.std.proofs.Common.{refl, inl, inr}
use Rattle.tdm_problem.specs.Walk.{Links}
use Rattle.tdm_problem.specs.Samples.{wire, ring}
use Rattle.shortest_forest.proofs.definitions.arcs_are_as_long_as_their_direction_says.Goals as goal

first-up : Links ring 0 0 1
first-up = record { wire = wire 0 1; is = refl; ends = inl (refl, refl) }

second-up : Links ring 1 1 2
second-up = record { wire = wire 1 2; is = refl; ends = inl (refl, refl) }

second-down : Links ring 1 2 1
second-down = record { wire = wire 1 2; is = refl; ends = inr (refl, refl) }

first-down : Links ring 0 1 0
first-down = record { wire = wire 0 1; is = refl; ends = inr (refl, refl) }

pub returns-clause-up : goal.returns-clause-up
returns-clause-up c = (1, first-up, (1, (2, second-up, (0, (refl, refl), refl)), refl))

pub returns-clause-down : goal.returns-clause-down
returns-clause-down c = (1, second-down, (5, (0, first-down, (0, (refl, refl), refl)), refl))
