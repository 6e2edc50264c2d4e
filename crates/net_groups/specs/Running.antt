-- Sums of groups that are kept, and which group is worst by them.
use Rattle.std.specs.Prelude.{◌≡◌, ℕ, ◌<◌, ◌≤◌, List, length, slice_index}
use Rattle.tdm_problem.specs.Routing.{Routing}
use Rattle.net_groups.specs.Incidence.{NetGroups, sum_before}

-- the sums are those of all groups over all nets
pub record AreSums (incidence : NetGroups) (routing : Routing) (sums : List ℕ) : Type 0 where
  pub count : length sums ≡ incidence.groups
  pub each : (g : ℕ) → g < incidence.groups
      → slice_index sums g ≡ sum_before incidence routing (length incidence.of_nets) g

-- group g has the largest sum, and each group before it a smaller one
pub record IsWorst (sums : List ℕ) (g : ℕ) : Type 0 where
  pub there : g < length sums
  pub largest : (h : ℕ) → h < length sums → slice_index sums h ≤ slice_index sums g
  pub first : (h : ℕ) → h < g → slice_index sums h < slice_index sums g
