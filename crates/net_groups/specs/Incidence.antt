-- Which groups hold each net.
use Rattle.std.specs.Prelude.{◌≡◌, ℕ, ◌<◌, ◌≤◌, ◌==◌, List, [], length, filter, slice_index, slice_index_or, sum_by, All, if◌then◌else◌}
use Rattle.std.specs.List.{list_any, range_with_len}
use Rattle.std.specs.List.Sorted.{IsStrictlyIncreasing}
use Rattle.tdm_problem.specs.Board.{Board}
use Rattle.tdm_problem.specs.Limits.{most_nets, most_groups}
use Rattle.tdm_problem.specs.Routing.{Routing}
use Rattle.tdm_problem.specs.Sums.{sum_below}
use Rattle.tdm_problem.specs.Value.{net_sum}

-- how many groups there are, and net by net the groups that hold the net
pub record NetGroups : Type 0 where
  pub groups : ℕ
  pub of_nets : List (List ℕ)

-- the groups that hold net n
abbrev pub groups_of : NetGroups → ℕ → List ℕ
groups_of incidence n = slice_index_or incidence.of_nets n []

-- the groups of a net rise, and each of them is there
pub record IsGroupRow (groups : ℕ) (row : List ℕ) : Type 0 where
  pub below : All (λ g. g < groups) row
  pub rising : IsStrictlyIncreasing row
  pub few : length row ≤ groups

-- for no more nets and groups than a board may have, each net's groups rising
pub record IsNetGroups (incidence : NetGroups) : Type 0 where
  pub net_limit : length incidence.of_nets ≤ most_nets
  pub group_limit : incidence.groups ≤ most_groups
  pub rows : All (IsGroupRow incidence.groups) incidence.of_nets

-- the groups before group g that hold net n, rising
abbrev pub holders_before : (groups : List (List ℕ)) → (g n : ℕ) → List ℕ
holders_before groups g n =
    filter (λ h. list_any (λ m. m == n) (slice_index_or groups h [])) (range_with_len 0 g)

-- the incidence has as many groups and nets as the board, and for each net the groups that hold it
pub record IsIncidenceOf (board : Board) (incidence : NetGroups) : Type 0 where
  pub groups : incidence.groups ≡ length board.groups
  pub nets : length incidence.of_nets ≡ length board.nets
  pub each : (n : ℕ) → n < length board.nets
      → groups_of incidence n ≡ holders_before board.groups (length board.groups) n

-- the sum of the weights of the groups of net n
abbrev pub weight_of : NetGroups → (weights : List ℕ) → (n : ℕ) → ℕ
weight_of incidence weights n = sum_by (λ g. slice_index weights g) (groups_of incidence n)

-- the sum of the ratios of the first so many nets, of those that group g holds
abbrev pub sum_before : NetGroups → Routing → (nets g : ℕ) → ℕ
sum_before incidence routing nets g =
    sum_below nets (λ n. if list_any (λ h. h == g) (groups_of incidence n) then net_sum routing n else 0)
