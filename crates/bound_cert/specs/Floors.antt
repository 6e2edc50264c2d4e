-- The numbers that the bounds of the two plain certificates are.
use Rattle.std.specs.Prelude.{◌≡◌, ℕ, zero, suc, ◌-◌, ◌*◌, ◌/◌, ◌==◌, List, length, map, count_by}
use Rattle.std.specs.List.{list_any}
use Rattle.tdm_problem.specs.Board.{Board}
use Rattle.tdm_problem.specs.Value.{largest}
use Rattle.tdm_problem.specs.Sums.{sum_below}
use Rattle.tdm_problem.specs.Roots.{root_of}
use Rattle.bound_cert.specs.Limits.{uniform_weight}
use Rattle.bound_cert.specs.Bound.{least_even}
use Rattle.bound_cert.specs.Depths.{AreDepths, depth_of, group_depth}

-- twice the sum of the depths of a group's nets, of the group where it is largest; 0 without groups
abbrev pub hop_floor : Board → (depths : List ℕ) → ℕ
hop_floor board depths = largest (map (λ group. 2 * group_depth depths group) board.groups)

-- how many groups hold net n
abbrev pub holders_of : Board → (n : ℕ) → ℕ
holders_of board n = count_by (λ group. list_any (λ m. m == n) group) board.groups

-- the root of the weight of net n, where each group has the same weight
abbrev pub uniform_root : Board → (n : ℕ) → ℕ
uniform_root board n = root_of (uniform_weight * holders_of board n)

-- the sum over all nets of the depth times the root of the weight
abbrev pub rooted_depths : Board → (depths : List ℕ) → ℕ
rooted_depths board depths = sum_below (length board.nets) (λ n. uniform_root board n * depth_of depths n)

-- one of so many equal parts of a number, rounded down; 0 without parts
abbrev pub part_of : (whole parts : ℕ) → ℕ
part_of whole zero = 0
part_of whole (suc p) = whole / suc p

-- the one length of all wires
abbrev pub uniform_length : Board → (depths : List ℕ) → ℕ
uniform_length board depths = part_of (rooted_depths board depths) (length board.wires)

-- the least even number that, times the weight of all groups, is at least twice the length times the rooted
-- depths less its square for each wire; 0 without groups, and without wires
abbrev pub share_floor : Board → (depths : List ℕ) → ℕ
share_floor board depths =
    let long = uniform_length board depths in
    least_even (2 * long * rooted_depths board depths - length board.wires * (long * long))
    (uniform_weight * length board.groups)

-- the number is the floor by hops
pub record IsHopFloor (board : Board) (floor : ℕ) : Type 0 where
  pub depths : List ℕ
  pub are_depths : AreDepths board depths
  pub floor_is : floor ≡ hop_floor board depths

-- the number is the floor by shares
pub record IsShareFloor (board : Board) (floor : ℕ) : Type 0 where
  pub depths : List ℕ
  pub are_depths : AreDepths board depths
  pub floor_is : floor ≡ share_floor board depths
