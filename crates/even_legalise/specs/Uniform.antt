use Rattle.std.specs.Prelude.{◌≡◌, ℕ, ◌*◌, ◌<◌, ◌==◌, List, length, map, sum_by, count_by, slice_index, Contains}
use Rattle.std.specs.Int.{div_ceil}
use Rattle.tdm_problem.specs.declared.solution.WireUse.{WireUse}
use Rattle.tdm_problem.specs.Board.{Board}
use Rattle.tdm_problem.specs.Routing.{Routing}
use Rattle.tdm_problem.specs.Trees.{tree_of}
use Rattle.tdm_problem.specs.Walk.{Joins}
use Rattle.tdm_problem.specs.Legal.{lanes_of, terminals_of}

-- the nets of a lane, rounded up, and raised to an even number: where there are nets, the least even ratio
-- with which that many fit these lanes if all have it (the law `uniform_is_least`)
abbrev pub uniform_ratio : (nets lanes : ℕ) → ℕ
uniform_ratio nets lanes = 2 * div_ceil (div_ceil nets lanes) 2

-- how many nets use wire e
abbrev pub nets_on : (trees : List (List ℕ)) → (e : ℕ) → ℕ
nets_on trees e = sum_by (λ wires. count_by (λ d. d == e) wires) trees

-- the use of wire e with the uniform ratio for its nets
abbrev pub uniform_use : Board → (trees : List (List ℕ)) → (e : ℕ) → WireUse
uniform_use board trees e = record { wire = e; ratio = uniform_ratio (nets_on trees e) (lanes_of board e) }

-- each net uses the wires of its tree, in order, with their uniform ratios
abbrev pub uniform_routing : Board → (trees : List (List ℕ)) → Routing
uniform_routing board trees = map (λ wires. map (uniform_use board trees) wires) trees

-- each tree joins the FPGAs of its net
abbrev pub JoinsEachNet : Board → (trees : List (List ℕ)) → Type 0
JoinsEachNet board trees = (n : ℕ) → n < length board.nets
    → Joins board (Contains (tree_of trees n)) (terminals_of board n)

-- the counts say of each wire how many nets use it
pub record CountsNets (trees : List (List ℕ)) (wires : ℕ) (counts : List ℕ) : Type 0 where
  pub whole : length counts ≡ wires
  pub each : (e : ℕ) → e < wires → slice_index counts e ≡ nets_on trees e
