-- How far FPGAs grow towards one another over wires with lengths: what joins them is at least as long.
use Rattle.std.specs.Prelude.{◌≡◌, ℕ, ◌+◌, ◌-◌, ◌≤◌, ◌⊎◌, ◌↔◌, List, [], ◌∷◌, Contains, sum_by}
use Rattle.std.specs.List.Sorted.{IsStrictlyIncreasing}
use Rattle.tdm_problem.specs.Board.{Board}
use Rattle.tdm_problem.specs.Walk.{Joins, IsConnectable}
use Rattle.tdm_problem.specs.Legal.{terminals_of}
use Rattle.shortest_forest.specs.Arcs.{Arcs, IsArcWalk, both_ways}

-- of the live FPGAs, which are the root and those that are still to grow, one is so far from FPGA x over the
-- rests of the arcs, and none is nearer
pub record IsReach (board : Board) (rests : Arcs) (x : ℕ) (live : List ℕ) (reach : ℕ) : Type 0 where
  pub nearest : ℕ
  pub listed : Contains live nearest
  pub way : (es : List ℕ) × IsArcWalk board rests x es nearest reach
  pub least : (f : ℕ) (es : List ℕ) (total : ℕ) → Contains live f → IsArcWalk board rests x es f total
      → reach ≤ total

-- FPGA f is by so much nearer to FPGA x than the reach, by 0 where it is no nearer
pub record IsHeight (board : Board) (rests : Arcs) (x reach f height : ℕ) : Type 0 where
  pub enough : (es : List ℕ) (total : ℕ) → IsArcWalk board rests x es f total → reach ≤ height + total
  pub exact : (height ≡ 0) ⊎ ((es : List ℕ) × ((total : ℕ) × IsArcWalk board rests x es f total
      × (height + total ≡ reach)))

-- what is left of the rests where the fall of the heights along each arc is taken
abbrev pub worn : Arcs → (heights : ℕ → ℕ) → Arcs
worn rests heights e from to = rests e from to - (heights from - heights to)

-- one after another the FPGAs grow until they reach the root or one that is still to grow, and wear the
-- rests; so much do they grow together
abbrev pub GrowOver : Board → (root : ℕ) → (growing : List ℕ) → (rests : Arcs) → (growth : ℕ) → Type 0
GrowOver board root [] rests growth = growth ≡ 0
GrowOver board root (x ∷ more) rests growth =
    (reach : ℕ) × IsReach board rests x (root ∷ more) reach
    × ((heights : ℕ → ℕ) × ((f : ℕ) → IsHeight board rests x reach f (heights f))
    × ((rest : ℕ) × GrowOver board root more (worn rests heights) rest × (growth ≡ reach + rest)))

-- so much do these FPGAs grow over wires of these lengths: where the wires of the board join them, the first
-- is the root and the others grow in order; where they do not, the FPGAs grow by 0
abbrev pub IsGrowth : Board → (wire_length : ℕ → ℕ) → List ℕ → (growth : ℕ) → Type 0
IsGrowth board wire_length [] growth = growth ≡ 0
IsGrowth board wire_length (root ∷ growing) growth =
    GrowOver board root growing (both_ways wire_length) growth
    ⊎ ((growth ≡ 0) × ¬ IsConnectable board (root ∷ growing))

-- the same FPGAs, each once and rising
pub record AreRising (fpgas rising : List ℕ) : Type 0 where
  pub rises : IsStrictlyIncreasing rising
  pub same : (f : ℕ) → Contains rising f ↔ Contains fpgas f

-- so much do the FPGAs of net n grow, which are taken in rising order
pub record IsNetGrowth (board : Board) (wire_length : ℕ → ℕ) (n growth : ℕ) : Type 0 where
  pub rising : List ℕ
  pub are : AreRising (terminals_of board n) rising
  pub grows : IsGrowth board wire_length rising growth

-- wires that join FPGAs are together at least as long as these grow
abbrev pub GrowthLaw : Type 0
GrowthLaw = (board : Board) (wire_length : ℕ → ℕ) (wires fpgas : List ℕ) (growth : ℕ)
    → IsGrowth board wire_length fpgas growth → Joins board (Contains wires) fpgas
    → growth ≤ sum_by wire_length wires

-- FPGAs grow by one number alone
abbrev pub OneGrowthLaw : Type 0
OneGrowthLaw = (board : Board) (wire_length : ℕ → ℕ) (fpgas : List ℕ) (growth other : ℕ)
    → IsGrowth board wire_length fpgas growth → IsGrowth board wire_length fpgas other → growth ≡ other

-- FPGAs grow by some number
abbrev pub SomeGrowthLaw : Type 0
SomeGrowthLaw = (board : Board) (wire_length : ℕ → ℕ) (fpgas : List ℕ)
    → (growth : ℕ) × IsGrowth board wire_length fpgas growth
