use Rattle.std.specs.Prelude.{◌≡◌, ◌≢◌, ℕ, ◌<◌, ◌≤◌, ◌==◌, List, [], ◌∷◌, ◌++◌, length, map, filter, slice_index, slice_index_or, slice_set, All, AllPairs}
use Rattle.std.specs.List.Sorted.{IsStrictlyIncreasing}
use Rattle.tdm_problem.specs.declared.solution.WireUse.{WireUse}
use Rattle.tdm_problem.specs.Limits.{most_nets}
use Rattle.tdm_problem.specs.Board.{Board}

-- what a solution says: net by net, the uses of wires
abbrev pub Routing : Type 0
Routing = List (List WireUse)

-- the uses of net n
abbrev pub uses_of : Routing → ℕ → List WireUse
uses_of routing n = slice_index_or routing n []

-- the wires of a net's uses
abbrev pub wires_of : List WireUse → List ℕ
wires_of uses = map (λ u. u.wire) uses

-- the ratios of a net's uses
abbrev pub ratios_of : List WireUse → List ℕ
ratios_of uses = map (λ u. u.ratio) uses

-- the ratios on wire e, nets in order
abbrev pub ratios_on : Routing → ℕ → List ℕ
ratios_on [] e = []
ratios_on (uses ∷ routing) e = ratios_of (filter (λ u. u.wire == e) uses) ++ ratios_on routing e

-- the routing has uses for each net of the board, of wires that are there, no wire twice for one net
pub record IsFor (board : Board) (routing : Routing) : Type 0 where
  pub nets : length routing ≡ length board.nets
  pub there : All (λ uses. All (λ u. u.wire < length board.wires) uses) routing
  pub distinct : All (λ uses. AllPairs (λ d e. d ≢ e) (wires_of uses)) routing

-- for no more nets than a board may have, each net's wires rising strictly
pub record HasRisingWires (routing : Routing) : Type 0 where
  pub net_limit : length routing ≤ most_nets
  pub rising : All (λ uses. IsStrictlyIncreasing (wires_of uses)) routing

-- the routing with this ratio at a place of net n
abbrev pub with_ratio : Routing → ℕ → ℕ → ℕ → Routing
with_ratio routing n place ratio =
    let uses : List WireUse = uses_of routing n in
    let use_there : WireUse = record { wire = slice_index (wires_of uses) place; ratio = ratio } in
    slice_set routing n (slice_set uses place use_there)
