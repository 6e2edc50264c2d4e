-- Walks begin with a wire: where each wire at an FPGA and the bound from its other end on reach a cap, so do
-- walks.
use Rattle.std.proofs.Common.{◌≡◌, ◌≢◌, ℕ, ◌+◌, ◌<◌, ◌≤◌, List, [], ◌∷◌, length, get_or, ap, ⊎_elim, arith}
use Rattle.std.proofs.lemmas.Bool.{cases_lt}
use Rattle.std.proofs.lemmas.List.Elements.{Contains-get_or}
use Rattle.std.proofs.lemmas.List.Sums.{sum_by-cons, sum_by_more_le}
use Rattle.tdm_problem.specs.Board.{Board}
use Rattle.tdm_problem.specs.Distance.{length_of}
use Rattle.tdm_problem.specs.Walk.{IsWalk, AnyWire}
use Rattle.board_graph.specs.declared.neighbour.Neighbour.{Neighbour}
use Rattle.board_graph.specs.Graph.{Graph, board_of}
use Rattle.board_graph.specs.Neighbours.{neighbours_of}
use Rattle.shortest_forest.proofs.NeighbourLaws.{neighbour-from_links}
use Rattle.steiner_build.specs.Building.{IsWithinWalks}
use Rattle.ripup_reroute.specs.declared.table.Table.{Table}
use Rattle.ripup_reroute.specs.Bounds.{IsTable, IsScaled, bound_at}
use Rattle.ripup_reroute.proofs.Bounding.{bound-below}

abbrev pub no_neighbour : Neighbour
no_neighbour = record { wire = 0; fpga = 0 }

-- the length of a wire and the bound of walks from its other end to FPGA b
abbrev pub reach_by : Table → (scale : ℕ) → (ℕ → ℕ) → (b : ℕ) → Neighbour → ℕ
reach_by table scale wire_length b n = wire_length n.wire + bound_at table scale b n.fpga

-- the first wires at FPGA a, so many, reach the cap with the bounds of their other ends
abbrev pub DoReach : Graph → Table → (scale : ℕ) → (ℕ → ℕ) → (a b cap n : ℕ) → Type 0
DoReach graph table scale wire_length a b cap n = (k : ℕ) → k < n
    → cap ≤ reach_by table scale wire_length b (get_or (neighbours_of graph a) k no_neighbour)

pub DoReach-more : (graph : Graph) (table : Table) (scale : ℕ) (wire_length : ℕ → ℕ) (a b cap n : ℕ)
    → DoReach graph table scale wire_length a b cap n
    → cap ≤ reach_by table scale wire_length b (get_or (neighbours_of graph a) n no_neighbour)
    → DoReach graph table scale wire_length a b cap (n + 1)
DoReach-more graph table scale wire_length a b cap n before this k below =
    ⊎_elim
    (λ (earlier : k < n). before k earlier)
    (λ (last : n ≤ k).
    let same : k ≡ n = omega (arith, last, below) in
    omega (
      arith,
      this,
      ap (λ (i : ℕ). reach_by table scale wire_length b (get_or (neighbours_of graph a) i no_neighbour)) same,
    ))
    (cases_lt k n)

-- where all wires at FPGA a reach the cap, so does each walk to another FPGA
pub walks-reach : (graph : Graph) (table : Table) (scale : ℕ) (wire_length : ℕ → ℕ) (a b cap : ℕ)
    → IsTable (board_of graph) table → IsScaled table scale wire_length → b < graph.fpgas → a ≢ b
    → DoReach graph table scale wire_length a b cap (length (neighbours_of graph a))
    → (es : List ℕ) → IsWalk (board_of graph) (AnyWire (board_of graph)) a es b
    → cap ≤ length_of wire_length es
walks-reach graph table scale wire_length a b cap is scaled there apart reach [] walk = absurd (apart walk)
walks-reach graph table scale wire_length a b cap is scaled there apart reach (e ∷ es) walk =
    let place = neighbour-from_links graph a e walk.1.0 walk.1.1 in
    omega (
      arith,
      reach place.0 place.1,
      ap (reach_by table scale wire_length b) (place.2 no_neighbour),
      bound-below (board_of graph) table scale wire_length is scaled b walk.1.0 es there walk.1.2,
      sum_by-cons wire_length e es,
    )

-- walks to all terminals are together at least as long as one to the second
pub within-second : (board : Board) (wire_length : ℕ → ℕ) (start : ℕ) (terminals : List ℕ) (number : ℕ)
    → 1 < length terminals
    → ((es : List ℕ) → IsWalk board (AnyWire board) start es (get_or terminals 1 0)
    → number ≤ length_of wire_length es)
    → IsWithinWalks board wire_length start terminals number
within-second board wire_length start terminals number two short far reached =
    let way = reached (get_or terminals 1 0) (Contains-get_or terminals 1 0 two) in
    omega (arith, short way.0 way.1, way.2, sum_by_more_le far terminals 1 0 two)
