use Rattle.std.proofs.Common.{◌≡◌, suc, ◌∷◌, length}
use Rattle.board_graph.specs.Graph.{board_of}
use Rattle.cert_checker.specs.Growing.{arcs_of, IsGrowing, StaysListed}
use Rattle.cert_checker.proofs.growth.grow_all.Given as goal

abbrev pub invariant-loop-i : goal.invariant-loop-i
invariant-loop-i l = IsGrowing (board_of l.graph) l.root (l.first ∷ l.later)
    (arcs_of l.fn.up.items l.fn.down.items) (suc l.i) l.growth (arcs_of l.up.items l.down.items) l.search.goals
    × (length l.up.items ≡ length l.fn.up.items) × (length l.down.items ≡ length l.fn.down.items)
    × (length l.search.labels ≡ length l.fn.search.labels)
    × (length l.search.goals ≡ length l.fn.search.goals)
    × StaysListed l.fn.up.items l.fn.down.items l.fn.worn.listed l.up.items l.down.items l.worn.listed
    × (l.worn.limit ≡ l.fn.worn.limit) × (l.near.limit ≡ l.fn.near.limit)
