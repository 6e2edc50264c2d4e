use Rattle.std.proofs.Common.{◌≡◌, ◌-◌, length}
use Rattle.std.specs.Prelude.{Contains}
use Rattle.board_graph.specs.Graph.{board_of}
use Rattle.cert_checker.specs.Growing.{arcs_of, height_in, StaysListed}
use Rattle.cert_checker.proofs.Wearing.{AreWorn}
use Rattle.cert_checker.proofs.growth.wear.Given as goal

abbrev pub invariant-loop-f : goal.invariant-loop-f
invariant-loop-f l = AreWorn (board_of l.graph) (height_in l.search l.reach) l.near.listed l.i
    (arcs_of l.fn.up.items l.fn.down.items) (arcs_of l.up.items l.down.items)
    × Contains l.near.listed l.x
    × (length l.up.items ≡ length l.fn.up.items) × (length l.down.items ≡ length l.fn.down.items)
    × StaysListed l.fn.up.items l.fn.down.items l.fn.worn.listed l.up.items l.down.items l.worn.listed
    × (l.worn.limit ≡ l.fn.worn.limit) × (l.near.limit ≡ l.fn.near.limit)

abbrev pub decreases-loop-f : goal.decreases-loop-f
decreases-loop-f l = l.graph.fpgas - l.i
