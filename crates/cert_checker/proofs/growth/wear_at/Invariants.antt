use Rattle.std.proofs.Common.{◌≡◌, length}
use Rattle.cert_checker.specs.Growing.{arcs_of, height_in, StaysListed}
use Rattle.cert_checker.specs.MarkedLists.{IsLonger}
use Rattle.cert_checker.proofs.Wearing.{IsWearing, IsNearing}
use Rattle.cert_checker.proofs.growth.wear_at.Given as goal

abbrev pub invariant-loop-x : goal.invariant-loop-x
invariant-loop-x l = IsWearing l.graph l.f (height_in l.search l.reach) l.x-index
    (arcs_of l.fn.up.items l.fn.down.items) (arcs_of l.up.items l.down.items)
    × (length l.up.items ≡ length l.fn.up.items) × (length l.down.items ≡ length l.fn.down.items)
    × StaysListed l.fn.up.items l.fn.down.items l.fn.worn.listed l.up.items l.down.items l.worn.listed
    × (l.worn.limit ≡ l.fn.worn.limit) × (l.near.limit ≡ l.fn.near.limit)
    × IsLonger l.fn.near.listed l.near.listed
    × IsNearing l.graph l.f (height_in l.search l.reach) l.x-index l.near.listed
