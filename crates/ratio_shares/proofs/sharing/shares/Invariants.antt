use Rattle.std.proofs.Common.{◌≡◌, map, take}
use Rattle.ratio_shares.specs.Shares.{share_in}
use Rattle.ratio_shares.proofs.sharing.shares.Given as goal

abbrev pub invariant-loop-number : goal.invariant-loop-number
invariant-loop-number l = l.all.items ≡ map (share_in l.s l.lanes) (take l.number-index l.s)
