use Rattle.std.proofs.Common.{◌≡◌, ◌*◌, ◌^◌, ◌≤◌, take}
use Rattle.std.specs.Prelude.{max, sum_by}
use Rattle.ratio_shares.proofs.sharing.sum_of_claims.Given as goal

abbrev pub invariant-loop-number : goal.invariant-loop-number
invariant-loop-number l = (l.claims ≡ sum_by (λ number. max number l.least) (take l.number-index l.numbers))
    × (l.claims ≤ l.number-index * 2 ^ 30)
