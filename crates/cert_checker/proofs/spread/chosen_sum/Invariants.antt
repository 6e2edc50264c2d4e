use Rattle.std.proofs.Common.{◌≡◌, ◌*◌, ◌^◌, ◌≤◌, get_or}
use Rattle.tdm_problem.specs.Sums.{sum_below}
use Rattle.bound_cert.specs.Bound.{net_spread}
use Rattle.cert_checker.proofs.spread.chosen_sum.Given as goal

abbrev pub invariant-loop-n : goal.invariant-loop-n
invariant-loop-n l =
    (l.total ≡ sum_below l.n (λ n. get_or l.factors n 0 * net_spread l.problem l.cert n))
    × (l.total ≤ l.n * 2 ^ 92)
