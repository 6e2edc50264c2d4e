use Rattle.std.proofs.Common.{◌∙◌, arith}
use Rattle.bound_cert.proofs.DualBound.{bound_of-le_value}
use Rattle.cert_checker.proofs.Bounded.{bounded_by_shares}
use Rattle.cert_checker.proofs.RootSums.{roots-small, root_spreads_is}
use Rattle.cert_checker.proofs.bound.bound_by_shares.Goals as goal

pub chosen_sum-total-requires-clause-small : goal.chosen_sum-total-requires-clause-small
chosen_sum-total-requires-clause-small c =
    roots-small c.args.problem.now c.args.cert.now c.args.roots.now c.requires.count c.requires.roots
    (omega (arith, c.sum_of_weights-weights.ensures.value, c.sum_of_weights-weights.ensures.within))

pub returns-clause-value : goal.returns-clause-value
returns-clause-value c =
    bounded_by_shares c.args.problem.now c.args.cert.now c.chosen_sum-total.result
    c.sum_of_squares-squares.result c.sum_of_weights-weights.result c.saturating_sub.result c.from.result
    c.least_even.result c.requires.share (c.chosen_sum-total.ensures.value
    ∙ root_spreads_is c.args.problem.now c.args.cert.now c.args.roots.now c.requires.roots)
    c.sum_of_squares-squares.ensures c.sum_of_weights-weights.ensures.value
    (omega (arith, c.saturating_sub.ensures)) c.from.ensures c.least_even.ensures

pub returns-clause-lower : goal.returns-clause-lower
returns-clause-lower c = λ valid routing legal.
    omega (
      arith,
      returns-clause-value c,
      bound_of-le_value c.args.problem.now c.args.cert.now routing c.chosen_sum-total.ensures.board
          c.kind-kind.ensures.ranges valid legal,
    )
