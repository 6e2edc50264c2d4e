use Rattle.bound_cert.proofs.DualBound.{bound-le_value}
use Rattle.cert_checker.proofs.Bounded.{bounded}
use Rattle.cert_checker.proofs.bound.bound.Goals as goal

pub returns-clause-value : goal.returns-clause-value
returns-clause-value c =
    bounded c.args.problem.now c.args.cert.now c.args.spreads.now c.demand.result c.divisor.result
    c.least_even.result c.requires.spreads
    c.least_even.ensures c.demand.ensures.value c.divisor.ensures.value

pub returns-clause-lower : goal.returns-clause-lower
returns-clause-lower c = λ valid routing legal.
    bound-le_value c.args.problem.now c.args.cert.now c.least_even.result routing c.requires.board
    c.demand.ensures.ranges valid
    (bounded c.args.problem.now c.args.cert.now c.args.spreads.now c.demand.result c.divisor.result
    c.least_even.result c.requires.spreads
    c.least_even.ensures c.demand.ensures.value c.divisor.ensures.value)
    legal
