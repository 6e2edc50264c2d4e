use Rattle.std.proofs.Common.{◌≤◌, ◌^◌, get_or, ap, arith}
use Rattle.tdm_problem.specs.Routing.{ratios_on}
use Rattle.recip_sum.proofs.RoundedSums.{fits_from_ceilings}
use Rattle.worst_refine.proofs.Lowering.{positive_on, positive_ratios}
use Rattle.worst_refine.proofs.spending.fits_by_ceilings.Goals as goal

pub returns : goal.returns
returns c = λ yes e inside.
    let spent = c.in_ok-spent.ensures in
    let within : get_or c.deref.result.now e 0 ≤ 2 ^ 64 =
    c.none_is_above.ensures.0 yes e (omega (arith, c.deref.ensures.len, spent.whole)) in
    fits_from_ceilings (ratios_on c.args.solution.now e) 1
    (positive_on c.args.solution.now e (positive_ratios c.args.solution.now c.requires.even))
    (omega (arith, within, ap (λ xs. get_or xs e 0) c.deref.ensures.value, spent.each e inside))
