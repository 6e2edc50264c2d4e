use Rattle.std.proofs.Common.{arith, ap, ◌∙◌}
use Rattle.recip_sum.specs.Counts.{count_of}
use Rattle.recip_sum.proofs.CountLaws.{count_of-with_item}
use Rattle.recip_sum.proofs.tests.least_even_beside.Goals as goal

pub remove-requires : goal.remove-requires
remove-requires g c =
    let counted = ap (λ m. count_of m 4294967294) c.fits_lanes.ensures.same
    ∙ ap (λ m. count_of m 4294967294) c.in_ok-add.ensures.ok
    ∙ count_of-with_item _ 4294967294 4294967294 in
    record { there = omega (arith, counted) }
