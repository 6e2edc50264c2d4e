use Rattle.std.proofs.Common.{arith, ap, ◌∙◌}
use Rattle.recip_sum.specs.Counts.{count_of}
use Rattle.recip_sum.proofs.CountLaws.{count_of-with_item}
use Rattle.recip_sum.proofs.tests.an_item_taken_away_leaves_the_others.Goals as goal

pub remove-requires : goal.remove-requires
remove-requires g c =
    let counted = ap (λ m. count_of m 2) c.in_ok-add.ensures.ok ∙ count_of-with_item _ 2 2 in
    record { there = omega (arith, counted) }
