use Rattle.std.proofs.Common.{[], ◌∷◌}
use Rattle.recip_sum.proofs.Same.{SameReciprocals-swap}
use Rattle.recip_sum.proofs.definitions.the_order_of_items_does_not_matter.Goals as goal

pub returns-clause-same : goal.returns-clause-same
returns-clause-same c = SameReciprocals-swap 2 6 (6 ∷ [])
