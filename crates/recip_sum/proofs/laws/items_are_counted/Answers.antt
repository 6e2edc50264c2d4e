use Rattle.recip_sum.proofs.Members.{count_of-positive}
use Rattle.recip_sum.proofs.laws.items_are_counted.Goals as goal

pub returns : goal.returns
returns c = count_of-positive
