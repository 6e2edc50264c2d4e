use Rattle.recip_sum.proofs.Views.{seen_none, items_none}
use Rattle.recip_sum.proofs.counts.Counts.clear.Goals as goal

pub returns-clause-empty : goal.returns-clause-empty
returns-clause-empty c = seen_none c.clear.new.self.entries c.clear.ensures.ordered c.clear.ensures.empty

pub returns-clause-no_items : goal.returns-clause-no_items
returns-clause-no_items c = items_none c.clear.new.self.entries c.clear.ensures.ordered c.clear.ensures.empty
