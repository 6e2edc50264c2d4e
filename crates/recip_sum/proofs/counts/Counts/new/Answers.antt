use Rattle.recip_sum.proofs.Views.{seen_none, items_none}
use Rattle.recip_sum.proofs.counts.Counts.new.Goals as goal

pub returns-clause-empty : goal.returns-clause-empty
returns-clause-empty c = seen_none c.new.result.entries c.new.ensures.ordered c.new.ensures.empty

pub returns-clause-no_items : goal.returns-clause-no_items
returns-clause-no_items c = items_none c.new.result.entries c.new.ensures.ordered c.new.ensures.empty
