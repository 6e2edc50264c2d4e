use Rattle.std.proofs.Common.{length, ap, sym, ◌∙◌}
use Rattle.recip_sum.specs.Counts.{items}
use Rattle.recip_sum.proofs.Views.{items-seen}
use Rattle.recip_sum.proofs.counts.Counts.items.Goals as goal

pub returns : goal.returns
returns c =
    c.self.invariant.sum ∙ sym (ap length (items-seen c.self.inside.counts.entries c.self.invariant.ordered))
    ∙ ap (λ counts. length (items counts)) c.self.view_is
