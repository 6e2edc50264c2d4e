use Rattle.std.proofs.Common.{ap, sym, ◌∙◌}
use Rattle.recip_sum.specs.Counts.{items}
use Rattle.recip_sum.specs.Rounded.{floor_sum}
use Rattle.recip_sum.proofs.Views.{items-seen}
use Rattle.recip_sum.proofs.counts.Counts.floor_sum.Goals as goal

pub returns : goal.returns
returns c =
    c.self.invariant.rounded
    ∙ sym (ap floor_sum (items-seen c.self.inside.counts.entries c.self.invariant.ordered))
    ∙ ap (λ counts. floor_sum (items counts)) c.self.view_is
