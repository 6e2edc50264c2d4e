use Rattle.std.proofs.Common.{arith, ap, sym, ◌∙◌, subst, All}
use Rattle.std.specs.FinMap as map
use Rattle.recip_sum.proofs.Items.{length-le-items_of}
use Rattle.recip_sum.proofs.Views.{len-seen, entries-seen, IsCounted, All-counted}
use Rattle.recip_sum.proofs.counts.Counts.distinct.Goals as goal

pub overflow_cast-result : goal.overflow_cast-result
overflow_cast-result c =
    let few = length-le-items_of c.self.inside.counts.entries c.self.invariant.positive in omega arith

pub returns-clause-number : goal.returns-clause-number
returns-clause-number c = c.len.ensures.len
    ∙ sym (len-seen c.self.inside.counts.entries c.self.invariant.ordered) ∙ ap map.len c.self.view_is

pub returns-clause-positive : goal.returns-clause-positive
returns-clause-positive c =
    let es = c.self.inside.counts.entries in
    subst (λ m. All IsCounted (map.entries m)) c.self.view_is
    (subst (λ es. All IsCounted es) (sym (entries-seen es c.self.invariant.ordered))
    (All-counted es c.self.invariant.ratios c.self.invariant.positive))
