use Rattle.std.proofs.Common.{◌∷◌, length, arith, ap, subst, ◌∙◌}
use Rattle.recip_sum.specs.Counts.{items, without_item}
use Rattle.recip_sum.specs.Items.{SameReciprocals}
use Rattle.std.proofs.lemmas.List.Sums.{sum_by-cons}
use Rattle.recip_sum.specs.Items.{items_of, one_less}
use Rattle.recip_sum.specs.Rounded.{floor_of}
use Rattle.recip_sum.proofs.Items.{counted-le, counted_is_positive}
use Rattle.recip_sum.proofs.Views.{counted-positive, items-seen, seen}
use Rattle.recip_sum.proofs.Changes.{AreCounts-less, SameReciprocals-one_less, seen-less, same-less}
use Rattle.recip_sum.proofs.counts.Counts.remove.Goals as goal

pub count_one_less-requires : goal.count_one_less-requires
count_one_less-requires c = counted-positive c.self.inside.counts.entries c.args.ratio c.args.self.now
    c.self.invariant.ordered c.self.view_is c.requires.there

pub overflow_sub-self : goal.overflow_sub-self
overflow_sub-self c =
    let some = counted-positive c.self.inside.counts.entries c.args.ratio c.args.self.now
    c.self.invariant.ordered c.self.view_is c.requires.there in
    let part = counted-le c.self.inside.counts.entries c.args.ratio in
    let sum = c.self.invariant.sum in
    omega arith

pub floor_of_reciprocal-requires : goal.floor_of_reciprocal-requires
floor_of_reciprocal-requires c =
    counted_is_positive c.self.inside.counts.entries c.args.ratio c.self.invariant.ratios
    (counted-positive c.self.inside.counts.entries c.args.ratio c.args.self.now c.self.invariant.ordered
    c.self.view_is c.requires.there)

pub overflow_sub-self-2 : goal.overflow_sub-self-2
overflow_sub-self-2 c =
    let es = c.self.inside.counts.entries in
    let there = counted-positive es c.args.ratio c.args.self.now c.self.invariant.ordered c.self.view_is
    c.requires.there in
    let same = (SameReciprocals-one_less es _ _ _ c.self.invariant c.args.ratio there).parts floor_of in
    let more = sum_by-cons floor_of c.args.ratio (items_of (one_less c.args.ratio es)) in
    omega (arith, same, more, c.self.invariant.rounded, c.floor_of_reciprocal.ensures)

pub invariant_of-self : goal.invariant_of-self
invariant_of-self c =
    let there = counted-positive c.self.inside.counts.entries c.args.ratio c.args.self.now
    c.self.invariant.ordered c.self.view_is c.requires.there in
    let less = c.count_one_less.ensures in
    rw c.floor_of_reciprocal.ensures (AreCounts-less c.self.inside.counts.entries c.self.inside.total
    _ _ c.self.invariant c.args.ratio c.count_one_less.new.counts.entries there less.entries
    less.ordered less.len)

pub returns-clause-less : goal.returns-clause-less
returns-clause-less c =
    let less = c.count_one_less.ensures in
    seen-less c.self.inside.counts.entries c.self.inside.total _ _ c.self.invariant c.args.ratio
    c.count_one_less.new.counts.entries less.ordered less.updates.0
    ∙ ap (λ m. without_item m c.args.ratio) c.self.view_is

pub returns-clause-same : goal.returns-clause-same
returns-clause-same c =
    let there = counted-positive c.self.inside.counts.entries c.args.ratio c.args.self.now
    c.self.invariant.ordered c.self.view_is c.requires.there in
    let less = c.count_one_less.ensures in
    subst (λ m. SameReciprocals (c.args.ratio ∷ items (seen c.count_one_less.new.counts.entries)) (items m))
    c.self.view_is
    (same-less c.self.inside.counts.entries c.self.inside.total _ _ c.self.invariant c.args.ratio
    c.count_one_less.new.counts.entries less.ordered there less.entries)

pub returns-clause-room : goal.returns-clause-room
returns-clause-room c =
    let es = c.self.inside.counts.entries in
    let there = counted-positive es c.args.ratio c.args.self.now c.self.invariant.ordered c.self.view_is
    c.requires.there in
    let less = c.count_one_less.ensures in
    let same = (SameReciprocals-one_less es _ _ _ c.self.invariant c.args.ratio there).lengths in
    let now = ap length (items-seen c.count_one_less.new.counts.entries less.ordered
    ∙ ap items_of less.entries) in
    omega (arith, same, now, c.self.invariant.sum, c.self.invariant.few)
