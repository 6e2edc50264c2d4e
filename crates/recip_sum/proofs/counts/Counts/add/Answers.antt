use Rattle.std.proofs.Common.{◌≡◌, ◌∷◌, length, arith, ap, sym, subst, ◌∙◌}
use Rattle.recip_sum.specs.Counts.{items, with_item}
use Rattle.std.proofs.Common.{◌^◌}
use Rattle.std.proofs.Math.Nat.{div-le_self}
use Rattle.recip_sum.proofs.RoundedSums.{floor_sum-most}
use Rattle.recip_sum.specs.Items.{SameReciprocals, items_of}
use Rattle.recip_sum.proofs.Items.{counted-le, length-le-items_of}
use Rattle.recip_sum.proofs.Views.{items-seen, seen}
use Rattle.recip_sum.proofs.Changes.{AreCounts-more, seen-more, same-more}
use Rattle.recip_sum.proofs.counts.Counts.add.Goals as goal

pub make_room-requires : goal.make_room-requires
make_room-requires c =
    omega (
      arith,
      length-le-items_of c.self.inside.counts.entries c.self.invariant.positive,
      c.self.invariant.sum,
      c.self.invariant.few,
      c.len.ensures.len,
    )

pub overflow_add-self-2 : goal.overflow_add-self-2
overflow_add-self-2 c =
    let few = c.self.invariant.few in
    let most = floor_sum-most (items_of c.self.inside.counts.entries) in
    omega (
      arith,
      c.self.invariant.rounded,
      c.self.invariant.sum,
      c.floor_of_reciprocal.ensures,
      div-le_self (2 ^ 64) c.args.ratio,
    )

pub count_one_more-requires : goal.count_one_more-requires
count_one_more-requires c =
    let es = c.self.inside.counts.entries in
    let all : length (items c.args.self.now) ≡ length _ =
    ap length (ap items (sym c.self.view_is) ∙ items-seen es c.self.invariant.ordered) in
    let part = counted-le es c.args.ratio in
    let few = c.requires.few in
    omega arith

pub invariant_of-self-2 : goal.invariant_of-self-2
invariant_of-self-2 c =
    let es = c.self.inside.counts.entries in
    let all = ap length (ap items (sym c.self.view_is) ∙ items-seen es c.self.invariant.ordered) in
    let sum = c.self.invariant.sum in
    let few = c.requires.few in
    let more = c.in_ok-count_one_more.ensures in
    rw c.floor_of_reciprocal.ensures (AreCounts-more es c.self.inside.total _ _ c.self.invariant c.args.ratio
    c.count_one_more.new.counts.entries _ (omega arith) (
      c.requires.positive,
      omega arith,
    ) more.entries more.ordered (omega (
      arith,
      more.len,
      c.in_ok-make_room.ensures.room,
      c.len.ensures.len,
    )))

pub returns-clause-ok : goal.returns-clause-ok
returns-clause-ok c =
    let more = c.in_ok-count_one_more.ensures in
    seen-more c.self.inside.counts.entries c.self.inside.total _ _ c.self.invariant c.args.ratio
    c.count_one_more.new.counts.entries more.ordered more.updates.0
    ∙ ap (λ m. with_item m c.args.ratio) c.self.view_is

pub returns-clause-same : goal.returns-clause-same
returns-clause-same c =
    let more = c.in_ok-count_one_more.ensures in
    subst (λ m. SameReciprocals (items (seen c.count_one_more.new.counts.entries)) (c.args.ratio ∷ items m))
    c.self.view_is
    (same-more c.self.inside.counts.entries c.self.inside.total _ _ c.self.invariant c.args.ratio
    c.count_one_more.new.counts.entries more.ordered more.entries)
