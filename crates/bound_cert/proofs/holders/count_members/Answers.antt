use Rattle.std.proofs.Common.{◌≡◌, ℕ, ◌+◌, ◌<◌, List, length, get_or, take, subst, arith}
use Rattle.std.specs.Prelude.{slice_index}
use Rattle.std.proofs.lemmas.List.{take_all}
use Rattle.bound_cert.proofs.HolderLaws.{holds, one_if, counted_none, counted_more, count_before}
use Rattle.bound_cert.proofs.holders.count_members.Goals as goal

pub loop-n-init : goal.loop-n-init
loop-n-init c = counted_none c.args.group.now c.args.counts.now

pub overflow_add-counts : goal.overflow_add-counts
overflow_add-counts c =
    let x : ℕ = get_or c.args.group.now c.loop-n.n-index 0 in
    let same : slice_index c.loop-n.counts x ≡ slice_index c.args.counts.now x =
    count_before c.args.group.now c.args.counts.now c.loop-n.counts c.loop-n.n-index c.requires.distinct
    c.loop-n-test.true c.loop-n.invariant in
    let below : x < length c.args.counts.now = c.requires.there c.loop-n.n-index 0 c.loop-n-test.true in
    omega (arith, same, c.requires.few x 0 below)

pub loop-n-preserved : goal.loop-n-preserved
loop-n-preserved c =
    let x : ℕ = get_or c.args.group.now c.loop-n.n-index 0 in
    let below : x < length c.args.counts.now = c.requires.there c.loop-n.n-index 0 c.loop-n-test.true in
    counted_more c.args.group.now c.args.counts.now c.loop-n.counts c.loop-n.n-index c.requires.distinct
    c.loop-n-test.true (omega (arith, below)) c.loop-n.invariant

pub returns : goal.returns
returns c n there =
    let whole : take c.loop-n.n-index c.args.group.now ≡ c.args.group.now =
    take_all c.loop-n.n-index c.args.group.now (omega arith) in
    subst (λ (group : List ℕ). slice_index c.loop-n.counts n ≡ slice_index c.args.counts.now n
    + one_if (holds group n)) whole (c.loop-n.invariant.each n)
