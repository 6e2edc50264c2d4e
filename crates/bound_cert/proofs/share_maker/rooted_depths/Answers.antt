use Rattle.std.proofs.Common.{◌≡◌, ℕ, length, ap, ◌∙◌, arith}
use Rattle.tdm_problem.specs.Sums.{sum_below}
use Rattle.bound_cert.proofs.Rooted.{rooted, rooted_none, rooted_more, rooted_fits, rooted_within}
use Rattle.bound_cert.proofs.share_maker.rooted_depths.Goals as goal

pub loop-n-init : goal.loop-n-init
loop-n-init c = rooted_none c.args.holders.now c.args.depths.now

pub overflow_add-total : goal.overflow_add-total
overflow_add-total c =
    let fits = rooted_fits c.args.holders.now c.args.depths.now c.loop-n.n c.loop-n.total
    c.rooted_depth-total.result c.loop-n-test.true c.requires.few c.requires.small c.loop-n.invariant
    c.rooted_depth-total.ensures.within in
    omega (arith, fits)

pub loop-n-preserved : goal.loop-n-preserved
loop-n-preserved c =
    rooted_more c.args.holders.now c.args.depths.now c.loop-n.n c.loop-n.total c.rooted_depth-total.result
    c.loop-n-test.true c.loop-n.invariant c.rooted_depth-total.ensures.value
    c.rooted_depth-total.ensures.within

pub returns-clause-total : goal.returns-clause-total
returns-clause-total c =
    let all : c.loop-n.n ≡ length c.args.depths.now = omega arith in
    c.loop-n.invariant.total_is ∙ ap (λ (n : ℕ). sum_below n (rooted c.args.holders.now c.args.depths.now))
    all

pub returns-clause-within : goal.returns-clause-within
returns-clause-within c most small =
    rooted_within c.args.holders.now c.args.depths.now c.loop-n.n c.loop-n.total most
    (omega (arith, c.requires.few)) c.loop-n.invariant small
