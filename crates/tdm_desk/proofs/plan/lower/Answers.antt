use Rattle.std.proofs.Common.{◌<◌, ◌-◌, length, get_or, set, ap, ◌∙◌, arith}
use Rattle.std.proofs.lemmas.List.{get_or_default}
use Rattle.std.proofs.lemmas.List.Edits.{map_over_more}
use Rattle.tdm_desk.proofs.plan.lower.Goals as goal

pub loop-n-preserved : goal.loop-n-preserved
loop-n-preserved c =
    let inside : c.loop-n.n-index < length c.args.numbers.now = omega arith in
    ap (set c.loop-n.numbers c.loop-n.n-index) c.saturating_sub.ensures
    ∙ map_over_more (λ n. n - 1) c.args.numbers.now c.loop-n.numbers c.loop-n.n-index
    (get_or c.loop-n.numbers c.loop-n.n-index 0) inside c.loop-n.invariant
    (get_or_default c.loop-n.numbers c.loop-n.n-index 0 (get_or c.loop-n.numbers c.loop-n.n-index 0)
    (omega (arith, c.loop-n.auto.numbers)))
