use Rattle.std.proofs.Common.{◌≡◌, ◌<◌, length, get_or, set, ap, ◌∙◌, arith}
use Rattle.std.proofs.lemmas.List.{get_or_default}
use Rattle.std.proofs.lemmas.List.Edits.{map_over_more}
use Rattle.tdm_problem.specs.Roots.{root_of}
use Rattle.tdm_problem.proofs.Roots.{root_of-is}
use Rattle.cert_checker.proofs.bound.take_roots.Goals as goal

pub loop-number-preserved : goal.loop-number-preserved
loop-number-preserved c =
    let inside : c.loop-number.number-index < length c.args.numbers.now = omega arith in
    let root : c.from.result ≡ root_of (get_or c.loop-number.numbers c.loop-number.number-index 0) =
    c.from.ensures ∙ root_of-is (get_or c.loop-number.numbers c.loop-number.number-index 0) c.isqrt.result
    c.isqrt.ensures.square_at_most c.isqrt.ensures.next_square_above in
    ap (set c.loop-number.numbers c.loop-number.number-index) root
    ∙ map_over_more root_of c.args.numbers.now c.loop-number.numbers c.loop-number.number-index
    (get_or c.loop-number.numbers c.loop-number.number-index 0) inside c.loop-number.invariant
    (get_or_default c.loop-number.numbers c.loop-number.number-index 0
    (get_or c.loop-number.numbers c.loop-number.number-index 0)
    (omega (arith, c.loop-number.auto.numbers)))
