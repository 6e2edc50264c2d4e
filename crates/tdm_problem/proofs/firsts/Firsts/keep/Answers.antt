use Rattle.std.proofs.Common.{ℕ, List, ◌∙◌, sym, ap, get_or, arith}
use Rattle.tdm_problem.specs.Firsts.{with_met}
use Rattle.tdm_problem.proofs.Repeats.{without_repeats-take_more}
use Rattle.tdm_problem.proofs.firsts.Firsts.keep.Goals as goal

pub loop-x-preserved : goal.loop-x-preserved
loop-x-preserved c =
    let x : ℕ = get_or c.args.row.now c.loop-x.x-index 0 in
    record {
      kept =
          c.in_ok-meet.ensures.kept ∙ ap (λ (kept : List ℕ). with_met kept x) c.loop-x.invariant.kept
          ∙ sym (without_repeats-take_more c.args.row.now c.loop-x.x-index 0 c.loop-x-test.true);
      indexed = c.in_ok-meet.ensures.indexed;
      room = omega arith;
      short = omega (arith, c.in_ok-meet.ensures.length);
    }
