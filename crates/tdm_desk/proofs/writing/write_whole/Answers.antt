use Rattle.std.proofs.Common.{arith, sym, refl, ◌∙◌}
use Rattle.std.proofs.lemmas.Result.{err_from_is_err_and}
use Rattle.tdm_desk.proofs.CountLaws.{counts_nothing, counts_both, write_fault_later}
use Rattle.tdm_desk.proofs.SeenLaws.{written-nothing}
use Rattle.tdm_desk.proofs.StepLaws.{within-slice, written_more, still_open_output}
use Rattle.tdm_desk.proofs.writing.write_whole.Goals as goal

pub loop-done-init : goal.loop-done-init
loop-done-init g c = record {
  in_range = omega arith;
  seen_is = sym (written-nothing _ _);
  uncounted = refl;
  counted = counts_nothing _;
}

pub write-requires-clause-is_open : goal.write-requires-clause-is_open
write-requires-clause-is_open g c = still_open_output _ _ _ _ c.loop-done.invariant.seen_is ∙ c.requires

pub loop-done-preserved : goal.loop-done-preserved
loop-done-preserved g c = record {
  in_range = within-slice _ _ _ c.loop-done.invariant.in_range c.in_ok-done.ensures.within;
  seen_is = written_more _ _ _ _ _ _ _ c.loop-done.invariant.seen_is c.in_ok-done.ensures.ok;
  uncounted = c.in_ok-done.ensures.own ∙ c.loop-done.invariant.uncounted;
  counted = counts_both c.loop-done.invariant.counted c.write.ensures.counted;
}

pub returns-in_err-done-clause-own : goal.returns-in_err-done-clause-own
returns-in_err-done-clause-own g c =
    let p = err_from_is_err_and c.from_residual.result c.from_residual.ensures.1 in
    rw (p.1, p.2) (write_fault_later g.D.Desk.counts _ _ _ _ c.loop-done.invariant.uncounted
    c.in_err-done.ensures.own)
