use Rattle.std.proofs.Common.{arith, sym, ◌∙◌, ap, refl, length-take, ◌+◌}
use Rattle.std.proofs.lemmas.Result.{err_from_is_err_and}
use Rattle.tdm_desk.proofs.CountLaws.{counts_nothing, counts_both, read_fault_later}
use Rattle.tdm_desk.proofs.SeenLaws.{taken-none}
use Rattle.tdm_desk.proofs.StepLaws.{still_open_input}
use Rattle.tdm_desk.proofs.LoadLaws.{Loads, loads_nothing, loads_more, loads_end, loads_same, lost_more}
use Rattle.tdm_desk.proofs.loading.load.Goals as goal
use Rattle.tdm_desk.proofs.loading.load.Goals.{else-loop-slot-test, then-loop-slot-test+in_ok-count+then-count-eq0}

pub returns-in_err-buffer-clause-err : goal.returns-in_err-buffer-clause-err
returns-in_err-buffer-clause-err g c =
    let p = err_from_is_err_and c.from_residual.result c.from_residual.ensures.1 in
    rw p.1 (0, sym (taken-none _ _))

pub loop-slot-init : goal.loop-slot-init
loop-slot-init g c = record {
  in_range = omega (arith, c.new-bytes.ensures.len);
  buffer_len = refl;
  loads = loads_nothing _ _ _ _ c.new-bytes.ensures.len c.new-bytes.ensures.items;
  uncounted = refl;
  counted = counts_nothing _;
}

pub load_piece-requires-clause-is_open : goal.load_piece-requires-clause-is_open
load_piece-requires-clause-is_open g c = still_open_input _ _ _ _ c.loop-slot.invariant.loads.seen_is
    ∙ c.requires.is_open

pub returns-in_err-count-clause-err : goal.returns-in_err-count-clause-err
returns-in_err-count-clause-err g c =
    let p = err_from_is_err_and c.from_residual-in_err-count.result c.from_residual-in_err-count.ensures.1 in
    rw p.1 (lost_more _ _ _ _ _ _ c.loop-slot.invariant.loads c.in_err-count.ensures.err)

pub loop-slot-preserved : goal.loop-slot-preserved
loop-slot-preserved g c = record {
  in_range = omega (
    arith,
    c.loop-slot.invariant.in_range,
    c.in_ok-count.ensures.more,
    c.in_ok-count.ensures.within,
    length-take c.min-wanted.result c.deref_mut.result.now,
  );
  buffer_len = c.loop-slot.invariant.buffer_len;
  loads = loads_more _ _ _ _ _ _ _ _ _ c.loop-slot.invariant.loads c.in_ok-count.ensures.more
      c.in_ok-count.ensures.ok c.in_ok-count.ensures.bytes;
  uncounted = c.in_ok-count.ensures.own ∙ c.loop-slot.invariant.uncounted;
  counted = counts_both c.loop-slot.invariant.counted c.load_piece.ensures.counted;
}

-- after the loop the input has given all that was asked for
loaded : (g : _) (c : goal.After-drop-buffer-2 g)
    → Loads c.args.slot (g.D.Desk.seen c.args.desk.now) (g.D.Desk.seen c.loop-slot-test.desk)
    (c.args.limit + 1) c.loop-slot-test.bytes.items
loaded g c = elim c.loop-slot-test.branch [
  | else-loop-slot-test w ↦ loads_same _ _ _ _ _ _ _ _ c.loop-slot.invariant.loads
      (ap g.D.Desk.seen w.desk-is)
      (omega (arith, c.loop-slot.invariant.in_range, w.loop-slot-test.false, c.len.ensures))
      (ap (λ v. v.items) w.bytes-is)
  | then-loop-slot-test+in_ok-count+then-count-eq0 w ↦ loads_same _ _ _ _ _ _ _ _
      (loads_more _ _ _ _ _ _ _ _ _
      (loads_end _ _ _ _ (c.args.limit + 1) _ c.loop-slot.invariant.loads c.loop-slot.invariant.in_range
      (w.in_ok-count.ensures.end w.if-count-eq0.true))
      refl w.in_ok-count.ensures.ok w.in_ok-count.ensures.bytes)
      (ap g.D.Desk.seen w.desk-is) (omega (arith, w.if-count-eq0.true)) (ap (λ v. v.items) w.bytes-is)
]

pub returns-clause-ok : goal.returns-clause-ok
returns-clause-ok g c = (loaded g c).seen_is

pub returns-clause-bytes : goal.returns-clause-bytes
returns-clause-bytes g c = (loaded g c).bytes_are

pub returns-in_err-count-clause-own : goal.returns-in_err-count-clause-own
returns-in_err-count-clause-own g c =
    let p = err_from_is_err_and c.from_residual-in_err-count.result c.from_residual-in_err-count.ensures.1 in
    rw (p.1, p.2) (read_fault_later g.D.Desk.counts _ _ _ _ _ c.loop-slot.invariant.uncounted
    c.in_err-count.ensures.own)

pub returns-clause-own : goal.returns-clause-own
returns-clause-own g c = elim c.loop-slot-test.branch [
  | else-loop-slot-test w ↦ ap g.D.Desk.counts w.desk-is ∙ c.loop-slot.invariant.uncounted
  | then-loop-slot-test+in_ok-count+then-count-eq0 w ↦ ap g.D.Desk.counts w.desk-is
      ∙ w.in_ok-count.ensures.own ∙ c.loop-slot.invariant.uncounted
]
