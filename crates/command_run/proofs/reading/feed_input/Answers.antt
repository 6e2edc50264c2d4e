use Rattle.std.proofs.Common.{◌≤◌, arith, sym, ◌∙◌, ap, subst, refl, length-take, ◌+◌, ◌++◌, [], length}
use Rattle.std.proofs.lemmas.List.{length-append}
use Rattle.tdm_desk.specs.Files.{Bytes}
use Rattle.std.proofs.lemmas.Result.{err_from_is_err_and}
use Rattle.tdm_desk.proofs.CountLaws.{counts_nothing, counts_both, read_fault_later}
use Rattle.tdm_desk.proofs.SeenLaws.{taken-none}
use Rattle.tdm_desk.proofs.StepLaws.{still_open_input}
use Rattle.tdm_desk.proofs.LoadLaws.{Loads, loads_nothing, loads_more, loads_end, loads_same, lost_more}
use Rattle.command_run.proofs.reading.feed_input.Goals as goal
use Rattle.command_run.proofs.reading.feed_input.Goals.{else-loop-done-test, then-loop-done-test+in_ok-count+then-count-eq0}

pub returns-in_err-buffer-clause-err : goal.returns-in_err-buffer-clause-err
returns-in_err-buffer-clause-err g c =
    let p = err_from_is_err_and c.from_residual.result c.from_residual.ensures.1 in
    rw p.1 (0, sym (taken-none _ _))

pub loop-done-init : goal.loop-done-init
loop-done-init g c = record {
  in_range = omega arith;
  buffer_len = refl;
  count = c.requires.none;
  text = [];
  stands = c.requires.fresh;
  many = refl;
  loads = loads_nothing _ _ 0 [] refl refl;
  kind = refl;
  limit = refl;
  uncounted = refl;
  counted = counts_nothing _;
}

pub feed_piece-requires-clause-is_open : goal.feed_piece-requires-clause-is_open
feed_piece-requires-clause-is_open g c = still_open_input _ _ _ _ c.loop-done.invariant.loads.seen_is
    ∙ c.requires.is_open

pub returns-in_err-count-clause-err : goal.returns-in_err-count-clause-err
returns-in_err-count-clause-err g c =
    let p = err_from_is_err_and c.from_residual-in_err-count.result c.from_residual-in_err-count.ensures.1 in
    rw p.1 (lost_more _ _ _ _ _ _ c.loop-done.invariant.loads c.in_err-count.ensures.err)

pub returns-in_err-count-clause-own : goal.returns-in_err-count-clause-own
returns-in_err-count-clause-own g c =
    let p = err_from_is_err_and c.from_residual-in_err-count.result c.from_residual-in_err-count.ensures.1 in
    rw (p.1, p.2) (read_fault_later g.D.Desk.counts _ _ _ _ _ c.loop-done.invariant.uncounted
    c.in_err-count.ensures.own)

pub loop-done-preserved : goal.loop-done-preserved
loop-done-preserved g c =
    let more = c.in_ok-count.ensures.at c.loop-done.invariant.text c.loop-done.invariant.stands in
    record {
      in_range = omega (
        arith,
        c.loop-done.invariant.in_range,
        c.in_ok-count.ensures.within,
        length-take c.min-wanted.result c.deref_mut.result.now,
      );
      buffer_len = c.loop-done.invariant.buffer_len;
      count = omega (arith, c.loop-done.invariant.count, c.in_ok-count.ensures.fed);
      text = c.loop-done.invariant.text ++ more.piece;
      stands = more.stands;
      many = omega (
        arith,
        c.loop-done.invariant.many,
        more.many,
        length-append c.loop-done.invariant.text more.piece,
      );
      loads = loads_more _ _ _ _ _ _ _ _ _ c.loop-done.invariant.loads refl c.in_ok-count.ensures.ok
          (λ rest is. ap (λ piece. c.loop-done.invariant.text ++ piece) (more.next rest is));
      kind = c.feed_piece.ensures.kind ∙ c.loop-done.invariant.kind;
      limit = c.feed_piece.ensures.limit ∙ c.loop-done.invariant.limit;
      uncounted = c.in_ok-count.ensures.own ∙ c.loop-done.invariant.uncounted;
      counted = counts_both c.loop-done.invariant.counted c.feed_piece.ensures.counted;
    }

-- what the reader stands at after the loop
record AllFed (g : _) (c : goal.After-drop-buffer-2 g) : Type 0 where
  text : Bytes
  stands : g.R.TextReader.is_at c.loop-done-test.reader text
  short : length text ≤ g.R.TextReader.limit c.args.reader.now + 1
  loads : Loads c.args.slot (g.D.Desk.seen c.args.desk.now) (g.D.Desk.seen c.loop-done-test.desk)
      (g.R.TextReader.limit c.args.reader.now + 1) text

-- after the loop the reader was fed all that was asked for
all-fed : (g : _) (c : goal.After-drop-buffer-2 g) → AllFed g c
all-fed g c = elim c.loop-done-test.branch [
  | else-loop-done-test w ↦ record {
    text = c.loop-done.invariant.text;
    stands = subst (λ reader. g.R.TextReader.is_at reader c.loop-done.invariant.text)
        (sym w.reader-is) c.loop-done.invariant.stands;
    short = omega (arith, c.loop-done.invariant.in_range, c.loop-done.invariant.many, c.limit.ensures);
    loads = loads_same _ _ _ _ _ _ _ _ c.loop-done.invariant.loads (ap g.D.Desk.seen w.desk-is)
        (omega (arith, c.loop-done.invariant.in_range, w.loop-done-test.false, c.limit.ensures)) refl;
  }
  | then-loop-done-test+in_ok-count+then-count-eq0 w ↦
      let more = w.in_ok-count.ensures.at c.loop-done.invariant.text c.loop-done.invariant.stands in
      record {
        text = c.loop-done.invariant.text ++ more.piece;
        stands = subst (λ reader. g.R.TextReader.is_at reader (c.loop-done.invariant.text ++ more.piece))
            (sym w.reader-is) more.stands;
        short = omega (
          arith,
          c.loop-done.invariant.in_range,
          c.loop-done.invariant.many,
          c.limit.ensures,
          more.many,
          w.if-count-eq0.true,
          length-append c.loop-done.invariant.text more.piece,
        );
        loads = loads_same _ _ _ _ _ _ _ _
            (loads_more _ _ _ _ _ _ _ _ _
            (loads_end _ _ _ _ (g.R.TextReader.limit c.args.reader.now + 1) _ c.loop-done.invariant.loads
            (omega (arith, c.loop-done.invariant.in_range, c.limit.ensures))
            (w.in_ok-count.ensures.end w.if-count-eq0.true))
            refl w.in_ok-count.ensures.ok (λ rest is. ap (λ piece. c.loop-done.invariant.text ++ piece)
            (more.next rest is)))
            (ap g.D.Desk.seen w.desk-is) (omega (arith, w.if-count-eq0.true)) refl;
      }
]

pub returns-clause-ok : goal.returns-clause-ok
returns-clause-ok g c = (all-fed g c).loads.seen_is

pub returns-clause-fed : goal.returns-clause-fed
returns-clause-fed g c =
    let all = all-fed g c in
    record { fed = all.text; stands = all.stands; short = all.short; front = all.loads.bytes_are }

pub returns-clause-own : goal.returns-clause-own
returns-clause-own g c = elim c.loop-done-test.branch [
  | else-loop-done-test w ↦ ap g.D.Desk.counts w.desk-is ∙ c.loop-done.invariant.uncounted
  | then-loop-done-test+in_ok-count+then-count-eq0 w ↦ ap g.D.Desk.counts w.desk-is
      ∙ w.in_ok-count.ensures.own ∙ c.loop-done.invariant.uncounted
]
