use Rattle.std.proofs.Common.{◌≡◌, ◌<◌, get_or, sym, ◌∙◌, arith}
use Rattle.std.proofs.lemmas.List.{get_or_default}
use Rattle.ripup_reroute.proofs.Bounding.{bound-below}
use Rattle.ripup_reroute.proofs.ways.WayBounds.new.Goals as goal

pub returns-clause-ways : goal.returns-clause-ways
returns-clause-ways c = λ board wire_length goals is scaled others. record {
  among = λ g marked.
      let there = (others g).0 marked in
      let same : get_or c.args.terminals.now there.0.0 0 ≡ g =
      get_or_default c.args.terminals.now there.0.0 0 g there.0.1 ∙ there.0.2 in
      let place = c.loop-t.invariant.among there.0.0 (omega (arith, there.0.1, c.loop-t-test.false))
      (λ start. there.1 (sym same ∙ start)) in
      (place.0, place.1, place.2 ∙ same);
  long = λ t f es among walk.
      let inside : get_or c.loop-t.waiting among.0 0 < c.args.table.now.fpgas =
      c.loop-t.invariant.there among.0 0 (omega (
        arith,
        among.1,
        c.loop-t.invariant.few,
        c.loop-t.invariant.room,
        c.requires.few,
        c.loop-t.auto.t-index-end,
      )) in
      bound-below board c.args.table.now c.args.scale wire_length is scaled t f es (omega (
        arith,
        inside,
        among.2,
        is.fpgas,
      )) walk;
}
