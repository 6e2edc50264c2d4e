use Rattle.std.proofs.Common.{◌∙◌, arith}
use Rattle.ripup_reroute.proofs.Bounding.{ways-rise, ways-left}
use Rattle.ripup_reroute.proofs.ways.WayBoundsTreeBounds.join.Goals as goal

pub returns-in-Some-clause-rising : goal.returns-in-Some-clause-rising
returns-in-Some-clause-rising c =
    let s = c.args.self.now in
    ways-rise s.table.now s.scale s.waiting s.left c.in-Some.i c.in-Some.ensures.below (omega (
      arith,
      s.few,
      s.room,
    ))

pub returns-in-Some-clause-still_true : goal.returns-in-Some-clause-still_true
returns-in-Some-clause-still_true c = λ board wire_length old new ways fewer.
    let s = c.args.self.now in
    ways-left board wire_length old new s.table.now s.scale s.waiting s.left c.in-Some.i
    c.in-Some.ensures.below (omega (arith, s.few, s.room)) ways
    (λ g marked. let was = fewer g marked in (was.0, λ same. was.1 (same ∙ c.in-Some.ensures.there)))
