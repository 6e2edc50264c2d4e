use Rattle.std.proofs.Common.{◌≡◌, true, false, length, sym, ap, ◌∙◌, arith}
use Rattle.board_graph.specs.Graph.{board_of}
use Rattle.shortest_forest.proofs.Passing.{IsUnderWay-taken, IsPassing-taken, taken_work, GoesOn-taken, GoesOn-trans}
use Rattle.shortest_forest.proofs.NearestLaws.{front_waits, label-read, AreFar-made, IsNearest-made}
use Rattle.shortest_forest.proofs.LastGoal.{limited-taken, ends-far}
use Rattle.shortest_forest.proofs.last.last_goal.Goals as goal

pub returns-then-key-limit-clause-far : goal.returns-then-key-limit-clause-far
returns-then-key-limit-clause-far g c =
    let board = board_of c.args.graph.now in
    let arcs = g.A.ArcLengths.arc_length c.args.arcs.now in
    let was = c.loop-next.invariant in
    ends-far board arcs c.args.cap c.loop-next.limit c.loop-next.search was.0
    (AreFar-made board arcs (λ _. 0) c.loop-next.limit c.loop-next.search was.0
    (λ x near waits. omega (arith, c.in-Some.ensures.least x near waits, c.if-key-limit.true))) was.3

pub distance-requires : goal.distance-requires
distance-requires g c =
    let labelled = c.loop-next.invariant.0.labelled in
    omega (
      arith,
      labelled.inside c.in-Some.next.1 c.in-Some.next.0
          (front_waits c.loop-next.search c.in-Some.next.0 c.in-Some.next.1 c.in-Some.ensures.front),
      labelled.count,
    )

pub loop-next-smaller-then-distance-key : goal.loop-next-smaller-then-distance-key
loop-next-smaller-then-distance-key g c =
    taken_work c.in-Some.next.0 c.in-Some.next.1 c.loop-next.search c.take.new.self
    (c.take.ensures c.in-Some.next.0 c.in-Some.next.1 c.in-Some.ensures.front)
    (omega (arith, c.if-key-limit.false, c.loop-next.invariant.2, c.requires.cap))

pub loop-next-preserved-then-distance-key : goal.loop-next-preserved-then-distance-key
loop-next-preserved-then-distance-key g c =
    let board = board_of c.args.graph.now in
    let arcs = g.A.ArcLengths.arc_length c.args.arcs.now in
    let s = c.loop-next.search in
    let key = c.in-Some.next.0 in
    let f = c.in-Some.next.1 in
    let was = c.loop-next.invariant in
    let read = label-read board arcs s was.0.labelled f key (front_waits s key f c.in-Some.ensures.front)
    c.distance.result c.unwrap_or-distance.result c.distance.ensures c.unwrap_or-distance.ensures in
    let taken = c.take.ensures key f c.in-Some.ensures.front in (
      IsUnderWay-taken key f s c.take.new.self taken board arcs (λ _. 0) c.loop-next.limit
          c.unwrap_or-distance.result was.0 read.0 (omega (arith, c.if-distance-key.true)),
      GoesOn-trans c.args.search.now s c.take.new.self was.1 (GoesOn-taken key f s c.take.new.self taken
          (omega (arith, c.if-key-limit.false, was.2, c.requires.cap))),
      was.2,
      limited-taken key f c.args.cap c.loop-next.limit s c.take.new.self taken was.3,
    )

pub is_goal-requires : goal.is_goal-requires
is_goal-requires g c =
    let labelled = c.loop-next.invariant.0.labelled in
    omega (
      arith,
      labelled.inside c.in-Some.next.1 c.in-Some.next.0
          (front_waits c.loop-next.search c.in-Some.next.0 c.in-Some.next.1 c.in-Some.ensures.front),
      labelled.marks,
    )

pub returns-then-is_goal-clause-found : goal.returns-then-is_goal-clause-found
returns-then-is_goal-clause-found g c =
    let board = board_of c.args.graph.now in
    let arcs = g.A.ArcLengths.arc_length c.args.arcs.now in
    let s = c.loop-next.search in
    let key = c.in-Some.next.0 in
    let f = c.in-Some.next.1 in
    let was = c.loop-next.invariant in
    let read = label-read board arcs s was.0.labelled f key (front_waits s key f c.in-Some.ensures.front)
    c.distance.result c.unwrap_or-distance.result c.distance.ensures c.unwrap_or-distance.ensures in
    record {
      limit = c.loop-next.limit;
      within = was.2;
      under_way = was.0;
      nearest = IsNearest-made board arcs (λ _. 0) c.loop-next.limit s was.0 key
          c.unwrap_or-distance.result f c.in-Some.ensures.front c.in-Some.ensures.least read.0
          (sym c.if-is_goal.ensures) read.1 (omega (arith, c.if-key-limit.false));
    }

pub pass_below-requires-clause-small : goal.pass_below-requires-clause-small
pass_below-requires-clause-small g c =
    let board = board_of c.args.graph.now in
    let arcs = g.A.ArcLengths.arc_length c.args.arcs.now in
    let s = c.loop-next.search in
    let key = c.in-Some.next.0 in
    let f = c.in-Some.next.1 in
    let was = c.loop-next.invariant in
    let read = label-read board arcs s was.0.labelled f key (front_waits s key f c.in-Some.ensures.front)
    c.distance.result c.unwrap_or-distance.result c.distance.ensures c.unwrap_or-distance.ensures in
    omega (arith, read.1, c.if-key-limit.false, was.2, c.requires.cap)

pub pass_below-requires-clause-there : goal.pass_below-requires-clause-there
pass_below-requires-clause-there g c =
    c.loop-next.invariant.0.labelled.inside c.in-Some.next.1 c.in-Some.next.0
    (front_waits c.loop-next.search c.in-Some.next.0 c.in-Some.next.1 c.in-Some.ensures.front)

pub pass_below-requires-clause-passing : goal.pass_below-requires-clause-passing
pass_below-requires-clause-passing g c =
    let board = board_of c.args.graph.now in
    let arcs = g.A.ArcLengths.arc_length c.args.arcs.now in
    let s = c.loop-next.search in
    let key = c.in-Some.next.0 in
    let f = c.in-Some.next.1 in
    let was = c.loop-next.invariant in
    let read = label-read board arcs s was.0.labelled f key (front_waits s key f c.in-Some.ensures.front)
    c.distance.result c.unwrap_or-distance.result c.distance.ensures c.unwrap_or-distance.ensures in
    IsPassing-taken key f s c.take-else-is_goal.new.self
    (c.take-else-is_goal.ensures key f c.in-Some.ensures.front) board arcs (λ _. 0) c.loop-next.limit
    c.unwrap_or-distance.result was.0 read.0 (λ goal. (let both : false ≡ true = c.if-is_goal.ensures
    ∙ goal in absurd (cc both)))

pub returns-in_err-limit-clause-marks : goal.returns-in_err-limit-clause-marks
returns-in_err-limit-clause-marks g c =
    let taken = c.take-else-is_goal.ensures c.in-Some.next.0 c.in-Some.next.1 c.in-Some.ensures.front in
    record {
      goals = c.pass_below.ensures.marks.goals ∙ taken.goals ∙ c.loop-next.invariant.1.marks.goals;
      count = c.pass_below.ensures.marks.count ∙ ap length taken.labels
          ∙ c.loop-next.invariant.1.marks.count;
    }

pub loop-next-smaller : goal.loop-next-smaller
loop-next-smaller g c =
    let key = c.in-Some.next.0 in
    let f = c.in-Some.next.1 in
    omega (
      arith,
      taken_work key f c.loop-next.search c.take-else-is_goal.new.self
          (c.take-else-is_goal.ensures key f c.in-Some.ensures.front)
          (omega (arith, c.if-key-limit.false, c.loop-next.invariant.2, c.requires.cap)),
      c.in_ok-limit.ensures.on.work,
    )

pub loop-next-preserved : goal.loop-next-preserved
loop-next-preserved g c =
    let s = c.loop-next.search in
    let key = c.in-Some.next.0 in
    let f = c.in-Some.next.1 in
    let was = c.loop-next.invariant in
    let taken = c.take-else-is_goal.ensures key f c.in-Some.ensures.front in
    let first = GoesOn-trans c.args.search.now s c.take-else-is_goal.new.self was.1
    (GoesOn-taken key f s c.take-else-is_goal.new.self taken
    (omega (arith, c.if-key-limit.false, was.2, c.requires.cap))) in (
      c.in_ok-limit.ensures.under_way,
      GoesOn-trans c.args.search.now c.take-else-is_goal.new.self c.pass_below.new.search first
          c.in_ok-limit.ensures.on,
      omega (arith, was.2, c.in_ok-limit.ensures.falls),
      c.in_ok-limit.ensures.limited c.args.cap
          (limited-taken key f c.args.cap c.loop-next.limit s c.take-else-is_goal.new.self taken was.3),
    )

pub returns-clause-far : goal.returns-clause-far
returns-clause-far g c =
    let board = board_of c.args.graph.now in
    let arcs = g.A.ArcLengths.arc_length c.args.arcs.now in
    let was = c.loop-next.invariant in
    let none : length c.loop-next.search.queue ≡ 0 = ap length c.in_default.ensures.none in
    ends-far board arcs c.args.cap c.loop-next.limit c.loop-next.search was.0
    (AreFar-made board arcs (λ _. 0) c.loop-next.limit c.loop-next.search was.0
    (λ f d waits. absurd (omega (arith, none, waits.1)))) was.3
