use Rattle.std.proofs.Common.{◌≡◌, ◌+◌, ◌<◌, ◌^◌, true, false, length, refl, sym, ap, ◌∙◌, arith}
use Rattle.board_graph.specs.Graph.{board_of}
use Rattle.shortest_forest.proofs.Passing.{IsUnderWay-needless, IsUnderWay-taken, IsUnderWay-queued, IsPassing-taken, taken_work, queued_work, GoesOn-taken, GoesOn-queued, GoesOn-trans}
use Rattle.shortest_forest.proofs.NearestLaws.{front_waits, label-read, AreFar-made, IsNearest-made}
use Rattle.shortest_forest.proofs.nearest.nearest_goal.Goals as goal

pub returns-then-key-cap-clause-far : goal.returns-then-key-cap-clause-far
returns-then-key-cap-clause-far g c =
    AreFar-made (board_of c.args.graph.now) (g.A.ArcLengths.arc_length c.args.arcs.now)
    (g.B.LowerBounds.lower_bound c.args.bounds.now) c.args.cap c.loop-next.search c.loop-next.invariant.0
    (λ x near waits. omega (arith, c.in-Some.ensures.least x near waits, c.if-key-cap.true))

pub distance-requires : goal.distance-requires
distance-requires g c =
    let under_way = c.loop-next.invariant.0 in
    omega (
      arith,
      under_way.labelled.inside c.in-Some.next.1 c.in-Some.next.0
          (front_waits c.loop-next.search c.in-Some.next.0 c.in-Some.next.1 c.in-Some.ensures.front),
      under_way.labelled.count,
    )

pub bound_of-bound-requires : goal.bound_of-bound-requires
bound_of-bound-requires g c =
    omega (
      arith,
      c.loop-next.invariant.0.labelled.inside c.in-Some.next.1 c.in-Some.next.0
          (front_waits c.loop-next.search c.in-Some.next.0 c.in-Some.next.1 c.in-Some.ensures.front),
      c.requires.bounds,
    )

pub overflow_sub-cap : goal.overflow_sub-cap
overflow_sub-cap g c =
    let board = board_of c.args.graph.now in
    let arcs = g.A.ArcLengths.arc_length c.args.arcs.now in
    let bound = g.B.LowerBounds.lower_bound c.args.bounds.now in
    let s = c.loop-next.search in
    let key = c.in-Some.next.0 in
    let f = c.in-Some.next.1 in
    let was = c.loop-next.invariant.0 in
    let read = label-read board arcs s was.labelled f key (front_waits s key f c.in-Some.ensures.front)
    c.distance.result c.unwrap_or-distance.result c.distance.ensures c.unwrap_or-distance.ensures in
    omega (arith, read.1, c.if-key-cap.false)

pub loop-next-smaller-then-bound-cap : goal.loop-next-smaller-then-bound-cap
loop-next-smaller-then-bound-cap g c =
    let board = board_of c.args.graph.now in
    let arcs = g.A.ArcLengths.arc_length c.args.arcs.now in
    let bound = g.B.LowerBounds.lower_bound c.args.bounds.now in
    let s = c.loop-next.search in
    let key = c.in-Some.next.0 in
    let f = c.in-Some.next.1 in
    let was = c.loop-next.invariant.0 in
    let read = label-read board arcs s was.labelled f key (front_waits s key f c.in-Some.ensures.front)
    c.distance.result c.unwrap_or-distance.result c.distance.ensures c.unwrap_or-distance.ensures in
    taken_work key f s c.take.new.self (c.take.ensures key f c.in-Some.ensures.front)
    (omega (arith, c.if-key-cap.false, c.requires.cap))

pub loop-next-preserved-then-bound-cap : goal.loop-next-preserved-then-bound-cap
loop-next-preserved-then-bound-cap g c =
    let board = board_of c.args.graph.now in
    let arcs = g.A.ArcLengths.arc_length c.args.arcs.now in
    let bound = g.B.LowerBounds.lower_bound c.args.bounds.now in
    let s = c.loop-next.search in
    let key = c.in-Some.next.0 in
    let f = c.in-Some.next.1 in
    let was = c.loop-next.invariant.0 in
    let read = label-read board arcs s was.labelled f key (front_waits s key f c.in-Some.ensures.front)
    c.distance.result c.unwrap_or-distance.result c.distance.ensures c.unwrap_or-distance.ensures in
    let taken = c.take.ensures key f c.in-Some.ensures.front in (
      IsUnderWay-needless key f s c.take.new.self taken board arcs bound c.args.cap
          c.unwrap_or-distance.result was read.0 (omega (
            arith,
            c.if-bound-cap.true,
            c.bound_of-bound.ensures,
            read.1,
            c.if-key-cap.false,
          )),
      GoesOn-trans c.args.search.now s c.take.new.self c.loop-next.invariant.1
          (GoesOn-taken key f s c.take.new.self taken (omega (arith, c.if-key-cap.false, c.requires.cap))),
    )

pub loop-next-smaller-then-distance-bound : goal.loop-next-smaller-then-distance-bound
loop-next-smaller-then-distance-bound g c =
    let board = board_of c.args.graph.now in
    let arcs = g.A.ArcLengths.arc_length c.args.arcs.now in
    let bound = g.B.LowerBounds.lower_bound c.args.bounds.now in
    let s = c.loop-next.search in
    let key = c.in-Some.next.0 in
    let f = c.in-Some.next.1 in
    let was = c.loop-next.invariant.0 in
    let read = label-read board arcs s was.labelled f key (front_waits s key f c.in-Some.ensures.front)
    c.distance.result c.unwrap_or-distance.result c.distance.ensures c.unwrap_or-distance.ensures in
    taken_work key f s c.take-then-distance-bound.new.self
    (c.take-then-distance-bound.ensures key f c.in-Some.ensures.front) (omega (
      arith,
      c.if-key-cap.false,
      c.requires.cap,
    ))

pub loop-next-preserved-then-distance-bound : goal.loop-next-preserved-then-distance-bound
loop-next-preserved-then-distance-bound g c =
    let board = board_of c.args.graph.now in
    let arcs = g.A.ArcLengths.arc_length c.args.arcs.now in
    let bound = g.B.LowerBounds.lower_bound c.args.bounds.now in
    let s = c.loop-next.search in
    let key = c.in-Some.next.0 in
    let f = c.in-Some.next.1 in
    let was = c.loop-next.invariant.0 in
    let read = label-read board arcs s was.labelled f key (front_waits s key f c.in-Some.ensures.front)
    c.distance.result c.unwrap_or-distance.result c.distance.ensures c.unwrap_or-distance.ensures in
    let taken = c.take-then-distance-bound.ensures key f c.in-Some.ensures.front in (
      IsUnderWay-taken key f s c.take-then-distance-bound.new.self taken board arcs bound c.args.cap
          c.unwrap_or-distance.result was read.0 (omega (
            arith,
            c.if-distance-bound.true,
            c.bound_of-bound.ensures,
          )),
      GoesOn-trans c.args.search.now s c.take-then-distance-bound.new.self c.loop-next.invariant.1
          (GoesOn-taken key f s c.take-then-distance-bound.new.self taken (omega (
            arith,
            c.if-key-cap.false,
            c.requires.cap,
          ))),
    )

pub loop-next-smaller-in-Continue-1 : goal.loop-next-smaller-in-Continue-1
loop-next-smaller-in-Continue-1 g c =
    let board = board_of c.args.graph.now in
    let arcs = g.A.ArcLengths.arc_length c.args.arcs.now in
    let bound = g.B.LowerBounds.lower_bound c.args.bounds.now in
    let s = c.loop-next.search in
    let key = c.in-Some.next.0 in
    let f = c.in-Some.next.1 in
    let was = c.loop-next.invariant.0 in
    let read = label-read board arcs s was.labelled f key (front_waits s key f c.in-Some.ensures.front)
    c.distance.result c.unwrap_or-distance.result c.distance.ensures c.unwrap_or-distance.ensures in
    queued_work key f s c.take-then-is_early.new.self
    (c.take-then-is_early.ensures key f c.in-Some.ensures.front) (c.unwrap_or-distance.result
    + c.bound_of-bound.result) c.queue_again.new.self c.in_ok-queue_again.ensures.queued
    (c.if-is_early.ensures refl)
    (omega (arith, c.if-bound-cap.false, read.1, c.if-key-cap.false, c.requires.cap))

pub loop-next-preserved-in-Continue-1 : goal.loop-next-preserved-in-Continue-1
loop-next-preserved-in-Continue-1 g c =
    let board = board_of c.args.graph.now in
    let arcs = g.A.ArcLengths.arc_length c.args.arcs.now in
    let bound = g.B.LowerBounds.lower_bound c.args.bounds.now in
    let s = c.loop-next.search in
    let key = c.in-Some.next.0 in
    let f = c.in-Some.next.1 in
    let was = c.loop-next.invariant.0 in
    let read = label-read board arcs s was.labelled f key (front_waits s key f c.in-Some.ensures.front)
    c.distance.result c.unwrap_or-distance.result c.distance.ensures c.unwrap_or-distance.ensures in
    let due = c.unwrap_or-distance.result + c.bound_of-bound.result in
    let taken = c.take-then-is_early.ensures key f c.in-Some.ensures.front in
    let small : due < 2 ^ 65 = omega (
      arith,
      c.if-bound-cap.false,
      read.1,
      c.if-key-cap.false,
      c.requires.cap,
    ) in (
      IsUnderWay-queued key f s c.take-then-is_early.new.self taken due c.queue_again.new.self
          c.in_ok-queue_again.ensures.queued board arcs bound c.args.cap c.unwrap_or-distance.result was
          read.0 (omega (arith, c.bound_of-bound.ensures)),
      GoesOn-trans c.args.search.now s c.queue_again.new.self c.loop-next.invariant.1
          (GoesOn-queued key f s c.take-then-is_early.new.self taken due c.queue_again.new.self
          c.in_ok-queue_again.ensures.queued (c.if-is_early.ensures refl) small),
    )

pub returns-in_err-queue_again-clause-marks : goal.returns-in_err-queue_again-clause-marks
returns-in_err-queue_again-clause-marks g c =
    let board = board_of c.args.graph.now in
    let arcs = g.A.ArcLengths.arc_length c.args.arcs.now in
    let bound = g.B.LowerBounds.lower_bound c.args.bounds.now in
    let s = c.loop-next.search in
    let key = c.in-Some.next.0 in
    let f = c.in-Some.next.1 in
    let was = c.loop-next.invariant.0 in
    let read = label-read board arcs s was.labelled f key (front_waits s key f c.in-Some.ensures.front)
    c.distance.result c.unwrap_or-distance.result c.distance.ensures c.unwrap_or-distance.ensures in
    let taken = c.take-then-is_early.ensures key f c.in-Some.ensures.front in
    record {
      goals = c.queue_again.ensures.marks.goals ∙ taken.goals ∙ c.loop-next.invariant.1.marks.goals;
      count = c.queue_again.ensures.marks.count ∙ ap length taken.labels
          ∙ c.loop-next.invariant.1.marks.count;
    }

pub is_goal-requires : goal.is_goal-requires
is_goal-requires g c =
    let board = board_of c.args.graph.now in
    let arcs = g.A.ArcLengths.arc_length c.args.arcs.now in
    let bound = g.B.LowerBounds.lower_bound c.args.bounds.now in
    let s = c.loop-next.search in
    let key = c.in-Some.next.0 in
    let f = c.in-Some.next.1 in
    let was = c.loop-next.invariant.0 in
    let read = label-read board arcs s was.labelled f key (front_waits s key f c.in-Some.ensures.front)
    c.distance.result c.unwrap_or-distance.result c.distance.ensures c.unwrap_or-distance.ensures in
    omega (arith, was.labelled.inside f key (front_waits s key f c.in-Some.ensures.front), was.labelled.marks)

pub returns-then-is_goal-clause-found : goal.returns-then-is_goal-clause-found
returns-then-is_goal-clause-found g c =
    let board = board_of c.args.graph.now in
    let arcs = g.A.ArcLengths.arc_length c.args.arcs.now in
    let bound = g.B.LowerBounds.lower_bound c.args.bounds.now in
    let s = c.loop-next.search in
    let key = c.in-Some.next.0 in
    let f = c.in-Some.next.1 in
    let was = c.loop-next.invariant.0 in
    let read = label-read board arcs s was.labelled f key (front_waits s key f c.in-Some.ensures.front)
    c.distance.result c.unwrap_or-distance.result c.distance.ensures c.unwrap_or-distance.ensures in
    IsNearest-made board arcs bound c.args.cap s was key c.unwrap_or-distance.result f c.in-Some.ensures.front
    c.in-Some.ensures.least read.0 (sym c.if-is_goal.ensures) read.1 (omega (arith, c.if-key-cap.false))

pub pass-requires-clause-there : goal.pass-requires-clause-there
pass-requires-clause-there g c =
    let board = board_of c.args.graph.now in
    let arcs = g.A.ArcLengths.arc_length c.args.arcs.now in
    let bound = g.B.LowerBounds.lower_bound c.args.bounds.now in
    let s = c.loop-next.search in
    let key = c.in-Some.next.0 in
    let f = c.in-Some.next.1 in
    let was = c.loop-next.invariant.0 in
    let read = label-read board arcs s was.labelled f key (front_waits s key f c.in-Some.ensures.front)
    c.distance.result c.unwrap_or-distance.result c.distance.ensures c.unwrap_or-distance.ensures in
    was.labelled.inside f key (front_waits s key f c.in-Some.ensures.front)

pub pass-requires-clause-small : goal.pass-requires-clause-small
pass-requires-clause-small g c =
    let board = board_of c.args.graph.now in
    let arcs = g.A.ArcLengths.arc_length c.args.arcs.now in
    let bound = g.B.LowerBounds.lower_bound c.args.bounds.now in
    let s = c.loop-next.search in
    let key = c.in-Some.next.0 in
    let f = c.in-Some.next.1 in
    let was = c.loop-next.invariant.0 in
    let read = label-read board arcs s was.labelled f key (front_waits s key f c.in-Some.ensures.front)
    c.distance.result c.unwrap_or-distance.result c.distance.ensures c.unwrap_or-distance.ensures in
    omega (arith, read.1, c.if-key-cap.false, c.requires.cap)

pub pass-requires-clause-passing : goal.pass-requires-clause-passing
pass-requires-clause-passing g c =
    let board = board_of c.args.graph.now in
    let arcs = g.A.ArcLengths.arc_length c.args.arcs.now in
    let bound = g.B.LowerBounds.lower_bound c.args.bounds.now in
    let s = c.loop-next.search in
    let key = c.in-Some.next.0 in
    let f = c.in-Some.next.1 in
    let was = c.loop-next.invariant.0 in
    let read = label-read board arcs s was.labelled f key (front_waits s key f c.in-Some.ensures.front)
    c.distance.result c.unwrap_or-distance.result c.distance.ensures c.unwrap_or-distance.ensures in
    let taken = c.take-else-is_goal.ensures key f c.in-Some.ensures.front in
    IsPassing-taken key f s c.take-else-is_goal.new.self taken board arcs bound c.args.cap
    c.unwrap_or-distance.result was read.0 (λ goal. (let both : false ≡ true = c.if-is_goal.ensures
    ∙ goal in absurd (cc both)))

pub loop-next-smaller : goal.loop-next-smaller
loop-next-smaller g c =
    let board = board_of c.args.graph.now in
    let arcs = g.A.ArcLengths.arc_length c.args.arcs.now in
    let bound = g.B.LowerBounds.lower_bound c.args.bounds.now in
    let s = c.loop-next.search in
    let key = c.in-Some.next.0 in
    let f = c.in-Some.next.1 in
    let was = c.loop-next.invariant.0 in
    let read = label-read board arcs s was.labelled f key (front_waits s key f c.in-Some.ensures.front)
    c.distance.result c.unwrap_or-distance.result c.distance.ensures c.unwrap_or-distance.ensures in
    let taken = c.take-else-is_goal.ensures key f c.in-Some.ensures.front in
    omega (
      arith,
      taken_work key f s c.take-else-is_goal.new.self taken (omega (
        arith,
        c.if-key-cap.false,
        c.requires.cap,
      )),
      c.in_ok-pass.ensures.on.work,
    )

pub loop-next-preserved : goal.loop-next-preserved
loop-next-preserved g c =
    let board = board_of c.args.graph.now in
    let arcs = g.A.ArcLengths.arc_length c.args.arcs.now in
    let bound = g.B.LowerBounds.lower_bound c.args.bounds.now in
    let s = c.loop-next.search in
    let key = c.in-Some.next.0 in
    let f = c.in-Some.next.1 in
    let was = c.loop-next.invariant.0 in
    let read = label-read board arcs s was.labelled f key (front_waits s key f c.in-Some.ensures.front)
    c.distance.result c.unwrap_or-distance.result c.distance.ensures c.unwrap_or-distance.ensures in
    let taken = c.take-else-is_goal.ensures key f c.in-Some.ensures.front in
    let first = GoesOn-trans c.args.search.now s c.take-else-is_goal.new.self c.loop-next.invariant.1
    (GoesOn-taken key f s c.take-else-is_goal.new.self taken (omega (
      arith,
      c.if-key-cap.false,
      c.requires.cap,
    ))) in (
      c.in_ok-pass.ensures.under_way,
      GoesOn-trans c.args.search.now c.take-else-is_goal.new.self c.pass.new.search first
          c.in_ok-pass.ensures.on,
    )

pub returns-in_err-pass-clause-marks : goal.returns-in_err-pass-clause-marks
returns-in_err-pass-clause-marks g c =
    let board = board_of c.args.graph.now in
    let arcs = g.A.ArcLengths.arc_length c.args.arcs.now in
    let bound = g.B.LowerBounds.lower_bound c.args.bounds.now in
    let s = c.loop-next.search in
    let key = c.in-Some.next.0 in
    let f = c.in-Some.next.1 in
    let was = c.loop-next.invariant.0 in
    let read = label-read board arcs s was.labelled f key (front_waits s key f c.in-Some.ensures.front)
    c.distance.result c.unwrap_or-distance.result c.distance.ensures c.unwrap_or-distance.ensures in
    let taken = c.take-else-is_goal.ensures key f c.in-Some.ensures.front in
    record {
      goals = c.pass.ensures.marks.goals ∙ taken.goals ∙ c.loop-next.invariant.1.marks.goals;
      count = c.pass.ensures.marks.count ∙ ap length taken.labels ∙ c.loop-next.invariant.1.marks.count;
    }

pub returns-clause-far : goal.returns-clause-far
returns-clause-far g c =
    let none : length c.loop-next.search.queue ≡ 0 = ap length c.in_default.ensures.none in
    AreFar-made (board_of c.args.graph.now) (g.A.ArcLengths.arc_length c.args.arcs.now)
    (g.B.LowerBounds.lower_bound c.args.bounds.now) c.args.cap c.loop-next.search c.loop-next.invariant.0
    (λ f d waits. absurd (omega (arith, none, waits.1)))
