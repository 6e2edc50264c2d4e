use Rattle.std.proofs.Common.{◌≡◌, ℕ, Bool, false, List, length, arith, sym, ap, ◌∙◌, subst}
use Rattle.std.specs.Prelude.{slice_set}
use Rattle.board_graph.specs.Graph.{board_of}
use Rattle.shortest_forest.specs.Arcs.{both_ways, IsGoal}
use Rattle.shortest_forest.proofs.UnderWay.{IsUnderWay-falls}
use Rattle.shortest_forest.proofs.WayLaws.{way_back-walk}
use Rattle.steiner_build.specs.Joining.{IsTakenIn, IsJoinedBy}
use Rattle.steiner_build.proofs.JoiningLaws.{left-goal}
use Rattle.steiner_build.proofs.StepLaws.{far-goals, IsJoinedBy-made, appended-part, distance-read}
use Rattle.tdm_problem.specs.Walk.{IsWalk, AnyWire}
use Rattle.steiner_build.proofs.joining.join_nearest.Goals as goal

pub returns-in_default-clause-far : goal.returns-in_default-clause-far
returns-in_default-clause-far g c =
    far-goals (board_of c.args.graph.now) (g.Q.Lengths.length c.args.lengths.now)
    (g.B.LowerBounds.lower_bound c.args.bounds.now) c.args.cap c.args.search.now c.nearest_goal.new.search
    c.nearest_goal.ensures.marks c.in_ok-goal.ensures.sources (g.met.B.TreeBounds.below c.args.bounds.now
    (board_of c.args.graph.now) (g.Q.Lengths.length c.args.lengths.now) c.args.search.now.goals
    c.requires.lawful)
    (rw c.in_default.is at c.in_ok-goal.ensures.far)

pub way_back-requires-clause-back : goal.way_back-requires-clause-back
way_back-requires-clause-back g c =
    let near = rw c.in-Some.is at c.in_ok-goal.ensures.found in
    c.in_ok-goal.ensures.under_way.labelled.back c.in-Some.goal near.distance near.label

pub take_in-requires-clause-path : goal.take_in-requires-clause-path
take_in-requires-clause-path g c =
    let board = board_of c.args.graph.now in
    let near = rw c.in-Some.is at c.in_ok-goal.ensures.found in
    let way = c.in_ok-way_back.ensures.way in
    let count : c.len-joined.result ≡ length c.args.wires.now.items = omega arith in
    let walk = way_back-walk board (g.Q.Lengths.length c.args.lengths.now) c.nearest_goal.new.search
    c.in_ok-goal.ensures.under_way.labelled c.in-Some.goal near.distance way.0 way.1.0 near.label
    way.1.1 in
    let P : List ℕ → Type 0 = λ path. (x : ℕ) × IsWalk board (AnyWire board) c.in-Some.goal path x in
    subst P (sym (appended-part c.args.wires.now.items way.0 c.deref.result.now c.len-joined.result count
    (c.deref.ensures.value ∙ way.1.2))) (way.1.0, walk.0)

pub returns-clause-under_way : goal.returns-clause-under_way
returns-clause-under_way g c =
    let board = board_of c.args.graph.now in
    let arcs = both_ways (g.Q.Lengths.length c.args.lengths.now) in
    let old = g.B.LowerBounds.lower_bound c.args.bounds.now in
    let new = g.B.LowerBounds.lower_bound c.join.new.self in
    c.in_ok-take_in.ensures.under_way board arcs new c.args.cap
    (IsUnderWay-falls board arcs old new c.args.cap c.args.cap c.remove_goal.new.self c.join.ensures.rising
    (omega arith)
    (c.remove_goal.ensures.under_way board arcs old c.args.cap c.in_ok-goal.ensures.under_way))

pub returns-clause-lawful : goal.returns-clause-lawful
returns-clause-lawful g c =
    let gone : List Bool → List Bool = λ goals. slice_set goals c.in-Some.goal false in
    let same = c.take_in.ensures.goals ∙ c.remove_goal.ensures.goals
    ∙ ap gone c.nearest_goal.ensures.marks.goals in
    c.join.ensures.still_true (board_of c.args.graph.now) (g.Q.Lengths.length c.args.lengths.now)
    c.args.search.now.goals c.take_in.new.search.goals c.requires.lawful
    (λ f left. left-goal c.args.search.now.goals c.in-Some.goal f
    (subst (λ (goals : List Bool). IsGoal goals f) same left))

pub returns-clause-joined : goal.returns-clause-joined
returns-clause-joined g c =
    let board = board_of c.args.graph.now in
    let l = g.Q.Lengths.length c.args.lengths.now in
    let near = rw c.in-Some.is at c.in_ok-goal.ensures.found in
    let way = c.in_ok-way_back.ensures.way in
    let count : c.len-joined.result ≡ length c.args.wires.now.items = omega arith in
    let read = distance-read c.nearest_goal.new.search c.in-Some.goal near.distance near.label
    c.distance.result c.unwrap_or-distance.result c.distance.ensures c.unwrap_or-distance.ensures in
    let P : List ℕ → Type 0 =
    λ path. IsTakenIn board c.in-Some.goal path c.remove_goal.new.self c.take_in.new.search in
    let taken = subst P (appended-part c.args.wires.now.items way.0 c.deref.result.now c.len-joined.result
    count (c.deref.ensures.value ∙ way.1.2)) c.in_ok-take_in.ensures.sources in
    let made = IsJoinedBy-made board l (g.B.LowerBounds.lower_bound c.args.bounds.now) c.args.cap
    c.args.search.now c.nearest_goal.new.search c.nearest_goal.ensures.marks c.in_ok-goal.ensures.sources
    (g.met.B.TreeBounds.below c.args.bounds.now (board_of c.args.graph.now)
    (g.Q.Lengths.length c.args.lengths.now) c.args.search.now.goals c.requires.lawful)
    c.in-Some.goal near c.in_ok-goal.ensures.under_way way.0 way.1.0 way.1.1 c.remove_goal.new.self
    c.take_in.new.search c.remove_goal.ensures.labels c.remove_goal.ensures.goals c.take_in.ensures.goals
    taken c.args.wires.now.items c.way_back.new.wires.items way.1.2 in
    let Q : ℕ → Type 0 = λ d. IsJoinedBy board l c.args.search.now c.take_in.new.search c.args.wires.now.items
    c.way_back.new.wires.items d in
    subst Q (sym read) made
