use Rattle.std.proofs.Common.{◌≡◌, ℕ, Bool, List, [], ◌∷◌, ◌++◌, false, get_or, sym, ◌∙◌, subst, arith, refl}
use Rattle.tdm_problem.proofs.Walks.{AnyWire-from_links}
use Rattle.board_graph.specs.Graph.{board_of}
use Rattle.shortest_forest.proofs.ClimbLaws.{IsClimbing, IsClimbing-start, IsClimbing-root, IsClimbing-up, IsCollected-climbed, IsParent-from_reach, read_other, distance_from}
use Rattle.shortest_forest.proofs.baseline.climb.Goals as goal

pub loop-marks-init : goal.loop-marks-init
loop-marks-init c =
    let at = distance_from c.args.forest.now c.args.from c.requires.reached in
    IsClimbing-start (board_of c.args.graph.now) c.args.forest.now c.args.from at.0 c.args.marks.now
    c.args.wires.now.items c.requires.collected c.requires.there at.1

pub wire-requires : goal.wire-requires
wire-requires c =
    let board = board_of c.args.graph.now in
    let hops = c.requires.hops.on_board board refl in
    let parent = IsParent-from_reach board c.args.forest.now hops c.loop-marks.f c.in-Some.e
    c.loop-marks.invariant.below (sym c.parent_wire.ensures ∙ c.in-Some.is) in
    AnyWire-from_links board c.in-Some.e c.loop-marks.f parent.0 parent.1.links

pub loop-marks-preserved-in-Some : goal.loop-marks-preserved-in-Some
loop-marks-preserved-in-Some c =
    let board = board_of c.args.graph.now in
    let hops = c.requires.hops.on_board board refl in
    let is = sym c.parent_wire.ensures ∙ c.in-Some.is in
    let parent = IsParent-from_reach board c.args.forest.now hops c.loop-marks.f c.in-Some.e
    c.loop-marks.invariant.below is in
    let end' = read_other board c.in-Some.e c.loop-marks.f parent.0 c.other_end-f.result c.wire.result
    parent.1.links c.wire.ensures.there c.wire.ensures.joins c.other_end-f.ensures.first
    c.other_end-f.ensures.second in
    let open' : get_or c.loop-marks.marks c.loop-marks.f false ≡ false = sym c.is_marked.ensures
    ∙ c.loop-marks-test.true in
    let P : ℕ → Type 0 = λ u. IsClimbing board c.args.forest.now c.args.from u c.args.marks.now
    c.mark.new.self
    c.push.new.self.items in
    let Q : List ℕ → Type 0 = λ es. IsClimbing board c.args.forest.now c.args.from parent.0 c.args.marks.now
    c.mark.new.self es in
    let R : List Bool → Type 0 = λ marks. IsClimbing board c.args.forest.now c.args.from parent.0
    c.args.marks.now marks (c.loop-marks.wires.items ++ c.in-Some.e ∷ []) in
    subst P (sym end'.0) (subst Q (sym c.in_ok-push.ensures.items) (subst R (sym c.mark.ensures)
    (IsClimbing-up board c.args.forest.now c.args.from c.loop-marks.f c.args.marks.now c.loop-marks.marks
    c.loop-marks.wires.items c.loop-marks.invariant hops c.in-Some.e parent.0 (omega (
      arith,
      end'.0,
      end'.1,
    )) open' is parent.1)))

pub loop-marks-preserved : goal.loop-marks-preserved
loop-marks-preserved c =
    let P : List Bool → Type 0 = λ marks. IsClimbing (board_of c.args.graph.now) c.args.forest.now c.args.from
    c.loop-marks.f c.args.marks.now marks c.loop-marks.wires.items in
    subst P (sym c.mark.ensures) (IsClimbing-root (board_of c.args.graph.now) c.args.forest.now c.args.from
    c.loop-marks.f c.args.marks.now c.loop-marks.marks c.loop-marks.wires.items c.loop-marks.invariant
    (sym c.parent_wire.ensures ∙ c.in_default.is))

pub returns-clause-collected : goal.returns-clause-collected
returns-clause-collected c =
    IsCollected-climbed (board_of c.args.graph.now) c.args.forest.now c.args.from c.loop-marks.f
    c.args.marks.now c.loop-marks.marks c.loop-marks.wires.items c.loop-marks.invariant
    (sym c.is_marked.ensures ∙ c.loop-marks-test.false)
