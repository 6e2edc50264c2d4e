use Rattle.std.proofs.Common.{◌≡◌, ℕ, ◌+◌, List, length, take, sym, ap, ◌∙◌, subst, arith}
use Rattle.std.proofs.lemmas.List.{length_push, take_at}
use Rattle.tdm_problem.proofs.Walks.{AnyWire-from_links}
use Rattle.board_graph.specs.Graph.{board_of}
use Rattle.shortest_forest.proofs.ClimbLaws.{read_other}
use Rattle.shortest_forest.proofs.WayLaws.{IsFollowing, IsFollowing-start, following_wire, following_end, following_short}
use Rattle.shortest_forest.proofs.way.way_back.Goals as goal

pub loop-e-init : goal.loop-e-init
loop-e-init c = (
  IsFollowing-start (board_of c.args.graph.now) c.args.search.now c.args.f c.args.wires.now.items
      c.requires.back.0 c.requires.back.1.0 c.requires.back.1.1,
  c.requires.there,
)

pub wire-wire-requires : goal.wire-wire-requires
wire-wire-requires c =
    let board = board_of c.args.graph.now in
    let on = following_wire board c.args.search.now c.args.f c.loop-e.at c.args.wires.now.items
    c.loop-e.wires.items c.loop-e.invariant.0 c.in-Some.e (sym c.wire.ensures ∙ c.in-Some.is) in
    AnyWire-from_links board c.in-Some.e c.loop-e.at on.0 on.1

pub loop-e-smaller : goal.loop-e-smaller
loop-e-smaller c =
    let short = following_short (board_of c.args.graph.now) c.args.search.now c.args.f c.loop-e.at
    c.args.wires.now.items c.loop-e.wires.items c.loop-e.invariant.0 in
    let more : length c.push.new.self.items ≡ length c.loop-e.wires.items + 1 =
    ap length c.in_default-push.ensures.items ∙ length_push c.loop-e.wires.items c.in-Some.e in
    omega (arith, short, more, c.requires.count)

pub loop-e-preserved : goal.loop-e-preserved
loop-e-preserved c =
    let board = board_of c.args.graph.now in
    let on = following_wire board c.args.search.now c.args.f c.loop-e.at c.args.wires.now.items
    c.loop-e.wires.items c.loop-e.invariant.0 c.in-Some.e (sym c.wire.ensures ∙ c.in-Some.is) in
    let end' = read_other board c.in-Some.e c.loop-e.at on.0 c.other_end-at.result c.wire-wire.result on.1
    c.wire-wire.ensures.there c.wire-wire.ensures.joins c.other_end-at.ensures.first
    c.other_end-at.ensures.second in
    let P : ℕ → Type 0 = λ u. IsFollowing board c.args.search.now c.args.f u c.args.wires.now.items
    c.push.new.self.items in
    let Q : List ℕ → Type 0 = λ xs. IsFollowing board c.args.search.now c.args.f on.0 c.args.wires.now.items
    xs in
    (subst P (sym end'.0) (subst Q (sym c.in_default-push.ensures.items) on.2), end'.1)

pub returns-in-Err-clause-err : goal.returns-in-Err-clause-err
returns-in-Err-clause-err c =
    let following = c.loop-e.invariant.0 in
    let count : length c.args.wires.now.items ≡ c.len-before.result = omega arith in
    c.truncate.ensures.items ∙ ap (take c.len-before.result) (c.in-Err.ensures.items ∙ following.wires_are)
    ∙ take_at c.args.wires.now.items following.taken c.len-before.result count

pub returns-clause-way : goal.returns-clause-way
returns-clause-way c =
    following_end (board_of c.args.graph.now) c.args.search.now c.args.f c.loop-e.at c.args.wires.now.items
    c.loop-e.wires.items c.loop-e.invariant.0 (sym c.wire.ensures ∙ c.in_default.is)
