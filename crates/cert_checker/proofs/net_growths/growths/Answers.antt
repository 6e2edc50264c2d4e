use Rattle.std.proofs.Common.{rules, ◌<◌, ℕ, List, length, sym, ap, ◌∙◌, refl, subst, arith}
use Rattle.std.specs.Prelude.{All, slice_index}
use Rattle.std.proofs.lemmas.Option.{slice_get_read}
use Rattle.board_graph.specs.Graph.{Graph, board_of, graph_of}
use Rattle.bound_cert.specs.Growth.{IsGrowth}
use Rattle.cert_checker.specs.Growing.{Lengths}
use Rattle.cert_checker.specs.declared.net_growths.SetMark.{SetMark}
use Rattle.cert_checker.proofs.NetGrowthLaws.{AreGrown, AreGrown-none, AreGrown-more, AreGrowths-all, net_growth-on_graph}
use Rattle.cert_checker.proofs.net_growths.growths.Goals as goal

pub loop-i-preserved : goal.loop-i-preserved
loop-i-preserved c =
    let board = c.args.problem.now in
    let wire_length = slice_index c.args.lengths.now in
    let weights = c.args.weights.now in
    let marks = c.in_ok-marks.marks.items in
    let i = c.loop-i.i in
    let inside : i < length marks = omega (arith, c.loop-i-test.true) in
    let mark = c.index.result.now in
    let fpgas = c.net.result.now in
    let last = c.grow_set.new.last in
    let grows : IsGrowth (board_of (graph_of board)) wire_length last.fpgas.items last.growth =
    subst (λ (g : Graph). IsGrowth (board_of g) wire_length last.fpgas.items last.growth)
    c.loop-i.invariant.2
    (subst (λ (ls : List ℕ). IsGrowth (board_of c.loop-i.grower.graph) (slice_index ls) last.fpgas.items
    last.growth) c.loop-i.invariant.3 c.in_ok-grow_set.ensures.grows) in
    let here = net_growth-on_graph board (board_of (graph_of board)) wire_length mark.net fpgas
    last.fpgas.items last.growth refl (sym c.net.ensures.value) c.in_ok-grow_set.ensures.rising grows in
    let weighed = subst (λ (m : SetMark). (m.net < length weights) × (0 < slice_index weights m.net))
    (sym c.index.ensures) (c.in_ok-marks.ensures.weighed i mark inside) in (
      AreGrown-more board wire_length weights marks i c.loop-i.growths.items mark last.growth
          (omega (arith, weighed.0, c.requires.weights)) weighed.1
          (slice_get_read marks (length marks) i mark refl inside c.index.ensures) here c.loop-i.invariant.0,
      grows,
      ap (λ (l : Lengths). l.graph) c.grow_set.ensures.grower ∙ c.loop-i.invariant.2,
      ap (λ (l : Lengths). l.lengths) c.grow_set.ensures.grower ∙ c.loop-i.invariant.3,
    )

pub returns : goal.returns
returns c =
    AreGrowths-all c.args.problem.now (slice_index c.args.lengths.now) c.args.weights.now
    c.in_ok-marks.marks.items c.loop-i.i c.loop-i.growths.items
    (omega (arith, c.loop-i-test.false)) c.in_ok-marks.ensures.whole c.loop-i.invariant.0

pub loop-i-init : goal.loop-i-init
loop-i-init c =
    let board = c.args.problem.now in
    let wire_length = slice_index c.args.lengths.now in
    let weights = c.args.weights.now in
    let marks = c.in_ok-marks.marks.items in
    let none : AreGrown board wire_length weights marks 0 c.in_ok-growths.growths.items =
    subst (AreGrown board wire_length weights marks 0)
    (sym (c.in_ok-growths.ensures.items_if_clones_equal (search rules)))
    (AreGrown-none board wire_length weights marks c.nets.result c.nets.ensures.value) in (
      none,
      search rules,
      c.in_ok-grower.ensures.graph ∙ c.in_ok-graph.ensures.same,
      c.in_ok-grower.ensures.lengths,
    )

pub grow_set-requires-clause-there : goal.grow_set-requires-clause-there
grow_set-requires-clause-there c =
    subst (λ (g : Graph). All (λ f. f < g.fpgas) c.net.result.now) (sym c.loop-i.invariant.2)
    c.net.ensures.row.below

pub grow_set-requires-clause-last : goal.grow_set-requires-clause-last
grow_set-requires-clause-last c =
    let last = c.loop-i.last in
    subst (λ (ls : List ℕ). IsGrowth (board_of c.loop-i.grower.graph) (slice_index ls) last.fpgas.items
    last.growth) (sym c.loop-i.invariant.3)
    (subst (λ (g : Graph). IsGrowth (board_of g) (slice_index c.args.lengths.now) last.fpgas.items
    last.growth) (sym c.loop-i.invariant.2) c.loop-i.invariant.1)

pub index_mut-requires : goal.index_mut-requires
index_mut-requires c =
    let inside : c.loop-i.i < length c.in_ok-marks.marks.items = omega (arith, c.loop-i-test.true) in
    let mark = c.index.result.now in
    let there : mark.net < length c.args.weights.now =
    subst (λ (m : SetMark). m.net < length c.args.weights.now) (sym c.index.ensures)
    (c.in_ok-marks.ensures.weighed c.loop-i.i mark inside).0 in
    omega (arith, there, c.requires.weights, c.loop-i.invariant.0.whole)
