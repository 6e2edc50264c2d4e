use Rattle.std.proofs.Common.{◌≡◌, ℕ, ◌+◌, ◌<◌, ◌≤◌, ◌⊎◌, List, length, get_or, sym, ap, ◌∙◌, subst, inl, inr, arith}
use Rattle.std.proofs.lemmas.Bool.{cases_lt, false≢true}
use Rattle.std.proofs.lemmas.List.{get_or_default}
use Rattle.board_graph.specs.declared.neighbour.Neighbour.{Neighbour}
use Rattle.board_graph.specs.Graph.{board_of}
use Rattle.board_graph.specs.Neighbours.{neighbours_of}
use Rattle.shortest_forest.specs.BreadthFirst.{IsAt, IsFirstNearer}
use Rattle.shortest_forest.proofs.PassLaws.{neighbour-below, none_nearer, first_nearer}
use Rattle.shortest_forest.proofs.breadth_first.nearer_wire.Goals as goal

pub bounds-distances-neighbour : goal.bounds-distances-neighbour
bounds-distances-neighbour c =
    let exact = c.neighbours-neighbour-items.ensures.exact in
    let z : Neighbour = record { wire = 0; fpga = 0 } in
    let P : List Neighbour → Type 0 = λ ns. (get_or ns c.loop-neighbour.neighbour-index z).fpga
    < length c.args.distances.now in
    subst P (sym exact) (omega (
      arith,
      c.requires.count,
      neighbour-below c.args.graph.now c.neighbours-neighbour-items.ensures.graph c.args.f
          c.loop-neighbour.neighbour-index z (omega (arith, ap length exact)),
    ))

pub returns-then-is_one_less : goal.returns-then-is_one_less
returns-then-is_one_less c =
    let exact = c.neighbours-neighbour-items.ensures.exact in
    let z : Neighbour = record { wire = 0; fpga = 0 } in
    let found = c.is_one_less.ensures.0 c.if-is_one_less.true in
    let P : List Neighbour → Type 0 =
    λ ns. IsFirstNearer (board_of c.args.graph.now) c.args.distances.now c.args.f
    (get_or ns c.loop-neighbour.neighbour-index z).wire in
    let Q : List Neighbour → Type 0 =
    λ ns. IsAt c.args.distances.now (get_or ns c.loop-neighbour.neighbour-index z).fpga found.0 in
    subst P (sym exact) (first_nearer c.args.graph.now c.args.distances.now c.args.f c.in_ok-distance.distance
    c.loop-neighbour.neighbour-index found.0 z c.in_ok-distance.was c.loop-neighbour.invariant
    (omega (arith, ap length exact)) (subst Q exact found.1) found.2)

pub loop-neighbour-preserved : goal.loop-neighbour-preserved
loop-neighbour-preserved c =
    λ k d z below at one. go k d z below at one (cases_lt k c.loop-neighbour.neighbour-index)
  where
    go : (k d : ℕ) (z : Neighbour) → k < c.loop-neighbour.neighbour-index + 1
        → IsAt c.args.distances.now (get_or (neighbours_of c.args.graph.now c.args.f) k z).fpga d
        → d + 1 ≡ c.in_ok-distance.distance → (k < c.loop-neighbour.neighbour-index)
        ⊎ (c.loop-neighbour.neighbour-index ≤ k) → ⊥
    go k d z below at one (inl before) = c.loop-neighbour.invariant k d z before at one
    go k d z below at one (inr not_before) =
        let exact = c.neighbours-neighbour-items.ensures.exact in
        let same : k ≡ c.loop-neighbour.neighbour-index = omega arith in
        let y : Neighbour = record { wire = 0; fpga = 0 } in
        let Q : List Neighbour → Type 0 =
        λ ns. IsAt c.args.distances.now (get_or ns c.loop-neighbour.neighbour-index y).fpga d in
        let R : Neighbour → Type 0 = λ n. IsAt c.args.distances.now n.fpga d in
        let P : ℕ → Type 0 =
        λ n. IsAt c.args.distances.now (get_or (neighbours_of c.args.graph.now c.args.f) n z).fpga d in
        let here = subst R (get_or_default (neighbours_of c.args.graph.now c.args.f)
        c.loop-neighbour.neighbour-index z y (omega (arith, ap length exact))) (subst P same at) in
        absurd (false≢true (sym c.if-is_one_less.false ∙ c.is_one_less.ensures.1 (
          d,
          subst Q (sym exact) here,
          one,
        )))

pub returns : goal.returns
returns c =
    let exact = c.neighbours-neighbour-items.ensures.exact in
    none_nearer c.args.graph.now c.args.distances.now c.args.f c.in_ok-distance.distance c.in_ok-distance.was
    (λ k d z below at one. c.loop-neighbour.invariant k d z (omega (arith, ap length exact)) at one)
