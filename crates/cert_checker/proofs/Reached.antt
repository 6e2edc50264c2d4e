-- What a search over what is left of the wires says of reach and heights.
use Rattle.std.proofs.Common.{◌≡◌, ℕ, ◌+◌, ◌-◌, ◌*◌, ◌^◌, ◌<◌, ◌≤◌, ◌⊎◌, List, [], ◌∷◌, Option, None, Some, length, refl, ap, subst, inl, inr, ⊎_elim, arith}
use Rattle.std.specs.Prelude.{reverse}
use Rattle.std.proofs.lemmas.Bool.{cases_lt}
use Rattle.tdm_problem.specs.Board.{Board}
use Rattle.tdm_problem.specs.Walk.{Links, IsWalk, AnyWire}
use Rattle.tdm_problem.proofs.Walks.{AnyWire-from_links}
use Rattle.shortest_forest.specs.declared.label.Label.{Label}
use Rattle.shortest_forest.specs.Arcs.{Arcs, IsArcWalk, IsGoal}
use Rattle.shortest_forest.specs.Labels.{Labels, label_at, IsAtLabel, IsSource, IsWaiting, IsWaitingOrSettled, IsNoShorter, IsUnderWay, IsNearest, AreFar}
use Rattle.shortest_forest.proofs.ArcWays.{way-law, nearest-way-law}
use Rattle.shortest_forest.proofs.UnderWay.{label_below}
use Rattle.shortest_forest.proofs.WayLaws.{way_back-source}
use Rattle.steiner_build.proofs.LengthLaws.{walk-few}
use Rattle.steiner_build.specs.Laws.{StaysInside}
use Rattle.cert_checker.specs.Growing.{height_of, height_in, HasDistances, HasReached, ReachesNone}

module _ (board : Board) (arcs : Arcs) (cap x : ℕ) (s : Labels)
    (search : IsUnderWay board arcs (λ _. 0) cap s) (root : IsSource s x) (only : (f : ℕ) → IsSource s f
    → f ≡ x) where
  -- along walks no height is too small
  height-on : (reach : ℕ) → reach ≤ cap → ((f d : ℕ) → IsWaiting s f d → reach ≤ d) → (a d : ℕ)
      → IsAtLabel s a d →
      (es : List ℕ) (f total : ℕ) → IsArcWalk board arcs a es f total
      → reach ≤ height_in s reach f + (d + total)
  height-on reach within waiting a d at [] f total walk =
      let here : height_in s reach a ≡ reach - d =
      ap (λ (label : Option Label). height_of label reach) at.1 in
      let same : height_in s reach a ≡ height_in s reach f = ap (height_in s reach) walk.0 in
      omega (arith, here, same, walk.1)
  height-on reach within waiting a d at (e ∷ es) f total walk =
      go (λ near later. height-on reach within waiting walk.0 near later es f walk.2.0 walk.2.1)
      (search.settled a d at)
    where
      on : ((near : ℕ) → IsAtLabel s walk.0 near → reach ≤ height_in s reach f + (near + walk.2.0))
          → IsNoShorter s (λ _. 0) cap walk.0 (d + arcs e a walk.0)
          → reach ≤ height_in s reach f + (d + total)
      on later (inl near) = omega (arith, later near.0 near.1, near.2, walk.2.2)
      on later (inr far) = omega (arith, far, within, walk.2.2)

      go : ((near : ℕ) → IsAtLabel s walk.0 near → reach ≤ height_in s reach f + (near + walk.2.0))
          → IsWaitingOrSettled board arcs (λ _. 0) cap s a d → reach ≤ height_in s reach f + (d + total)
      go later (inl waits) = omega (arith, waiting a waits.0 waits.1, waits.2)
      go later (inr (inl needless)) = omega (arith, needless, within)
      go later (inr (inr settled)) = on later (settled.1 e walk.0 walk.1)

  height-enough : (reach : ℕ) → reach ≤ cap → ((f d : ℕ) → IsWaiting s f d → reach ≤ d)
      → (es : List ℕ) (f total : ℕ) → IsArcWalk board arcs x es f total → reach ≤ height_in s reach f + total
  height-enough reach within waiting es f total walk =
      omega (arith, height-on reach within waiting x 0 (None, root) es f total walk)

  -- a label is the length of a walk from the source, where it is less than the reach
  height-exact : (reach : ℕ) → reach ≤ cap → ((f d : ℕ) → IsWaiting s f d → reach ≤ d) → (f : ℕ) →
      (height_in s reach f ≡ 0)
      ⊎ ((es : List ℕ) × ((total : ℕ) × IsArcWalk board arcs x es f total
      × (height_in s reach f + total ≡ reach)))
  height-exact reach within waiting f = go (label_at s f) refl
    where
      go : (label : Option Label) → label_at s f ≡ label → (height_in s reach f ≡ 0)
          ⊎ ((es : List ℕ) × ((total : ℕ) × IsArcWalk board arcs x es f total
          × (height_in s reach f + total ≡ reach)))
      go None is = inl (ap (λ (l : Option Label). height_of l reach) is)
      go (Some label) is = ⊎_elim near far (cases_lt label.distance reach)
        where
          here : height_in s reach f ≡ reach - label.distance
          here = ap (λ (l : Option Label). height_of l reach) is

          far : reach ≤ label.distance → (height_in s reach f ≡ 0)
              ⊎ ((es : List ℕ) × ((total : ℕ) × IsArcWalk board arcs x es f total
              × (height_in s reach f + total ≡ reach)))
          far more = inl (omega (arith, here, more))

          near : label.distance < reach → (height_in s reach f ≡ 0)
              ⊎ ((es : List ℕ) × ((total : ℕ) × IsArcWalk board arcs x es f total
              × (height_in s reach f + total ≡ reach)))
          near less =
              let at : IsAtLabel s f label.distance = (label.wire, is) in
              let back = search.labelled.back f label.distance at in
              let source = back.1.0 in
              let way = way-law board arcs s search.labelled f label.distance back.0 source at back.1.1 in
              let same : source ≡ x = only source (way_back-source board s f back.0 source back.1.1) in
              let walk : IsArcWalk board arcs x (reverse back.0) f way.0 =
              subst (λ (a : ℕ). IsArcWalk board arcs a (reverse back.0) f way.0) same way.1 in
              inr (
                reverse back.0,
                (
                  way.0,
                  walk,
                  omega (
                    arith,
                    here,
                    way.2,
                    less,
                    height-enough reach within waiting (reverse back.0) f way.0 walk,
                  ),
                ),
              )

  pub reached : (goal : ℕ) (near : IsNearest board arcs (λ _. 0) cap s goal)
      → HasReached board arcs x s near.distance
  reached goal near = record {
    reaches = λ live goals. record {
      nearest = goal;
      listed = (goals goal).0 near.marked;
      way = way;
      least = λ f es total there walk. omega (
        arith,
        near.least (λ a bs g sum marked way. omega arith) x 0 es f total (
          None,
          root,
        ) ((goals f).1 there) walk,
      );
    };
    heights = λ f. record {
      enough = λ es total walk. height-enough near.distance (omega (arith, near.below)) near.nearer_settled es
          f total walk;
      exact = height-exact near.distance (omega (arith, near.below)) near.nearer_settled f;
    };
  }
    where
      way : (es : List ℕ) × IsArcWalk board arcs x es goal near.distance
      way =
          let back = search.labelled.back goal near.distance near.label in
          let source = back.1.0 in
          let same : source ≡ x = only source (way_back-source board s goal back.0 source back.1.1) in
          let walk = nearest-way-law board arcs s search.labelled (λ _. 0) cap
          (λ a bs g sum marked along. omega arith) goal near back.0 source back.1.1 in (
            reverse back.0,
            subst (λ (a : ℕ). IsArcWalk board arcs a (reverse back.0) goal near.distance) same
                walk,
          )

  -- a walk over wires is one over arcs
  arc-walk : ((e a b : ℕ) → Links board e a b → arcs e a b ≤ 2 ^ 51) → (a : ℕ) (es : List ℕ) (b : ℕ)
      → IsWalk board (AnyWire board) a es b → (total : ℕ) × IsArcWalk board arcs a es b total
      × (total ≤ length es * 2 ^ 51)
  arc-walk small a [] b walk = (0, (walk, refl), omega arith)
  arc-walk small a (e ∷ es) b walk =
      let rest = arc-walk small walk.1.0 es b walk.1.2 in (
        arcs e a walk.1.0 + rest.0,
        (walk.1.0, walk.1.1, (rest.0, rest.1, refl)),
        omega (arith, small e a walk.1.0 walk.1.1, rest.2),
      )

  pub reaches-none : 2 ^ 64 - 2 ^ 51 ≤ cap → board.fpgas ≤ 4096 → StaysInside board
      → (goals_there : (f : ℕ) → IsGoal s.goals f → f < board.fpgas) →
      ((e a b : ℕ) → Links board e a b → arcs e a b ≤ 2 ^ 51) → AreFar board arcs (λ _. 0) cap s
      → ReachesNone board x s
  reaches-none most few inside there small far f es goal walk =
      let short = walk-few board inside x es f (there f goal) walk in
      let way = arc-walk small x short.0 f short.1 in
      let least = far.least (λ a bs g sum marked along. omega arith) x 0 short.0 f way.0 (
        None,
        root,
      ) goal way.1 in
      omega (arith, most, least, way.2, short.2, few)

  -- a walk over arcs is one over wires
  wire-walk : (a : ℕ) (es : List ℕ) (b total : ℕ) → IsArcWalk board arcs a es b total
      → IsWalk board (AnyWire board) a es b
  wire-walk a [] b total walk = walk.0
  wire-walk a (e ∷ es) b total walk = (
    AnyWire-from_links board e a walk.0 walk.1,
    (walk.0, walk.1, wire-walk walk.0 es b walk.2.0 walk.2.1),
  )

  -- once all is settled that is nearer than the cap, all are labelled that wires lead to
  module _ (most : cap ≡ 2 ^ 64 - 2 ^ 51) (few : board.fpgas ≤ 4096) (inside : StaysInside board)
      (small : (e a b : ℕ) → Links board e a b → arcs e a b ≤ 2 ^ 51)
      (far : AreFar board arcs (λ _. 0) cap s) where
    waiting : (reach : ℕ) → reach ≤ cap → (f d : ℕ) → IsWaiting s f d → reach ≤ d
    waiting reach within f d waits = omega (arith, within, far.nearer_settled f d waits)

    high : (f : ℕ) (es : List ℕ) → f < board.fpgas → IsWalk board (AnyWire board) x es f
        → 0 < height_in s cap f
    high f es below walk =
        let short = walk-few board inside x es f below walk in
        let way = arc-walk small x short.0 f short.1 in
        omega (
          arith,
          most,
          few,
          short.2,
          way.2,
          height-enough cap (omega arith) (waiting cap (omega arith)) short.0 f way.0 way.1,
        )

    there : (f : ℕ) (label : Option Label) → label_at s f ≡ label → 0 < height_in s cap f
        → (d : ℕ) × IsAtLabel s f d
    there f None is up =
        absurd (omega (arith, up, ap (λ (l : Option Label). height_of l cap) is))
    there f (Some label) is up = (label.distance, (label.wire, is))

    below : (f d : ℕ) → IsAtLabel s f d → d < cap
    below f d at =
        let back = search.labelled.back f d at in
        let source = back.1.0 in
        let way = way-law board arcs s search.labelled f d back.0 source at back.1.1 in
        let same : source ≡ x = only source (way_back-source board s f back.0 source back.1.1) in
        let walk : IsArcWalk board arcs x (reverse back.0) f way.0 =
        subst (λ (a : ℕ). IsArcWalk board arcs a (reverse back.0) f way.0) same way.1 in
        let labelled : f < board.fpgas = omega (
          arith,
          label_below s f d at,
          search.labelled.count,
        ) in
        let up = high f (reverse back.0) labelled (wire-walk x (reverse back.0) f way.0 walk) in
        omega (arith, up, ap (λ (l : Option Label). height_of l cap) at.1)

    pub distances : HasDistances board arcs x s
    distances = record {
      there = λ f es inside walk. there f (label_at s f) refl (high f es inside walk);
      below = λ f d at. omega (arith, most, below f d at);
      heights = λ reach f within.
          let less : reach ≤ cap = omega (arith, most, within) in
          record {
            enough = λ es total walk. height-enough reach less (waiting reach less) es f total walk;
            exact = height-exact reach less (waiting reach less) f;
          };
    }
