-- FPGAs grow by one number alone.
use Rattle.std.proofs.Common.{◌≡◌, ℕ, zero, suc, ◌+◌, ◌≤◌, ◌⊎◌, List, [], ◌∷◌, refl, sym, subst, inl, inr, arith}
use Rattle.std.specs.Prelude.{Contains, reverse}
use Rattle.tdm_problem.specs.Board.{Board}
use Rattle.tdm_problem.specs.Walk.{Links, IsWalk, AnyWire, IsConnectable}
use Rattle.tdm_problem.proofs.Walks.{only, AnyWire-from_links, IsWalk-append, IsWalk-reverse, Joins-from_source}
use Rattle.shortest_forest.specs.Arcs.{Arcs, IsArcWalk, both_ways}
use Rattle.bound_cert.specs.Growth.{IsReach, IsHeight, worn, GrowOver, OneGrowthLaw}

module _ (board : Board) where
  -- the rests are the same along each wire
  abbrev pub Agree : Arcs → Arcs → Type 0
  Agree rests other = (e v u : ℕ) → Links board e v u → rests e v u ≡ other e v u

  pub walk-agree : (rests other : Arcs) → Agree rests other → (a : ℕ) (es : List ℕ) (b total : ℕ)
      → IsArcWalk board rests a es b total → IsArcWalk board other a es b total
  walk-agree rests other agree a [] b total walk = walk
  walk-agree rests other agree a (e ∷ es) b total walk = (
    walk.0,
    walk.1,
    (
      walk.2.0,
      walk-agree rests other agree walk.0 es b walk.2.0 walk.2.1,
      omega (arith, walk.2.2, agree e a walk.0 walk.1),
    ),
  )

  reach-le : (rests other : Arcs) → Agree rests other → (x : ℕ) (live : List ℕ) (reach more : ℕ)
      → IsReach board rests x live reach → IsReach board other x live more → more ≤ reach
  reach-le rests other agree x live reach more is far =
      far.least is.nearest is.way.0 reach is.listed
      (walk-agree rests other agree x is.way.0 is.nearest reach is.way.1)

  height-le : (rests other : Arcs) → Agree rests other → (x reach f height more : ℕ)
      → IsHeight board rests x reach f height → IsHeight board other x reach f more → height ≤ more
  height-le rests other agree x reach f height more is high = go is.exact
    where
      go : (height ≡ 0) ⊎ ((es : List ℕ) × ((total : ℕ) × IsArcWalk board rests x es f total
          × (height + total ≡ reach))) → height ≤ more
      go (inl low) = omega (arith, low)
      go (inr (es, (total, walk, at))) =
          omega (arith, at, high.enough es total (walk-agree rests other agree x es f total walk))

  pub agree-back : (rests other : Arcs) → Agree rests other → Agree other rests
  agree-back rests other agree e v u links = sym (agree e v u links)

  one-over : (root : ℕ) (growing : List ℕ) (rests other : Arcs) → Agree rests other → (growth more : ℕ)
      → GrowOver board root growing rests growth → GrowOver board root growing other more → growth ≡ more
  one-over root [] rests other agree growth more none nothing = omega (arith, none, nothing)
  one-over root (x ∷ xs) rests other agree growth more (reach, is_reach, (heights, are, (rest, grows, is)))
      (far, is_far, (levels, levelled, (left, goes, at))) =
      let back = agree-back rests other agree in
      let live : List ℕ = root ∷ xs in
      let equal : far ≡ reach = omega (
        arith,
        reach-le rests other agree x live reach far is_reach is_far,
        reach-le other rests back x live far reach is_far is_reach,
      ) in
      let level : (f : ℕ) → IsHeight board other x reach f (levels f) =
      λ f. subst (λ (r : ℕ). IsHeight board other x r f (levels f)) equal (levelled f) in
      let even : (f : ℕ) → heights f ≡ levels f = λ f. omega (
        arith,
        height-le rests other agree x reach f (heights f) (levels f) (are f) (level f),
        height-le other rests back x reach f (levels f) (heights f) (level f) (are f),
      ) in
      let worn_agree : Agree (worn rests heights) (worn other levels) =
      λ e v u links. omega (arith, agree e v u links, even v, even u) in
      omega (
        arith,
        equal,
        is,
        at,
        one-over root xs (worn rests heights) (worn other levels) worn_agree rest left grows goes,
      )

  pub any-walk : (arcs : Arcs) (a : ℕ) (es : List ℕ) (b total : ℕ) → IsArcWalk board arcs a es b total
      → IsWalk board (AnyWire board) a es b
  any-walk arcs a [] b total walk = walk.0
  any-walk arcs a (e ∷ es) b total walk = (
    AnyWire-from_links board e a walk.0 walk.1,
    (walk.0, walk.1, any-walk arcs walk.0 es b walk.2.0 walk.2.1),
  )

  -- what grows is joined with the root
  walks-to_root : (root : ℕ) (growing : List ℕ) (rests : Arcs) (growth : ℕ)
      → GrowOver board root growing rests growth →
      (x : ℕ) → Contains (root ∷ growing) x → (es : List ℕ) × IsWalk board (AnyWire board) x es root
  walks-to_root root [] rests growth grows x listed = ([], sym (only root x listed))
  walks-to_root root (y ∷ more) rests growth (reach, is_reach, (heights, are, (rest, grows, sums))) x listed =
      go (walks-to_root root more (worn rests heights) rest grows) listed
    where
      own : ((z : ℕ) → Contains (root ∷ more) z → (es : List ℕ) × IsWalk board (AnyWire board) z es root)
          → (es : List ℕ) × IsWalk board (AnyWire board) y es root
      own before =
          let after = before is_reach.nearest is_reach.listed in (
            _,
            IsWalk-append board (AnyWire board) y is_reach.way.0 is_reach.nearest after.0 root
                (any-walk rests y is_reach.way.0 is_reach.nearest reach is_reach.way.1) after.1,
          )

      go : ((z : ℕ) → Contains (root ∷ more) z → (es : List ℕ) × IsWalk board (AnyWire board) z es root)
          → Contains (root ∷ y ∷ more) x → (es : List ℕ) × IsWalk board (AnyWire board) x es root
      go before (zero, inside, is) = ([], sym is)
      go before (suc zero, inside, is) =
          subst (λ (z : ℕ). (es : List ℕ) × IsWalk board (AnyWire board) z es root) is (own before)
      go before (suc (suc i), inside, is) = before x (suc i, omega (arith, inside), is)

  pub connectable-from_growth : (root : ℕ) (growing : List ℕ) (rests : Arcs) (growth : ℕ)
      → GrowOver board root growing rests growth → IsConnectable board (root ∷ growing)
  connectable-from_growth root growing rests growth grows =
      Joins-from_source board (AnyWire board) root (root ∷ growing)
      (λ x listed.
      let walk = walks-to_root root growing rests growth grows x listed in
      (reverse walk.0, IsWalk-reverse board (AnyWire board) x walk.0 root walk.1))

pub one_growth : OneGrowthLaw
one_growth board wire_length [] growth other is at = omega (arith, is, at)
one_growth board wire_length (root ∷ growing) growth other (inl is) (inl at) =
    one-over board root growing (both_ways wire_length) (both_ways wire_length) (λ e v u links. refl) growth
    other is at
one_growth board wire_length (root ∷ growing) growth other (inr is) (inr at) = omega (arith, is.0, at.0)
one_growth board wire_length (root ∷ growing) growth other (inl is) (inr at) =
    absurd (at.1 (connectable-from_growth board root growing (both_ways wire_length) growth is))
one_growth board wire_length (root ∷ growing) growth other (inr is) (inl at) =
    absurd (is.1 (connectable-from_growth board root growing (both_ways wire_length) other at))
