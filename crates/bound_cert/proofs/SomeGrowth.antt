-- FPGAs grow by some number.
use Rattle.std.proofs.Common.{◌≡◌, ℕ, zero, suc, ◌+◌, ◌-◌, ◌<◌, ◌≤◌, ◌⊎◌, List, [], ◌∷◌, refl, subst, inl, inr, ⊎_elim, arith}
use Rattle.std.specs.Prelude.{Contains}
use Rattle.std.proofs.lemmas.Bool.{cases_lt}
use Rattle.tdm_problem.specs.Board.{Board}
use Rattle.tdm_problem.specs.Walk.{IsWalk, AnyWire, IsConnectable}
use Rattle.tdm_problem.proofs.Walks.{only}
use Rattle.shortest_forest.specs.Arcs.{Arcs, IsArcWalk, both_ways}
use Rattle.bound_cert.specs.Growth.{IsReach, IsHeight, worn, GrowOver, SomeGrowthLaw}
use Rattle.bound_cert.proofs.LeastWays.{HasWalk, least-way}
use Rattle.bound_cert.proofs.OneGrowth.{any-walk}

-- one of some numbers is the least
nearest : (far : ℕ → ℕ) (z : ℕ) (zs : List ℕ) → (x : ℕ) × Contains (z ∷ zs) x × ((y : ℕ) → Contains (z ∷ zs) y
    → far x ≤ far y)
nearest far z [] = (
  z,
  (0, omega arith, refl),
  λ y listed. subst (λ (w : ℕ). far z ≤ far w) (only z y listed)
      (omega arith),
)
nearest far z (y ∷ ys) = go (nearest far y ys)
  where
    go : (x : ℕ) × Contains (y ∷ ys) x × ((w : ℕ) → Contains (y ∷ ys) w → far x ≤ far w)
        → (x : ℕ) × Contains (z ∷ y ∷ ys) x × ((w : ℕ) → Contains (z ∷ y ∷ ys) w → far x ≤ far w)
    go (x, listed, least) = ⊎_elim
        (λ (less : far z < far x). (
          z,
          (0, omega arith, refl),
          λ w at. each z (omega arith) (λ v there. omega (arith, less, least v there)) w at,
        ))
        (λ (not : far x ≤ far z). (
          x,
          (suc listed.0, omega (arith, listed.1), listed.2),
          λ w at. each x not least w at,
        ))
        (cases_lt (far z) (far x))
      where
        each : (x : ℕ) → far x ≤ far z → ((w : ℕ) → Contains (y ∷ ys) w → far x ≤ far w) → (w : ℕ)
            → Contains (z ∷ y ∷ ys) w → far x ≤ far w
        each x first rest w (zero, inside, is) = subst (λ (v : ℕ). far x ≤ far v) is first
        each x first rest w (suc i, inside, is) = rest w (i, omega (arith, inside), is)

module _ (board : Board) where
  -- a walk is so long over any arcs
  long : (arcs : Arcs) (a : ℕ) (es : List ℕ) (b : ℕ) → IsWalk board (AnyWire board) a es b → (total : ℕ)
      × IsArcWalk board arcs a es b total
  long arcs a [] b walk = (0, (walk, refl))
  long arcs a (e ∷ es) b walk = let rest = long arcs walk.1.0 es b walk.1.2 in
      (arcs e a walk.1.0 + rest.0, (walk.1.0, walk.1.1, (rest.0, rest.1, refl)))

  -- no walk is long where no arc is
  short : (a : ℕ) (es : List ℕ) (b total : ℕ) → IsArcWalk board (λ e v u. 0) a es b total → total ≡ 0
  short a [] b total walk = walk.1
  short a (e ∷ es) b total walk = omega (arith, walk.2.2, short walk.0 es b walk.2.0 walk.2.1)

  -- wires lead from one FPGA to another, or they do not
  abbrev IsJoined : (a b : ℕ) → Type 0
  IsJoined a b = (es : List ℕ) × IsWalk board (AnyWire board) a es b

  decide-joined : (a b : ℕ) → IsJoined a b ⊎ ¬ IsJoined a b
  decide-joined a b = go (least-way board (λ e v u. 0) 1 a b)
    where
      go : (least : ℕ) × ((es : List ℕ) (total : ℕ) → IsArcWalk board (λ e v u. 0) a es b total
          → least ≤ total) × (least < 1 → HasWalk board (λ e v u. 0) a b least) → IsJoined a b
          ⊎ ¬ IsJoined a b
      go (least, none, way) = ⊎_elim
          (λ (less : least < 1). let walk = way less in
          inl (walk.0, any-walk board (λ e v u. 0) a walk.0 b least walk.1))
          (λ (more : 1 ≤ least). inr (λ walk. let far = long (λ e v u. 0) a walk.0 b walk.1 in
          omega (arith, more, none walk.0 far.0 far.1, short a walk.0 b far.0 far.1)))
          (cases_lt least 1)

  -- what is joined with the root reaches one of the live FPGAs, and all have their heights
  reached : (rests : Arcs) (x root : ℕ) (more : List ℕ) → IsJoined x root →
      (reach : ℕ) × IsReach board rests x (root ∷ more) reach
      × ((heights : ℕ → ℕ) × ((f : ℕ) → IsHeight board rests x reach f (heights f)))
  reached rests x root more walk = (
    reach,
    record {
      nearest = first.0;
      listed = first.1;
      way = (near first.0).2 below;
      least = λ f es total listed way. omega (arith, first.2 f listed, (near f).1 es total way);
    },
    (
      λ f. reach - (near f).0,
      λ f. record {
        enough = λ es total way. omega (arith, (near f).1 es total way);
        exact = ⊎_elim
            (λ (less : (near f).0 < reach). let way = (near f).2 (omega (arith, less, below)) in
            inr (way.0, ((near f).0, way.1, omega (arith, less))))
            (λ (no : reach ≤ (near f).0). inl (omega (arith, no)))
            (cases_lt (near f).0 reach);
      },
    ),
  )
    where
      far : (total : ℕ) × IsArcWalk board rests x walk.0 root total
      far = long rests x walk.0 root walk.1

      near : (f : ℕ) → (least : ℕ) × ((es : List ℕ) (total : ℕ) → IsArcWalk board rests x es f total
          → least ≤ total) × (least < far.0 + 1 → HasWalk board rests x f least)
      near f = least-way board rests (far.0 + 1) x f

      first : (f : ℕ) × Contains (root ∷ more) f × ((g : ℕ) → Contains (root ∷ more) g
          → (near f).0 ≤ (near g).0)
      first = nearest (λ f. (near f).0) root more

      reach : ℕ
      reach = (near first.0).0

      below : reach < far.0 + 1
      below = omega (arith, first.2 root (0, omega arith, refl), (near root).1 walk.0 far.0 far.1)

  -- FPGAs grow, or wires do not join them
  abbrev Decided : (root : ℕ) → (growing : List ℕ) → Arcs → Type 0
  Decided root growing rests = ((growth : ℕ) × GrowOver board root growing rests growth)
      ⊎ ¬ IsConnectable board (root ∷ growing)

  decide-one : (root x : ℕ) (more : List ℕ) (rests : Arcs) → ((after : Arcs) → Decided root more after)
      → Decided root (x ∷ more) rests
  decide-one root x more rests others = ⊎_elim joined
      (λ (none : ¬ IsJoined x root). inr (λ joins. none (joins x root (1, omega arith, refl) (
        0,
        omega arith,
        refl,
      ))))
      (decide-joined x root)
    where
      joined : IsJoined x root → Decided root (x ∷ more) rests
      joined walk =
          let far = reached rests x root more walk in
          ⊎_elim
          (λ (rest : (growth : ℕ) × GrowOver board root more (worn rests far.2.0) growth). inl
          (far.0 + rest.0, (far.0, far.1, (far.2.0, far.2.1, (rest.0, rest.1, refl)))))
          (λ (none : ¬ IsConnectable board (root ∷ more)). inr
          (λ joins. none (λ a b in_a in_b. joins a b (wider a in_a) (wider b in_b))))
          (others (worn rests far.2.0))
        where
          wider : (a : ℕ) → Contains (root ∷ more) a → Contains (root ∷ x ∷ more) a
          wider a (zero, inside, is) = (0, omega arith, is)
          wider a (suc i, inside, is) = (suc (suc i), omega (arith, inside), is)

  decide : (root : ℕ) (growing : List ℕ) (rests : Arcs) → Decided root growing rests
  decide root [] rests = inl (0, refl)
  decide root (x ∷ more) rests = decide-one root x more rests (λ after. decide root more after)

pub some_growth : SomeGrowthLaw
some_growth board wire_length [] = (0, refl)
some_growth board wire_length (root ∷ growing) = ⊎_elim
    (λ (is : (growth : ℕ) × GrowOver board root growing (both_ways wire_length) growth). (is.0, inl is.1))
    (λ (none : ¬ IsConnectable board (root ∷ growing)). (0, inr (refl, none)))
    (decide board root growing (both_ways wire_length))
