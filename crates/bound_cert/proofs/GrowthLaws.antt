-- What joins FPGAs is at least as long as these grow.
use Rattle.std.proofs.Common.{◌≡◌, ℕ, zero, suc, ◌+◌, ◌-◌, ◌<◌, ◌≤◌, ◌⊎◌, List, [], ◌∷◌, ◌++◌, length, refl, sym, ap, subst, inl, inr, ⊎_elim, arith}
use Rattle.std.specs.Prelude.{Contains, sum_by}
use Rattle.std.proofs.lemmas.Bool.{cases_lt}
use Rattle.std.proofs.lemmas.List.Sums.{sum_by-cons, sum_by-le-sum_by}
use Rattle.tdm_problem.specs.Board.{Board}
use Rattle.tdm_problem.specs.Walk.{Links, IsWalk}
use Rattle.shortest_forest.specs.Arcs.{Arcs, IsArcWalk, both_ways}
use Rattle.shortest_forest.proofs.ArcWays.{arc_walk-on}
use Rattle.bound_cert.specs.Growth.{IsReach, IsHeight, worn, GrowOver, GrowthLaw}
use Rattle.bound_cert.proofs.Nearer.{IsNear, rank, LeadsNearer, nearer, near-wider, near-from_walk, along, along-nearer, along-each, along-le, pick}

module _ (board : Board) (wires : List ℕ) (root k : ℕ) where
  -- how far the heights fall on the way over a wire that leads nearer to the root
  abbrev fall : (ℕ → ℕ) → ℕ → ℕ
  fall heights e = along board wires root k (λ v u. heights v - heights u) e

  -- the rank of the end of a wire that is farther from the root
  abbrev far_rank : ℕ → ℕ
  far_rank e = along board wires root k (λ v u. rank board wires root k v) e

  -- the fall along a wire, unless that begins farther from the root
  abbrev fall_within : (ℕ → ℕ) → (limit e : ℕ) → ℕ
  fall_within heights limit e = pick (cases_lt limit (far_rank e)) 0 (fall heights e)

  within-le : (heights : ℕ → ℕ) (limit e : ℕ) → fall_within heights limit e ≤ fall heights e
  within-le heights limit e = go (cases_lt limit (far_rank e))
    where
      go : (d : (limit < far_rank e) ⊎ (far_rank e ≤ limit)) → pick d 0 (fall heights e) ≤ fall heights e
      go (inl less) = omega arith
      go (inr not) = omega arith

  within-more : (heights : ℕ → ℕ) (limit e : ℕ)
      → fall_within heights limit e ≤ fall_within heights (suc limit) e
  within-more heights limit e = go (cases_lt limit (far_rank e)) (cases_lt (suc limit) (far_rank e))
    where
      go : (c : (limit < far_rank e) ⊎ (far_rank e ≤ limit)) (d : (suc limit < far_rank e)
          ⊎ (far_rank e ≤ suc limit)) → pick c 0 (fall heights e) ≤ pick d 0 (fall heights e)
      go (inl less) d = omega arith
      go (inr not) (inl less) = absurd (omega (arith, not, less))
      go (inr not) (inr more) = omega arith

  within-next : (heights : ℕ → ℕ) (limit e : ℕ) → far_rank e ≡ suc limit
      → fall_within heights limit e + fall heights e ≤ fall_within heights (suc limit) e
  within-next heights limit e is = go (cases_lt limit (far_rank e)) (cases_lt (suc limit) (far_rank e))
    where
      go : (c : (limit < far_rank e) ⊎ (far_rank e ≤ limit)) (d : (suc limit < far_rank e)
          ⊎ (far_rank e ≤ suc limit)) → pick c 0 (fall heights e) + fall heights e
          ≤ pick d 0 (fall heights e)
      go (inl less) (inl more) = absurd (omega (arith, is, more))
      go (inl less) (inr most) = omega arith
      go (inr not) d = absurd (omega (arith, is, not))

  -- the falls along all wires that begin no farther than one more have the fall along each such wire besides
  sum-next : (heights : ℕ → ℕ) (limit e : ℕ) → far_rank e ≡ suc limit → (es : List ℕ) → Contains es e →
      sum_by (fall_within heights limit) es + fall heights e ≤ sum_by (fall_within heights (suc limit)) es
  sum-next heights limit e is [] listed = absurd (omega (arith, listed.1))
  sum-next heights limit e is (d ∷ es) (zero, inside, at) =
      let here : fall_within heights limit e + fall heights e ≤ fall_within heights (suc limit) e =
      within-next heights limit e is in
      let here_d = subst (λ (w : ℕ). fall_within heights limit w + fall heights e
      ≤ fall_within heights (suc limit) w) (sym at) here in
      let rest = sum_by-le-sum_by (fall_within heights limit) (fall_within heights (suc limit)) es
      (λ w. within-more heights limit w) in
      omega (
        arith,
        sum_by-cons (fall_within heights limit) d es,
        sum_by-cons (fall_within heights (suc limit)) d es,
        here_d,
        rest,
      )
  sum-next heights limit e is (d ∷ es) (suc i, inside, at) =
      let rest = sum-next heights limit e is es (i, omega (arith, inside), at) in
      omega (
        arith,
        sum_by-cons (fall_within heights limit) d es,
        sum_by-cons (fall_within heights (suc limit)) d es,
        within-more heights limit d,
        rest,
      )

  -- heights of FPGAs of no higher rank than the limit fall by no more than along wires that begin within it
  abbrev AreWithin : (ℕ → ℕ) → (limit : ℕ) → Type 0
  AreWithin heights limit = (u : ℕ) → IsNear board wires root k u → rank board wires root k u ≤ limit
      → heights u ≤ heights root + sum_by (fall_within heights limit) wires

  -- over wires that lead nearer and nearer to the root, the heights fall by no more than along all wires
  -- together
  climb : (heights : ℕ → ℕ) (limit : ℕ) → AreWithin heights limit
  climb heights zero v near low = go (nearer board wires root k v near)
    where
      go : (v ≡ root) ⊎ LeadsNearer board wires root k v
          → heights v ≤ heights root + sum_by (fall_within heights zero) wires
      go (inl at) = omega (arith, ap heights at)
      go (inr leads) = absurd (omega (arith, low, leads.nearer))
  climb heights (suc limit) v near low = go (nearer board wires root k v near) (climb heights limit)
    where
      below : AreWithin heights limit → rank board wires root k v ≤ limit
          → heights v ≤ heights root + sum_by (fall_within heights (suc limit)) wires
      below before less =
          let rest = before v near less in
          omega (
            arith,
            rest,
            sum_by-le-sum_by (fall_within heights limit) (fall_within heights (suc limit))
                wires (λ w. within-more heights limit w),
          )

      top : AreWithin heights limit → LeadsNearer board wires root k v → limit < rank board wires root k v
          → heights v ≤ heights root + sum_by (fall_within heights (suc limit)) wires
      top before leads more =
          let rest = before leads.to leads.near (omega (arith, leads.nearer, low)) in
          let here : fall heights leads.wire ≡ heights v - heights leads.to =
          along-nearer board wires root k (λ x y. heights x - heights y) leads.wire v leads.to leads.links
          leads.nearer in
          let at : far_rank leads.wire ≡ rank board wires root k v =
          along-nearer board wires root k (λ x y. rank board wires root k x) leads.wire v leads.to
          leads.links leads.nearer in
          omega (
            arith,
            rest,
            here,
            sum-next heights limit leads.wire (omega (arith, at, more, low)) wires leads.listed,
          )

      go : (v ≡ root) ⊎ LeadsNearer board wires root k v → AreWithin heights limit
          → heights v ≤ heights root + sum_by (fall_within heights (suc limit)) wires
      go (inl at) before = omega (arith, ap heights at)
      go (inr leads) before = ⊎_elim (λ more. top before leads more) (λ less. below before less)
          (cases_lt limit (rank board wires root k v))

  height-le_falls : (heights : ℕ → ℕ) (v : ℕ) → IsNear board wires root k v
      → heights v ≤ heights root + sum_by (fall heights) wires
  height-le_falls heights v near =
      let r : ℕ = rank board wires root k v in
      omega (
        arith,
        climb heights r v near (omega arith),
        sum_by-le-sum_by (fall_within heights r) (fall heights) wires (λ e. within-le heights r e),
      )

  module _ (rests : Arcs) (x reach : ℕ) (live : List ℕ) (heights : ℕ
      → ℕ) (is_reach : IsReach board rests x live reach) (are : (f : ℕ)
      → IsHeight board rests x reach f (heights f)) where
    -- along an arc the heights fall by no more than its rest
    fall-le_rest : (e v u : ℕ) → Links board e v u → heights v ≤ heights u + rests e v u
    fall-le_rest e v u links = go (are v).exact
      where
        go : (heights v ≡ 0)
            ⊎ ((es : List ℕ) × ((total : ℕ) × IsArcWalk board rests x es v total
            × (heights v + total ≡ reach))) → heights v ≤ heights u + rests e v u
        go (inl low) = omega (arith, low)
        go (inr (es, (total, walk, is))) =
            omega (
              arith,
              is,
              (are u).enough (es ++ e ∷ []) (total + rests e v u)
                  (arc_walk-on board rests x es v total e u walk links),
            )

    -- a live FPGA has no height
    live-low : (f : ℕ) → Contains live f → heights f ≡ 0
    live-low f listed = go (are f).exact
      where
        go : (heights f ≡ 0)
            ⊎ ((es : List ℕ) × ((total : ℕ) × IsArcWalk board rests x es f total
            × (heights f + total ≡ reach))) → heights f ≡ 0
        go (inl low) = low
        go (inr (es, (total, walk, is))) = omega (arith, is, is_reach.least f es total listed walk)

    -- FPGA x is as high as it reaches
    own-height : reach ≤ heights x
    own-height = omega (arith, (are x).enough [] 0 (refl, refl))

    fall-and_worn : (e : ℕ) → fall heights e + along board wires root k (worn rests heights e) e
        ≤ along board wires root k (rests e) e
    fall-and_worn e = along-each board wires root k (λ v u. heights v - heights u) (worn rests heights e)
        (rests e) e
        (λ v u links. omega (arith, fall-le_rest e v u links))

  sum-both : (f g h : ℕ → ℕ) → ((e : ℕ) → f e + g e ≤ h e) → (es : List ℕ)
      → sum_by f es + sum_by g es ≤ sum_by h es
  sum-both f g h each [] = omega arith
  sum-both f g h each (e ∷ es) =
      omega (
        arith,
        sum_by-cons f e es,
        sum_by-cons g e es,
        sum_by-cons h e es,
        each e,
        sum-both f g h each es,
      )

  -- FPGAs near the root grow by no more than the rests along the wires, each the way that leads nearer
  grow-le_rests : (growing : List ℕ) (rests : Arcs) (growth : ℕ) → GrowOver board root growing rests growth →
      ((x : ℕ) → Contains growing x → IsNear board wires root k x) →
      growth ≤ sum_by (λ e. along board wires root k (rests e) e) wires
  grow-le_rests [] rests growth none near = omega (arith, none)
  grow-le_rests (x ∷ more) rests growth (reach, is_reach, (heights, are, (rest, grows, is))) near =
      let after = grow-le_rests more (worn rests heights) rest grows (λ y listed. near y (
        suc listed.0,
        omega (arith, listed.1),
        listed.2,
      )) in
      let own = own-height rests x reach (root ∷ more) heights is_reach are in
      let low = live-low rests x reach (root ∷ more) heights is_reach are root (0, omega arith, refl) in
      let falls = height-le_falls heights x (near x (0, omega arith, refl)) in
      let all = sum-both (fall heights) (λ e. along board wires root k (worn rests heights e) e)
      (λ e. along board wires root k (rests e) e)
      (λ e. fall-and_worn rests x reach (root ∷ more) heights is_reach are e) wires in
      omega (arith, after, own, low, falls, all, is)

-- within some number of wires of the root are all of these
all-near : (board : Board) (wires : List ℕ) (root : ℕ) (fpgas : List ℕ)
    → ((x : ℕ) → Contains fpgas x → (es : List ℕ) × IsWalk board (Contains wires) x es root) →
    (k : ℕ) × ((x : ℕ) → Contains fpgas x → IsNear board wires root k x)
all-near board wires root [] walks = (0, λ x listed. absurd (omega (arith, listed.1)))
all-near board wires root (y ∷ fpgas) walks =
    join (walks y (0, omega arith, refl)) (all-near board wires root fpgas (λ x listed. walks x (
      suc listed.0,
      omega (arith, listed.1),
      listed.2,
    )))
  where
    join : (es : List ℕ) × IsWalk board (Contains wires) y es root
        → (k : ℕ) × ((x : ℕ) → Contains fpgas x → IsNear board wires root k x) →
        (k : ℕ) × ((x : ℕ) → Contains (y ∷ fpgas) x → IsNear board wires root k x)
    join walk rest = (length walk.0 + rest.0, each)
      where
        each : (x : ℕ) → Contains (y ∷ fpgas) x → IsNear board wires root (length walk.0 + rest.0) x
        each x (zero, inside, is) = subst (λ (z : ℕ). IsNear board wires root (length walk.0 + rest.0) z) is
            (near-wider board wires root (length walk.0) (length walk.0 + rest.0) y (omega arith)
            (near-from_walk board wires root y walk.0 walk.1))
        each x (suc i, inside, is) = near-wider board wires root rest.0 (length walk.0 + rest.0) x
            (omega arith) (rest.1 x (i, omega (arith, inside), is))

pub growth-le_lengths : GrowthLaw
growth-le_lengths board wire_length wires [] growth none joins = omega (arith, none)
growth-le_lengths board wire_length wires (root ∷ growing) growth (inr none) joins = omega (arith, none.0)
growth-le_lengths board wire_length wires (root ∷ growing) growth (inl grows) joins =
    let near = all-near board wires root growing (λ x listed. joins x root (
      suc listed.0,
      omega (arith, listed.1),
      listed.2,
    ) (0, omega arith, refl)) in
    let most = grow-le_rests board wires root near.0 growing (both_ways wire_length) growth grows near.1 in
    let own = sum_by-le-sum_by (λ e. along board wires root near.0 (both_ways wire_length e) e) wire_length
    wires
    (λ e. along-le board wires root near.0 (wire_length e) e) in
    omega (arith, most, own)
