-- Growth on small boards, from how far each FPGA is.
use Rattle.std.proofs.Common.{◌≡◌, ℕ, zero, suc, ◌+◌, ◌-◌, ◌<◌, ◌≤◌, ◌⊎◌, List, [], ◌∷◌, Some, refl, ap, subst, inl, inr, ⊎_elim, arith}
use Rattle.std.specs.Prelude.{Contains, slice_get}
use Rattle.std.proofs.lemmas.Bool.{cases_lt}
use Rattle.std.proofs.lemmas.Option.{same_Some}
use Rattle.tdm_problem.specs.declared.wire.Wire.{Wire}
use Rattle.tdm_problem.specs.Board.{Board}
use Rattle.tdm_problem.specs.Walk.{Links}
use Rattle.shortest_forest.specs.Arcs.{Arcs, IsArcWalk}
use Rattle.bound_cert.specs.Growth.{worn, GrowOver}

-- what is said of each of some numbers
abbrev pub Each : (P : ℕ → Type 0) → List ℕ → Type 0
Each P [] = Unit {0}
Each P (x ∷ xs) = P x × Each P xs

each-at : (P : ℕ → Type 0) (xs : List ℕ) → Each P xs → (y : ℕ) → Contains xs y → P y
each-at P [] all y listed = absurd (omega (arith, listed.1))
each-at P (x ∷ xs) all y (zero, inside, is) = subst P is all.0
each-at P (x ∷ xs) all y (suc k, inside, is) = each-at P xs all.1 y (k, omega (arith, inside), is)

-- what is said of each wire in both directions, the first of which has this number
abbrev pub BothWays : (P : ℕ → ℕ → ℕ → Type 0) → (first : ℕ) → List Wire → Type 0
BothWays P first [] = Unit {0}
BothWays P first (w ∷ ws) = P first w.a w.b × P first w.b w.a × BothWays P (suc first) ws

both_ways-at : (P : ℕ → ℕ → ℕ → Type 0) (first : ℕ) (ws : List Wire) → BothWays P first ws
    → (e v u : ℕ) (wire : Wire) → slice_get ws e ≡ Some wire →
    ((wire.a ≡ v) × (wire.b ≡ u)) ⊎ ((wire.a ≡ u) × (wire.b ≡ v)) → P (first + e) v u
both_ways-at P first [] all e v u wire is ends = absurd (cc is)
both_ways-at P first (w ∷ ws) all zero v u wire is ends =
    let own : P first wire.a wire.b × P first wire.b wire.a =
    subst (λ (x : Wire). P first x.a x.b × P first x.b x.a) (same_Some w wire is) (all.0, all.1) in
    subst (λ (d : ℕ). P d v u) (omega arith) (⊎_elim
    (λ (forth : (wire.a ≡ v) × (wire.b ≡ u)). subst (λ (y : ℕ). P first y u) forth.0
    (subst (λ (y : ℕ). P first wire.a y) forth.1 own.0))
    (λ (back : (wire.a ≡ u) × (wire.b ≡ v)). subst (λ (y : ℕ). P first v y) back.0
    (subst (λ (y : ℕ). P first y wire.a) back.1 own.1))
    ends)
both_ways-at P first (w ∷ ws) all (suc e) v u wire is ends =
    subst (λ (d : ℕ). P d v u) (omega arith) (both_ways-at P (suc first) ws all.2 e v u wire is ends)

module _ (board : Board) (rests : Arcs) (far : ℕ → ℕ) where
  -- walks from x lead as far to all FPGAs that are nearer
  abbrev pub Near : (x reach : ℕ) → Type 0
  Near x reach = (f : ℕ) → (reach ≤ far f) ⊎ ((es : List ℕ) × IsArcWalk board rests x es f (far f))

module _ (board : Board) (rests : Arcs) (far : ℕ
    → ℕ) (gentle : BothWays (λ e v u. far u ≤ far v + rests e v u) 0 board.wires) where
  far-le : (a : ℕ) (es : List ℕ) (b total : ℕ) → IsArcWalk board rests a es b total → far b ≤ far a + total
  far-le a [] b total walk = omega (arith, ap far walk.0)
  far-le a (e ∷ es) b total walk =
      let links : Links board e a walk.0 = walk.1 in
      let same : 0 + e ≡ e = omega arith in
      let here = subst (λ (d : ℕ). far walk.0 ≤ far a + rests d a walk.0) same
      (both_ways-at (λ d v u. far u ≤ far v + rests d v u) 0 board.wires gentle e a walk.0 links.wire links.is
      links.ends) in
      omega (arith, walk.2.2, here, far-le walk.0 es b walk.2.0 walk.2.1)

  -- an FPGA reaches one of those that are live, none of which is nearer
  pub one-grows : (x root : ℕ) (more : List ℕ) (reach rest nearest : ℕ) → far x ≡ 0
      → Contains (root ∷ more) nearest → (es : List ℕ) × IsArcWalk board rests x es nearest reach →
      Each (λ f. reach ≤ far f) (root ∷ more) → Near board rests far x reach →
      GrowOver board root more (worn rests (λ f. reach - far f)) rest
      → GrowOver board root (x ∷ more) rests (reach + rest)
  one-grows x root more reach rest nearest own listed way live ways grows = (
    reach,
    record {
      nearest = nearest;
      listed = listed;
      way = way;
      least = λ f es total in_live walk. omega (
        arith,
        own,
        far-le x es f total walk,
        each-at (λ g. reach ≤ far g) (root ∷ more) live f in_live,
      );
    },
    (
      (λ f. reach - far f),
      λ f. record {
        enough = λ es total walk. omega (arith, own, far-le x es f total walk);
        exact = high f (ways f);
      },
      (rest, grows, refl),
    ),
  )
    where
      high : (f : ℕ) → (reach ≤ far f) ⊎ ((es : List ℕ) × IsArcWalk board rests x es f (far f)) →
          (reach - far f ≡ 0) ⊎ ((es : List ℕ) × ((total : ℕ) × IsArcWalk board rests x es f total
          × ((reach - far f) + total ≡ reach)))
      high f (inl far_off) = inl (omega (arith, far_off))
      high f (inr walk) = ⊎_elim
          (λ (less : far f < reach). inr (walk.0, (far f, walk.1, omega (arith, less))))
          (λ (not : reach ≤ far f). inl (omega (arith, not)))
          (cases_lt (far f) reach)
