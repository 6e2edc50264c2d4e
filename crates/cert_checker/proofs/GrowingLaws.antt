-- How FPGAs grow, one after another.
use Rattle.std.proofs.Common.{◌≡◌, ◌≢◌, ℕ, zero, suc, ◌+◌, ◌^◌, ◌<◌, ◌≤◌, ◌⊎◌, Bool, true, false, cond, Option, Some, None, List, [], ◌∷◌, length, drop, get_or, set, get_or-set_same, get_or-set_other, refl, sym, ap, ◌∙◌, subst, inl, inr, ⊎_elim, arith}
use Rattle.std.specs.Prelude.{AllPairs, Contains, ◌↔◌, slice_index, nat_lt, unwrap_or, IfSome, IfNone}
use Rattle.std.proofs.lemmas.Bool.{cases_eq, cases_lt, false≢true}
use Rattle.std.proofs.lemmas.List.{get_or_past, get_or_default, get_or-drop, drop_more, length-drop, length-set}
use Rattle.std.proofs.Math.ListN.{drop_of_length-le}
use Rattle.tdm_problem.specs.Board.{Board}
use Rattle.tdm_problem.specs.Walk.{IsConnectable}
use Rattle.shortest_forest.specs.Arcs.{Arcs, IsGoal, both_ways}
use Rattle.shortest_forest.specs.Labels.{Labels}
use Rattle.bound_cert.specs.Growth.{worn, GrowOver, IsGrowth, IsHeight, IsReach}
use Rattle.bound_cert.proofs.OneGrowth.{Agree, walk-agree, agree-back}
use Rattle.cert_checker.specs.Growing.{arcs_of, AreGoals, IsWorn, IsGrowing, ReachesNone}

module _ (board : Board) where
  -- FPGAs grow alike where the rests are the same along wires
  grow-agree : (root : ℕ) (growing : List ℕ) (rests other : Arcs) → Agree board rests other → (growth : ℕ)
      → GrowOver board root growing rests growth → GrowOver board root growing other growth
  grow-agree root [] rests other agree growth none = none
  grow-agree root (x ∷ more) rests other agree growth (reach, is, (heights, are, (rest, grows, sum))) =
      let back = agree-back board rests other agree in (
        reach,
        record {
          nearest = is.nearest;
          listed = is.listed;
          way = (is.way.0, walk-agree board rests other agree x is.way.0 is.nearest reach is.way.1);
          least = λ f es total there walk. is.least f es total there
              (walk-agree board other rests back x es f total walk);
        },
        (
          heights,
          λ f. record {
            enough = λ es total walk. (are f).enough es total
                (walk-agree board other rests back x es f total walk);
            exact = ⊎_elim (λ low. inl low) (λ near. inr (
              near.0,
              (near.1.0, walk-agree board rests other agree x near.0 f near.1.0 near.1.1, near.1.2),
            ))
                (are f).exact;
          },
          (
            rest,
            grow-agree root more (worn rests heights) (worn other heights) (λ e v u links. omega (
              arith,
              agree e v u links,
            )) rest grows,
            sum,
          ),
        ),
      )

  -- one FPGA grew, and others are to grow over what it left
  pub grow-first : (root x : ℕ) (more : List ℕ) (rests other : Arcs) (heights : ℕ → ℕ) (reach rest : ℕ)
      → IsReach board rests x (root ∷ more) reach → ((f : ℕ) → IsHeight board rests x reach f (heights f))
      → IsWorn board heights rests other ⊎ (more ≡ []) → GrowOver board root more other rest
      → GrowOver board root (x ∷ more) rests (reach + rest)
  grow-first root x more rests other heights reach rest reached are wore grows =
      (reach, reached, (heights, are, (rest, after wore, refl)))
    where
      after : IsWorn board heights rests other ⊎ (more ≡ [])
          → GrowOver board root more (worn rests heights) rest
      after (inl worn') = grow-agree root more other (worn rests heights) worn' rest grows
      after (inr none) =
          let last : GrowOver board root [] other rest =
          subst (λ (xs : List ℕ). GrowOver board root xs other rest) none grows in
          subst (λ (xs : List ℕ). GrowOver board root xs (worn rests heights) rest) (sym none) last

-- a goal less
goals-less : (live : List ℕ) (x : ℕ) (goals : List Bool)
    → ((f : ℕ) → IsGoal goals f ↔ ((x ≡ f) ⊎ Contains live f)) → ¬ Contains live x
    → AreGoals live (set goals x false)
goals-less live x goals are absent f = go (cases_eq f x)
  where
    off : get_or (set goals x false) x false ≡ false
    off = ⊎_elim
        (λ (below : x < length goals). get_or-set_same goals x false false below)
        (λ (past : length goals ≤ x). get_or_past (set goals x false) x false (omega (
          arith,
          past,
          length-set goals x false,
        )))
        (cases_lt x (length goals))

    go : (f ≡ x) ⊎ (f ≡ x → ⊥) → IsGoal (set goals x false) f ↔ Contains live f
    go (inl same') = (
      λ on. absurd (false≢true (sym off ∙ ap (λ (k : ℕ). get_or (set goals x false) k false) (sym same')
          ∙ on)),
      λ there. absurd (absent (subst (λ (k : ℕ). Contains live k) same' there)),
    )
    go (inr other) =
        let kept : get_or (set goals x false) f false ≡ get_or goals f false =
        get_or-set_other goals x f false false other in (
          λ on. ⊎_elim (λ (even : x ≡ f). absurd (other (sym even))) (λ (there : Contains live f). there)
              ((are f).0 (sym kept ∙ on)),
          λ there. kept ∙ (are f).1 (inr there),
        )

-- the elements of a list with one that is second
second-cases : (root x : ℕ) (more : List ℕ) (f : ℕ) → Contains (root ∷ x ∷ more) f → (x ≡ f)
    ⊎ Contains (root ∷ more) f
second-cases root x more f (zero, inside, is) = inr (0, omega arith, is)
second-cases root x more f (suc zero, inside, is) = inl is
second-cases root x more f (suc (suc k), inside, is) = inr (suc k, omega (arith, inside), is)

second-back : (root x : ℕ) (more : List ℕ) (f : ℕ) → (x ≡ f) ⊎ Contains (root ∷ more) f
    → Contains (root ∷ x ∷ more) f
second-back root x more f (inl is) = (1, omega arith, is)
second-back root x more f (inr (zero, inside, is)) = (0, omega arith, is)
second-back root x more f (inr (suc k, inside, is)) = (suc (suc k), omega (arith, inside), is)

module _ (root : ℕ) (growing : List ℕ) (i : ℕ) (below : i < length growing) where
  abbrev x-of : ℕ
  x-of = get_or growing i 0

  -- what grows now is not among what is to grow
  absent : AllPairs (λ x y. x ≢ y) (root ∷ growing) → ¬ Contains (root ∷ drop (i + 1) growing) x-of
  absent distinct (zero, inside, is) = distinct 0 (suc i) 0 (omega arith) (omega (arith, below)) is
  absent distinct (suc k, inside, is) =
      let place : get_or (drop (i + 1) growing) k x-of ≡ get_or growing ((i + 1) + k) x-of =
      get_or-drop (i + 1) growing k x-of in
      let later : suc ((i + 1) + k) < length (root ∷ growing) =
      omega (arith, inside, length-drop (i + 1) growing) in
      distinct (suc i) (suc ((i + 1) + k)) x-of (omega arith) later (get_or_default growing i x-of 0 below
      ∙ sym is ∙ place)

  pub goals-after : (goals new : List Bool) → AllPairs (λ x y. x ≢ y) (root ∷ growing)
      → AreGoals (root ∷ drop i growing) goals → new ≡ set goals x-of false
      → AreGoals (root ∷ drop (i + 1) growing) new
  goals-after goals new distinct are is =
      let unfolded : drop i growing ≡ x-of ∷ drop (i + 1) growing = drop_more growing i 0 below in
      let before : AreGoals (root ∷ x-of ∷ drop (i + 1) growing) goals =
      subst (λ (xs : List ℕ). AreGoals (root ∷ xs) goals) unfolded are in
      subst (λ (gs : List Bool). AreGoals (root ∷ drop (i + 1) growing) gs) (sym is)
      (goals-less (root ∷ drop (i + 1) growing) x-of goals
      (λ f. (
        λ on. second-cases root x-of (drop (i + 1) growing) f ((before f).0 on),
        λ there. (before f).1 (second-back root x-of (drop (i + 1) growing) f there),
      ))
      (absent distinct))

  pub IsGrowing-more : (board : Board) (start rests other : Arcs) (heights : ℕ → ℕ) (goals new : List Bool)
      (growth reach : ℕ) → IsGrowing board root growing start i growth rests goals
      → IsReach board rests x-of (root ∷ drop (i + 1) growing) reach
      → ((f : ℕ) → IsHeight board rests x-of reach f (heights f)) → AreGoals (root ∷ drop (i + 1) growing) new
      → reach < 2 ^ 64 → (i + 1 < length growing → IsWorn board heights rests other)
      → IsGrowing board root growing start (i + 1) (growth + reach) other new
  IsGrowing-more board start rests other heights goals new growth reach before reached high are small wore =
      record {
        goals_are = are;
        follows = λ rest grows.
            let unfolded : drop i growing ≡ x-of ∷ drop (i + 1) growing = drop_more growing i 0 below in
            let first = grow-first board root x-of (drop (i + 1) growing) rests other heights reach rest
            reached high wears grows in
            let sum : growth + (reach + rest) ≡ (growth + reach) + rest = omega arith in
            subst (λ (g : ℕ). GrowOver board root growing start g) sum
            (before.follows (reach + rest) (subst (λ (xs : List ℕ). GrowOver board root xs rests (reach + rest))
            (sym unfolded) first));
        small = omega (arith, before.small, small);
      }
    where
      wears : IsWorn board heights rests other ⊎ (drop (i + 1) growing ≡ [])
      wears = ⊎_elim
          (λ (less : i + 1 < length growing). inl (wore less))
          (λ (past : length growing ≤ i + 1). inr (drop_of_length-le growing past))
          (cases_lt (i + 1) (length growing))

  -- where no wires lead on, the FPGAs are not joined
  pub not-joined : (board : Board) (s : Labels) → ReachesNone board x-of s
      → AreGoals (root ∷ drop (i + 1) growing) s.goals → ¬ IsConnectable board (root ∷ growing)
  not-joined board s none are joins =
      let walk = joins x-of root (suc i, omega (arith, below), get_or_default growing i x-of 0 below) (
        0,
        omega arith,
        refl,
      ) in
      none root walk.0 ((are root).1 (0, omega arith, refl)) walk.1

-- once the first grew
pub IsGrowing-first : (board : Board) (root first : ℕ) (later : List ℕ) (rests other : Arcs) (heights : ℕ → ℕ)
    (goals : List Bool) (reach : ℕ) → IsReach board rests first (root ∷ later) reach
    → ((f : ℕ) → IsHeight board rests first reach f (heights f)) → AreGoals (root ∷ later) goals
    → reach < 2 ^ 64 → IsWorn board heights rests other
    → IsGrowing board root (first ∷ later) rests 1 reach other goals
IsGrowing-first board root first later rests other heights goals reach reached high are small wore = record {
  goals_are = are;
  follows = λ rest grows.
      grow-first board root first later rests other heights reach rest reached high (inl wore) grows;
  small = omega (arith, small);
}

-- once nothing is to grow
pub IsGrowing-whole : (board : Board) (root : ℕ) (growing : List ℕ) (start rests : Arcs) (i growth : ℕ)
    (goals : List Bool) → IsGrowing board root growing start i growth rests goals → length growing ≤ i
    → GrowOver board root growing start growth
IsGrowing-whole board root growing start rests i growth goals grows past =
    let none : GrowOver board root [] rests 0 = refl in
    let last = grows.follows 0 (subst (λ (xs : List ℕ). GrowOver board root xs rests 0)
    (sym (drop_of_length-le growing past)) none) in
    let sum : growth + 0 ≡ growth = omega arith in
    subst (λ (g : ℕ). GrowOver board root growing start g) sum last

-- goals are among the FPGAs
pub goals-among : (root : ℕ) (growing : List ℕ) (i : ℕ) (goals : List Bool)
    → AreGoals (root ∷ drop i growing) goals → (f : ℕ) → IsGoal goals f → Contains (root ∷ growing) f
goals-among root growing i goals are f on = go ((are f).0 on)
  where
    go : Contains (root ∷ drop i growing) f → Contains (root ∷ growing) f
    go (zero, inside, is) = (0, omega arith, is)
    go (suc k, inside, is) = (
      suc (i + k),
      omega (arith, inside, length-drop i growing),
      sym (get_or-drop i growing k f) ∙ is,
    )

-- the lengths are the same both ways
even-arcs : (board : Board) (lengths : List ℕ)
    → Agree board (arcs_of lengths lengths) (both_ways (slice_index lengths))
even-arcs board lengths e from to links = go (nat_lt from to)
  where
    go : (b : Bool) → cond b (slice_index lengths e) (slice_index lengths e) ≡ slice_index lengths e
    go true = refl
    go false = refl

-- what grew over whole lengths is the growth
pub growth-ok : (board : Board) (lengths : List ℕ) (root : ℕ) (growing : List ℕ) (growth : ℕ)
    → GrowOver board root growing (arcs_of lengths lengths) growth
    → IsGrowth board (slice_index lengths) (root ∷ growing) growth
growth-ok board lengths root growing growth grows =
    inl (grow-agree board root growing (arcs_of lengths lengths) (both_ways (slice_index lengths))
    (even-arcs board lengths) growth grows)

-- so is what grew as far as wires join the FPGAs
pub grown-ok : (board : Board) (lengths up down : List ℕ) (root : ℕ) (growing : List ℕ) → up ≡ lengths
    → down ≡ lengths → (found : Option ℕ) → IfSome found (GrowOver board root growing (arcs_of up down))
    → IfNone found (¬ IsConnectable board (root ∷ growing))
    → IsGrowth board (slice_index lengths) (root ∷ growing) (unwrap_or found 0)
grown-ok board lengths up down root growing is_up is_down None grows apart = inr (refl, apart)
grown-ok board lengths up down root growing is_up is_down (Some growth) grows apart =
    growth-ok board lengths root growing growth
    (subst (λ (us : List ℕ). GrowOver board root growing (arcs_of us lengths) growth) is_up
    (subst (λ (ds : List ℕ). GrowOver board root growing (arcs_of up ds) growth) is_down grows))

-- where one alone grows, its reach is all
pub alone-ok : (board : Board) (lengths : List ℕ) (root first : ℕ) (later : List ℕ) (heights : ℕ → ℕ)
    (reach : ℕ) → later ≡ [] → IsReach board (arcs_of lengths lengths) first (root ∷ later) reach
    → ((f : ℕ) → IsHeight board (arcs_of lengths lengths) first reach f (heights f))
    → IsGrowth board (slice_index lengths) (root ∷ first ∷ later) reach
alone-ok board lengths root first later heights reach none reached are =
    let rests = arcs_of lengths lengths in
    let nothing : GrowOver board root [] rests 0 = refl in
    let last : GrowOver board root later rests 0 =
    subst (λ (xs : List ℕ). GrowOver board root xs rests 0) (sym none) nothing in
    let grows = grow-first board root first later rests rests heights reach 0 reached are (inr none) last in
    let sum : reach + 0 ≡ reach = omega arith in
    growth-ok board lengths root (first ∷ later) reach
    (subst (λ (g : ℕ). GrowOver board root (first ∷ later) rests g) sum grows)
