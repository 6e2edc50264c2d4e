-- Ways back to a source: there is one from each FPGA, it is short, and it is as long as labels say, at most.
use Rattle.std.proofs.Common.{◌≡◌, ◌≢◌, ℕ, ◌+◌, ◌<◌, ◌≤◌, ◌⊎◌, Bool, true, false, List, [], ◌∷◌, ◌++◌, Some, None, length, refl, sym, ap, ◌∙◌, subst, inl, inr, arith, eqb}
use Rattle.std.specs.List.{list_any, IsDistinct, AllByRecursion}
use Rattle.std.specs.Prelude.{◌||◌, reverse}
use Rattle.std.proofs.lemmas.Bool.{cases_eq, cases_Bool, ne_eqb, false≢true}
use Rattle.std.proofs.lemmas.List.{append_assoc, append-nil, length-append}
use Rattle.std.proofs.lemmas.List.Sums.{sum_by-cons}
use Rattle.std.proofs.lemmas.List.Sorted.{sum_by-IsPermutation, IsPermutation-reverse}
use Rattle.std.proofs.lemmas.Map.Keys.{IsDistinct-from_apart, IsDistinct-cons}
use Rattle.std.proofs.lemmas.Map.Steps.{length-le_from_distinct_below}
use Rattle.tdm_problem.specs.Board.{Board}
use Rattle.tdm_problem.specs.Walk.{Links, IsWalk, AnyWire}
use Rattle.tdm_problem.specs.Distance.{length_of}
use Rattle.tdm_problem.proofs.Walks.{AnyWire-from_links}
use Rattle.shortest_forest.specs.Arcs.{both_ways, IsArcWalk}
use Rattle.shortest_forest.specs.Labels.{Labels, label_at, wire_in, IsAtLabel, IsSource, IsWayBack, IsLabelled}
use Rattle.shortest_forest.proofs.BaselineLaws.{other-end}
use Rattle.shortest_forest.proofs.BreadthFirstLaws.{some_same}
use Rattle.shortest_forest.proofs.UnderWay.{distance_unique, wire_unique, not_source, label_below}

-- a walk of wires that are as long in both directions
pub arc_walk-from_walk : (board : Board) (l : ℕ → ℕ) (a : ℕ) (es : List ℕ) (b : ℕ)
    → IsWalk board (AnyWire board) a es b → IsArcWalk board (both_ways l) a es b (length_of l es)
arc_walk-from_walk board l a [] b walk = (walk, refl)
arc_walk-from_walk board l a (e ∷ es) b walk = (
  walk.1.0,
  walk.1.1,
  (
    length_of l es,
    arc_walk-from_walk board l walk.1.0 es b walk.1.2,
    sum_by-cons l e es,
  ),
)

pub arc_walk-to_walk : (board : Board) (l : ℕ → ℕ) (a : ℕ) (es : List ℕ) (b total : ℕ)
    → IsArcWalk board (both_ways l) a es b total → IsWalk board (AnyWire board) a es b
    × (total ≡ length_of l es)
arc_walk-to_walk board l a [] b total walk = (walk.0, walk.1)
arc_walk-to_walk board l a (e ∷ es) b total walk =
    let rest = arc_walk-to_walk board l walk.0 es b walk.2.0 walk.2.1 in
    let sum : total ≡ length_of l (e ∷ es) = omega (arith, walk.2.2, rest.1, sum_by-cons l e es) in
    ((AnyWire-from_links board e a walk.0 walk.1, (walk.0, walk.1, rest.0)), sum)

-- wires are as long back as forth
pub length-reversed : (l : ℕ → ℕ) (es : List ℕ) → length_of l (reverse es) ≡ length_of l es
length-reversed l es = sum_by-IsPermutation l es (reverse es) (IsPermutation-reverse es)

-- where none of the numbers is f, each is another
or_left : (a b : Bool) → (a || b) ≡ false → a ≡ false
or_left true b h = h
or_left false b h = refl

or_right : (a b : Bool) → (a || b) ≡ false → b ≡ false
or_right true b h = absurd (false≢true (sym h))
or_right false b h = h

none_of : (f : ℕ) (xs : List ℕ) → list_any (eqb f) xs ≡ false → AllByRecursion (λ y. eqb f y ≡ false) xs
none_of f [] h = tt
none_of f (x ∷ xs) h = (
  or_left (eqb f x) (list_any (eqb f) xs) h,
  none_of f xs (or_right (eqb f x) (list_any (eqb f) xs) h),
)

module _ (board : Board) (s : Labels) where
  -- there is one way back
  pub way_back-unique : (f : ℕ) (es : List ℕ) (source : ℕ) (fs : List ℕ) (end : ℕ)
      → IsWayBack board s f es source → IsWayBack board s f fs end → es ≡ fs
  way_back-unique f [] source [] end p q = refl
  way_back-unique f [] source (g ∷ fs) end p q = not_source s f 0 q.0 g p.1 q.1
  way_back-unique f (e ∷ es) source [] end p q = not_source s f 0 p.0 e q.1 p.1
  way_back-unique f (e ∷ es) source (g ∷ fs) end p q =
      let wires : e ≡ g = some_same e g (wire_unique s f p.0 q.0 (Some e) (Some g) p.1 q.1) in
      let links : Links board e f q.2.0 = subst (λ (n : ℕ). Links board n f q.2.0) (sym wires) q.2.1 in
      let ends : p.2.0 ≡ q.2.0 = other-end board e f p.2.0 q.2.0 p.2.1 links in
      let rest : IsWayBack board s q.2.0 es source =
      subst (λ (n : ℕ). IsWayBack board s n es source) ends p.2.2 in
      let tails : es ≡ fs = way_back-unique q.2.0 es source fs end rest q.2.2 in
      ap (λ (n : ℕ). n ∷ es) wires ∙ ap (λ (xs : List ℕ). g ∷ xs) tails

  -- it ends at a source
  pub way_back-source : (f : ℕ) (es : List ℕ) (source : ℕ) → IsWayBack board s f es source → IsSource s source
  way_back-source f [] source back = subst (λ (n : ℕ). IsSource s n) back.0 back.1
  way_back-source f (e ∷ es) source back = way_back-source back.2.0 es source back.2.2

  -- it begins at a label
  pub way_back-label : (f : ℕ) (es : List ℕ) (source : ℕ) → IsWayBack board s f es source
      → (d : ℕ) × IsAtLabel s f d
  way_back-label f [] source back = (0, (None, back.1))
  way_back-label f (e ∷ es) source back = (back.0, (Some e, back.1))

  -- the FPGAs of a way
  abbrev visited : (f : ℕ) (es : List ℕ) (source : ℕ) → IsWayBack board s f es source → List ℕ
  visited f [] source back = f ∷ []
  visited f (e ∷ es) source back = f ∷ visited back.2.0 es source back.2.2

  length-visited : (f : ℕ) (es : List ℕ) (source : ℕ) (back : IsWayBack board s f es source)
      → length (visited f es source back) ≡ length es + 1
  length-visited f [] source back = refl
  length-visited f (e ∷ es) source back = omega (arith, length-visited back.2.0 es source back.2.2)

  -- from each of them a way back is no longer
  visited_back : (f : ℕ) (es : List ℕ) (source : ℕ) (back : IsWayBack board s f es source) (q : ℕ)
      → list_any (eqb q) (visited f es source back) ≡ true → (fs : List ℕ)
      × ((end : ℕ) × IsWayBack board s q fs end × (length fs ≤ length es))
  visited_back f [] source back q there = go (cases_eq q f)
    where
      go : (q ≡ f) ⊎ (q ≢ f) → (fs : List ℕ) × ((end : ℕ) × IsWayBack board s q fs end × (length fs ≤ 0))
      go (inl same) = (
        [],
        (
          source,
          subst (λ (n : ℕ). IsWayBack board s n [] source) (sym same) back,
          omega arith,
        ),
      )
      go (inr other) =
          let none : list_any (eqb q) (f ∷ []) ≡ false = rw (ne_eqb q f other) refl in
          absurd (false≢true (sym none ∙ there))
  visited_back f (e ∷ es) source back q there = go (λ h. visited_back back.2.0 es source back.2.2 q h)
      (cases_eq q f)
    where
      go : (list_any (eqb q) (visited back.2.0 es source back.2.2) ≡ true → (fs : List ℕ)
          × ((end : ℕ) × IsWayBack board s q fs end × (length fs ≤ length es))) → (q ≡ f) ⊎ (q ≢ f)
          → (fs : List ℕ) × ((end : ℕ) × IsWayBack board s q fs end × (length fs ≤ length (e ∷ es)))
      go later (inl same) = (
        e ∷ es,
        (
          source,
          subst (λ (n : ℕ). IsWayBack board s n (e ∷ es) source) (sym same) back,
          omega arith,
        ),
      )
      go later (inr other) =
          let rest : list_any (eqb q) (visited back.2.0 es source back.2.2) ≡ true =
          sym (ap (λ t. t || list_any (eqb q) (visited back.2.0 es source back.2.2)) (ne_eqb q f other))
          ∙ there in
          let found = later rest in
          (found.0, (found.1.0, found.1.1, omega (arith, found.1.2)))

  -- none of them is met twice
  visited_once : (f : ℕ) (es : List ℕ) (source : ℕ) (back : IsWayBack board s f es source)
      → IsDistinct eqb (visited f es source back)
  visited_once f [] source back =
      IsDistinct-from_apart eqb (f ∷ []) (λ i j d before within. absurd (omega (arith, before, within)))
  visited_once f (e ∷ es) source back =
      IsDistinct-cons eqb f (visited back.2.0 es source back.2.2)
      (none_of f (visited back.2.0 es source back.2.2)
      (not_later (cases_Bool (list_any (eqb f) (visited back.2.0 es source back.2.2)))))
      (visited_once back.2.0 es source back.2.2)
    where
      not_later : (list_any (eqb f) (visited back.2.0 es source back.2.2) ≡ true)
          ⊎ (list_any (eqb f) (visited back.2.0 es source back.2.2) ≡ false)
          → list_any (eqb f) (visited back.2.0 es source back.2.2) ≡ false
      not_later (inl there) =
          let again = visited_back back.2.0 es source back.2.2 f there in
          let same : e ∷ es ≡ again.0 = way_back-unique f (e ∷ es) source again.0 again.1.0 back again.1.1 in
          absurd (omega (arith, ap length same, again.1.2))
      not_later (inr none) = none

  -- a way back is shorter than the board has FPGAs
  pub way_back-short : (f : ℕ) (es : List ℕ) (source : ℕ) → IsWayBack board s f es source
      → length es < length s.labels
  way_back-short f es source back =
      let all = length-le_from_distinct_below (visited f es source back) (length s.labels)
      (visited_once f es source back) (λ q there. below q (visited_back f es source back q there)) in
      omega (arith, all, length-visited f es source back)
    where
      below : (q : ℕ) → (fs : List ℕ) × ((end : ℕ) × IsWayBack board s q fs end × (length fs ≤ length es))
          → q < length s.labels
      below q found = let at = way_back-label q found.0 found.1.0 found.1.1 in label_below s q at.0 at.1

-- a way back is a walk, and no longer than the label says
pub way_back-walk : (board : Board) (l : ℕ → ℕ) (s : Labels) → IsLabelled board (both_ways l) s
    → (f d : ℕ) (es : List ℕ) (source : ℕ) → IsAtLabel s f d → IsWayBack board s f es source
    → IsWalk board (AnyWire board) f es source × (length_of l es ≤ d)
way_back-walk board l s was f d [] source at back = (back.0, omega arith)
way_back-walk board l s was f d (e ∷ es) source at back =
    let same : back.0 ≡ d = distance_unique s f back.0 d (Some e, back.1) at in
    let near = was.shorter f back.0 e back.2.0 back.1 back.2.1 in
    let rest = way_back-walk board l s was back.2.0 near.0 es source near.1 back.2.2 in (
      (AnyWire-from_links board e f back.2.0 back.2.1, (back.2.0, back.2.1, rest.0)),
      omega (arith, sum_by-cons l e es, rest.1, near.2, same),
    )

-- ---- following the way

-- on the way back from FPGA f, at FPGA at
pub record IsFollowing (board : Board) (s : Labels) (f at : ℕ) (old wires : List ℕ) : Type 0 where
  pub taken : List ℕ
  pub rest : List ℕ
  pub source : ℕ
  pub whole : IsWayBack board s f (taken ++ rest) source
  pub here : IsWayBack board s at rest source
  pub wires_are : wires ≡ old ++ taken

pub IsFollowing-start : (board : Board) (s : Labels) (f : ℕ) (old es : List ℕ) (source : ℕ)
    → IsWayBack board s f es source → IsFollowing board s f f old old
IsFollowing-start board s f old es source back = record {
  taken = [];
  rest = es;
  source = source;
  whole = back;
  here = back;
  wires_are = sym (append-nil old);
}

-- where a label has a wire, that leads on
pub following_wire : (board : Board) (s : Labels) (f at : ℕ) (old wires : List ℕ)
    → IsFollowing board s f at old wires → (e : ℕ) → wire_in (label_at s at) ≡ Some e
    → (u : ℕ) × Links board e at u × IsFollowing board s f u old (wires ++ e ∷ [])
following_wire board s f at old wires on e is = go on.rest refl on.here
  where
    go : (es : List ℕ) → on.rest ≡ es → IsWayBack board s at es on.source → (u : ℕ) × Links board e at u
        × IsFollowing board s f u old (wires ++ e ∷ [])
    go [] none back =
        let both : None ≡ Some e = sym (ap wire_in back.1) ∙ is in absurd (cc both)
    go (g ∷ es) some back =
        let same : g ≡ e = some_same g e (sym (ap wire_in back.1) ∙ is) in
        let P : List ℕ → Type 0 = λ xs. IsWayBack board s f xs on.source in
        let list : on.taken ++ on.rest ≡ (on.taken ++ e ∷ []) ++ es =
        ap (λ (xs : List ℕ). on.taken ++ xs) (some ∙ ap (λ (n : ℕ). n ∷ es) same)
        ∙ sym (append_assoc on.taken (e ∷ []) es) in (
          back.2.0,
          subst (λ (n : ℕ). Links board n at back.2.0) same back.2.1,
          record {
            taken = on.taken ++ e ∷ [];
            rest = es;
            source = on.source;
            whole = subst P list on.whole;
            here = back.2.2;
            wires_are = ap (λ (xs : List ℕ). xs ++ e ∷ []) on.wires_are ∙ append_assoc old on.taken (e ∷ []);
          },
        )

-- where it has none, the way is followed
pub following_end : (board : Board) (s : Labels) (f at : ℕ) (old wires : List ℕ)
    → IsFollowing board s f at old wires → wire_in (label_at s at) ≡ None → (es : List ℕ)
    × ((source : ℕ) × IsWayBack board s f es source × (wires ≡ old ++ es))
following_end board s f at old wires on is = go on.rest refl on.here
  where
    go : (es : List ℕ) → on.rest ≡ es → IsWayBack board s at es on.source → (es : List ℕ)
        × ((source : ℕ) × IsWayBack board s f es source × (wires ≡ old ++ es))
    go [] none back =
        let P : List ℕ → Type 0 = λ xs. IsWayBack board s f xs on.source in
        let list : on.taken ++ on.rest ≡ on.taken = ap (λ (xs : List ℕ). on.taken ++ xs) none
        ∙ append-nil on.taken in
        (on.taken, (on.source, subst P list on.whole, on.wires_are))
    go (g ∷ es) some back =
        let both : Some g ≡ None = sym (ap wire_in back.1) ∙ is in absurd (cc both)

-- the wires that are taken are fewer than the board has FPGAs
pub following_short : (board : Board) (s : Labels) (f at : ℕ) (old wires : List ℕ)
    → IsFollowing board s f at old wires → length wires < length old + length s.labels
following_short board s f at old wires on =
    omega (
      arith,
      way_back-short board s f (on.taken ++ on.rest) on.source on.whole,
      length-append on.taken on.rest,
      ap length on.wires_are,
      length-append old on.taken,
    )
