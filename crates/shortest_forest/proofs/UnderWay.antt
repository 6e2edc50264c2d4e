-- What a search over lengths keeps, and what it knows at its end.
use Rattle.std.proofs.Common.{◌≡◌, ◌≢◌, ℕ, zero, suc, ◌+◌, ◌<◌, ◌≤◌, ◌⊎◌, Bool, List, [], ◌∷◌, Option, Some, None, length, get_or, refl, sym, ap, ◌∙◌, subst, inl, inr, arith, Contains, get_or-set_same, get_or-set_other}
use Rattle.std.specs.Prelude.{replicate}
use Rattle.std.specs.declared.cmp.Reverse.{Reverse}
use Rattle.std.proofs.lemmas.Bool.{cases_eq, cases_lt}
use Rattle.std.proofs.lemmas.List.{length-set, get_or_past, length-replicate, get_or-replicate}
use Rattle.std.proofs.lemmas.List.Elements.{Contains-append_right, Contains-append_cases}
use Rattle.std.proofs.lemmas.List.Sorted.{Contains-permutation, IsPermutation-sym}
use Rattle.tdm_problem.specs.Board.{Board}
use Rattle.tdm_problem.specs.Walk.{Links}
use Rattle.shortest_forest.specs.declared.label.Label.{Label}
use Rattle.shortest_forest.specs.Arcs.{Arcs, IsArcWalk, IsGoal, IsLowerBound}
use Rattle.shortest_forest.specs.Labels.{Labels, label_at, distance_in, wire_in, HasLabel, IsAtLabel, IsWaiting, IsNoShorter, IsWayBack, IsLabelled, IsWaitingOrSettled, IsUnderWay, IsLowered}
use Rattle.shortest_forest.proofs.BreadthFirstLaws.{some_same}

-- ---- one label

-- an FPGA has one distance
pub distance_unique : (s : Labels) (f d near : ℕ) → IsAtLabel s f d → IsAtLabel s f near → d ≡ near
distance_unique s f d near p q = some_same d near (ap distance_in (sym p.1 ∙ q.1))

-- and one wire
pub wire_unique : (s : Labels) (f d near : ℕ) (v w : Option ℕ) → HasLabel s f d v → HasLabel s f near w
    → v ≡ w
wire_unique s f d near v w p q = ap wire_in (sym p ∙ q)

pub not_source : {A : Type 0} (s : Labels) (f d near e : ℕ) → HasLabel s f d None → HasLabel s f near (Some e)
    → A
not_source s f d near e p q = let both : None ≡ Some e = wire_unique s f d near None (Some e) p q in
    absurd (cc both)

pub unlabelled : {A : Type 0} (s : Labels) (f d : ℕ) → label_at s f ≡ None → IsAtLabel s f d → A
unlabelled s f d none at = let both : None ≡ Some d = ap distance_in (sym none ∙ at.1) in absurd (cc both)

-- what has a label is an FPGA
pub label_below : (s : Labels) (f d : ℕ) → IsAtLabel s f d → f < length s.labels
label_below s f d at = go (cases_lt f (length s.labels))
  where
    go : (f < length s.labels) ⊎ (length s.labels ≤ f) → f < length s.labels
    go (inl below) = below
    go (inr past) = unlabelled s f d (get_or_past s.labels f None past) at

-- the only element of a list
pub contains_one : {X : Type 0} (y x : X) → Contains (y ∷ []) x → y ≡ x
contains_one y x (zero, below, is) = is
contains_one y x (suc k, below, is) = absurd (omega (arith, below))

-- ---- a label falls

module _ (v d : ℕ) (wire : Option ℕ) (key : ℕ) (old new : Labels) (h : IsLowered v d wire key old new)
    (below : v < length old.labels) (less : (near : ℕ) → IsAtLabel old v near → d ≤ near) where
  pub lowered_there : HasLabel new v d wire
  lowered_there = ap (λ xs. get_or xs v None) h.labels
      ∙ get_or-set_same old.labels v (Some (record { distance = d; wire = wire })) None below

  pub lowered_other : (x : ℕ) → x ≢ v → label_at new x ≡ label_at old x
  lowered_other x other = ap (λ xs. get_or xs x None) h.labels
      ∙ get_or-set_other old.labels v x (Some (record { distance = d; wire = wire })) None other

  pub lowered_falls : (x near : ℕ) → IsAtLabel old x near → (nearer : ℕ) × IsAtLabel new x nearer
      × (nearer ≤ near)
  lowered_falls x near at = go (cases_eq x v)
    where
      go : (x ≡ v) ⊎ (x ≢ v) → (nearer : ℕ) × IsAtLabel new x nearer × (nearer ≤ near)
      go (inl same) = (
        d,
        (wire, subst (λ (n : ℕ). HasLabel new n d wire) (sym same) lowered_there),
        less near (subst (λ (n : ℕ). IsAtLabel old n near) same at),
      )
      go (inr other) = (near, (at.0, lowered_other x other ∙ at.1), omega arith)

  pub lowered_no_shorter : (bound : ℕ → ℕ) (cap x distance : ℕ) → IsNoShorter old bound cap x distance
      → IsNoShorter new bound cap x distance
  lowered_no_shorter bound cap x distance (inl near) =
      let nearer = lowered_falls x near.0 near.1 in
      inl (nearer.0, nearer.1, omega (arith, near.2, nearer.2))
  lowered_no_shorter bound cap x distance (inr far) = inr far

  pub lowered_waits : IsWaiting new v key
  lowered_waits =
      let entry : Reverse (ℕ × ℕ) = record { 0 = (key, v) } in
      Contains-permutation (entry ∷ old.queue) new.queue entry h.queue (0, omega arith, refl)

  pub lowered_still_waits : (x distance : ℕ) → IsWaiting old x distance → IsWaiting new x distance
  lowered_still_waits x distance waits =
      let entry : Reverse (ℕ × ℕ) = record { 0 = (key, v) } in
      let this : Reverse (ℕ × ℕ) = record { 0 = (distance, x) } in
      Contains-permutation (entry ∷ old.queue) new.queue this h.queue
      (Contains-append_right (entry ∷ []) old.queue this waits)

  pub lowered_waited : (x distance : ℕ) → IsWaiting new x distance → ((v ≡ x) × (key ≡ distance))
      ⊎ IsWaiting old x distance
  lowered_waited x distance waits =
      go (Contains-append_cases (entry ∷ []) old.queue this
      (Contains-permutation new.queue (entry ∷ old.queue) this
      (IsPermutation-sym (entry ∷ old.queue) new.queue h.queue) waits))
    where
      entry : Reverse (ℕ × ℕ)
      entry = record { 0 = (key, v) }

      this : Reverse (ℕ × ℕ)
      this = record { 0 = (distance, x) }

      go : Contains (entry ∷ []) this ⊎ IsWaiting old x distance → ((v ≡ x) × (key ≡ distance))
          ⊎ IsWaiting old x distance
      go (inl one) =
          let same = contains_one entry this one in
          inl (ap (λ (r : Reverse (ℕ × ℕ)). r.0.1) same, ap (λ (r : Reverse (ℕ × ℕ)). r.0.0) same)
      go (inr before) = inr before

  pub lowered_waits_or_settled : (board : Board) (arcs : Arcs) (bound : ℕ → ℕ) (cap x distance : ℕ)
      → IsWaitingOrSettled board arcs bound cap old x distance
      → IsWaitingOrSettled board arcs bound cap new x distance
  lowered_waits_or_settled board arcs bound cap x distance (inl waits) =
      inl (waits.0, lowered_still_waits x waits.0 waits.1, waits.2)
  lowered_waits_or_settled board arcs bound cap x distance (inr (inl far)) = inr (inl far)
  lowered_waits_or_settled board arcs bound cap x distance (inr (inr settled)) =
      inr (inr (
        λ goal. settled.0 (subst (λ (gs : List Bool). IsGoal gs x) h.goals goal),
        λ e u links. lowered_no_shorter bound cap u (distance + arcs e x u) (settled.1 e u links),
      ))

  at_or_other : (board : Board) (ways : List ℕ) (from : ℕ) → IsWayBack board new v ways from → (x : ℕ)
      → (x ≢ v → (fs : List ℕ) × ((end : ℕ) × IsWayBack board new x fs end)) → (fs : List ℕ)
      × ((end : ℕ) × IsWayBack board new x fs end)
  at_or_other board ways from way x elsewhere = go (cases_eq x v)
    where
      go : (x ≡ v) ⊎ (x ≢ v) → (fs : List ℕ) × ((end : ℕ) × IsWayBack board new x fs end)
      go (inl same) = (ways, (from, subst (λ (n : ℕ). IsWayBack board new n ways from) (sym same) way))
      go (inr other) = elsewhere other

  -- a way back still leads to a source, if there is one from v
  pub lowered_back : (board : Board) (ways : List ℕ) (from : ℕ) → IsWayBack board new v ways from
      → (x : ℕ) (es : List ℕ) (source : ℕ) → IsWayBack board old x es source → (fs : List ℕ)
      × ((end : ℕ) × IsWayBack board new x fs end)
  lowered_back board ways from way x [] source back =
      at_or_other board ways from way x (λ other. ([], (source, (back.0, lowered_other x other ∙ back.1))))
  lowered_back board ways from way x (e ∷ es) source back =
      let rest = lowered_back board ways from way back.2.0 es source back.2.2 in
      at_or_other board ways from way x (λ other. (
        e ∷ rest.0,
        (rest.1.0, (back.0, lowered_other x other ∙ back.1, (back.2.0, back.2.1, rest.1.1))),
      ))

  -- what holds of labels still does, if there is a way back from v, along which labels get no longer
  pub lowered_labelled : (board : Board) (arcs : Arcs) → d ≤ key → IsLabelled board arcs old
      → (ways : List ℕ) (from : ℕ) → IsWayBack board new v ways from → (wire ≡ None → d ≡ 0)
      → ((e u : ℕ) → wire ≡ Some e → Links board e v u → (near : ℕ) × IsAtLabel new u near
      × (near + arcs e u v ≤ d)) → IsLabelled board arcs new
  lowered_labelled board arcs above was ways from way none some = record {
    count = ap length h.labels ∙ length-set old.labels v (Some (record { distance = d; wire = wire }))
        ∙ was.count;
    marks = ap length h.goals ∙ was.marks;
    inside = λ f distance waits. inside' f distance (lowered_waited f distance waits);
    keyed = λ f k waits. keyed' f k (lowered_waited f k waits);
    back = λ f distance at. back' f distance at (cases_eq f v);
    sources = λ f distance at. sources' f distance at (cases_eq f v);
    shorter = λ f distance e u at links. shorter' f distance e u at links (cases_eq f v);
  }
    where
      inside' : (f distance : ℕ) → ((v ≡ f) × (key ≡ distance)) ⊎ IsWaiting old f distance → f < board.fpgas
      inside' f distance (inl same) = omega (arith, same.0, below, was.count)
      inside' f distance (inr waits) = was.inside f distance waits

      keyed' : (f k : ℕ) → ((v ≡ f) × (key ≡ k)) ⊎ IsWaiting old f k → (n : ℕ) × IsAtLabel new f n × (n ≤ k)
      keyed' f k (inl same) = (
        d,
        (wire, subst (λ (n : ℕ). HasLabel new n d wire) same.0 lowered_there),
        omega (arith, same.1, above),
      )
      keyed' f k (inr waits) =
          let before = was.keyed f k waits in
          let nearer = lowered_falls f before.0 before.1 in
          (nearer.0, nearer.1, omega (arith, before.2, nearer.2))

      back' : (f distance : ℕ) → IsAtLabel new f distance → (f ≡ v) ⊎ (f ≢ v) → (es : List ℕ)
          × ((source : ℕ) × IsWayBack board new f es source)
      back' f distance at (inl same) =
          (ways, (from, subst (λ (n : ℕ). IsWayBack board new n ways from) (sym same) way))
      back' f distance at (inr other) =
          let before = was.back f distance (at.0, sym (lowered_other f other) ∙ at.1) in
          lowered_back board ways from way f before.0 before.1.0 before.1.1

      sources' : (f distance : ℕ) → HasLabel new f distance None → (f ≡ v) ⊎ (f ≢ v) → distance ≡ 0
      sources' f distance at (inl same) =
          let here : HasLabel new v distance None = subst (λ (n : ℕ). HasLabel new n distance None) same at in
          let zero' : d ≡ 0 = none (wire_unique new v d distance wire None lowered_there here) in
          distance_unique new v distance d (None, here) (wire, lowered_there) ∙ zero'
      sources' f distance at (inr other) = was.sources f distance (sym (lowered_other f other) ∙ at)

      shorter' : (f distance e u : ℕ) → HasLabel new f distance (Some e) → Links board e f u
          → (f ≡ v) ⊎ (f ≢ v) → (near : ℕ) × IsAtLabel new u near × (near + arcs e u f ≤ distance)
      shorter' f distance e u at links (inl same) =
          let here : HasLabel new v distance (Some e) =
          subst (λ (n : ℕ). HasLabel new n distance (Some e)) same at in
          let near = some e u (wire_unique new v d distance wire (Some e) lowered_there here)
          (subst (λ (n : ℕ). Links board e n u) same links) in
          let equal : distance ≡ d = distance_unique new v distance d (Some e, here) (wire, lowered_there) in
          let P : ℕ → Type 0 = λ n. near.0 + arcs e u n ≤ distance in
          (near.0, near.1, subst P (sym same) (omega (arith, near.2, equal)))
      shorter' f distance e u at links (inr other) =
          let before = was.shorter f distance e u (sym (lowered_other f other) ∙ at) links in
          let nearer = lowered_falls u before.0 before.1 in
          (nearer.0, nearer.1, omega (arith, before.2, nearer.2))

-- ---- a source is added

pub IsUnderWay-source : (v : ℕ) (old new : Labels) → IsLowered v 0 None 0 old new → v < length old.labels
    → (board : Board) (arcs : Arcs) (bound : ℕ → ℕ) (cap : ℕ) → IsUnderWay board arcs bound cap old
    → IsUnderWay board arcs bound cap new
IsUnderWay-source v old new h below board arcs bound cap was = record {
  labelled = lowered_labelled v 0 None 0 old new h below less board arcs (omega arith) was.labelled [] v
      (refl, there) (λ _. refl) (λ e u none links. absurd (cc none));
  settled = λ f d at. settled' f d at (cases_eq f v);
}
  where
    less : (near : ℕ) → IsAtLabel old v near → 0 ≤ near
    less near at = omega arith

    there : HasLabel new v 0 None
    there = lowered_there v 0 None 0 old new h below less

    settled' : (f d : ℕ) → IsAtLabel new f d → (f ≡ v) ⊎ (f ≢ v)
        → IsWaitingOrSettled board arcs bound cap new f d
    settled' f d at (inl same) =
        inl (
          0,
          subst (λ (n : ℕ). IsWaiting new n 0) (sym same)
              (lowered_waits v 0 None 0 old new h below less),
          omega arith,
        )
    settled' f d at (inr other) =
        lowered_waits_or_settled v 0 None 0 old new h below less board arcs bound cap f d
        (was.settled f d (at.0, sym (lowered_other v 0 None 0 old new h below less f other) ∙ at.1))

-- ---- goals

pub IsUnderWay-goals : (old new : Labels) → new.labels ≡ old.labels → new.queue ≡ old.queue
    → length new.goals ≡ length old.goals → ((f d : ℕ) → IsAtLabel old f d → IsGoal new.goals f
    → IsGoal old.goals f) → (board : Board) (arcs : Arcs) (bound : ℕ → ℕ) (cap : ℕ)
    → IsUnderWay board arcs bound cap old → IsUnderWay board arcs bound cap new
IsUnderWay-goals old new labels queue marks goals board arcs bound cap was =
    let middle : Labels = record { labels = old.labels; goals = new.goals; queue = old.queue } in
    let P : Labels → Type 0 = λ s. IsUnderWay board arcs bound cap s in
    let before : P middle = record {
      labelled = record {
        count = was.labelled.count;
        marks = marks ∙ was.labelled.marks;
        inside = was.labelled.inside;
        keyed = was.labelled.keyed;
        back = λ f d at. was_back f d at;
        sources = was.labelled.sources;
        shorter = was.labelled.shorter;
      };
      settled = λ f d at. settled' f d at (was.settled f d at);
    } in
    subst P same before
  where
    same : record { labels = old.labels; goals = new.goals; queue = old.queue } ≡ new
    same =
        ap (λ (ls : List (Option Label)). let r : Labels = record {
          labels = ls;
          goals = new.goals;
          queue = old.queue;
        } in r) (sym labels)
        ∙ ap (λ (qs : List (Reverse (ℕ × ℕ))). let r : Labels =
        record { labels = new.labels; goals = new.goals; queue = qs } in r) (sym queue)

    back' : (f : ℕ) (es : List ℕ) (source : ℕ) → IsWayBack board old f es source
        → IsWayBack board (record { labels = old.labels; goals = new.goals; queue = old.queue }) f es source
    back' f [] source back = back
    back' f (e ∷ es) source back = (back.0, back.1, (back.2.0, back.2.1, back' back.2.0 es source back.2.2))

    was_back : (f d : ℕ) → IsAtLabel old f d → (es : List ℕ)
        × ((source : ℕ) × IsWayBack board (record {
          labels = old.labels;
          goals = new.goals;
          queue = old.queue;
        }) f es source)
    was_back f d at = let back = was.labelled.back f d at in
        (back.0, (back.1.0, back' f back.0 back.1.0 back.1.1))

    settled' : (f d : ℕ) → IsAtLabel old f d → IsWaitingOrSettled board arcs bound cap old f d
        → IsWaitingOrSettled board arcs bound cap (record {
          labels = old.labels;
          goals = new.goals;
          queue = old.queue;
        }) f d
    settled' f d at (inl waits) = inl waits
    settled' f d at (inr (inl far)) = inr (inl far)
    settled' f d at (inr (inr settled)) = inr (inr (λ goal. settled.0 (goals f d at goal), settled.1))

-- ---- caps fall and bounds rise

pub no_shorter-falls : (s : Labels) (bound bound' : ℕ → ℕ) (cap cap' v d : ℕ) → bound v ≤ bound' v
    → cap' ≤ cap → IsNoShorter s bound cap v d → IsNoShorter s bound' cap' v d
no_shorter-falls s bound bound' cap cap' v d rises falls (inl near) = inl near
no_shorter-falls s bound bound' cap cap' v d rises falls (inr far) = inr (omega (arith, far))

pub waits_or_settled-falls : (board : Board) (arcs : Arcs) (bound bound' : ℕ → ℕ) (cap cap' : ℕ) (s : Labels)
    → ((f : ℕ) → bound f ≤ bound' f) → cap' ≤ cap → (f d : ℕ) → IsWaitingOrSettled board arcs bound cap s f d
    → IsWaitingOrSettled board arcs bound' cap' s f d
waits_or_settled-falls board arcs bound bound' cap cap' s rises falls f d (inl waits) =
    inl (waits.0, waits.1, omega (arith, waits.2, rises f))
waits_or_settled-falls board arcs bound bound' cap cap' s rises falls f d (inr (inl far)) =
    inr (inl (omega (arith, far, rises f, falls)))
waits_or_settled-falls board arcs bound bound' cap cap' s rises falls f d (inr (inr settled)) =
    inr (inr (
      settled.0,
      λ e v links. no_shorter-falls s bound bound' cap cap' v (d + arcs e f v) (rises v) falls
          (settled.1 e v links),
    ))

pub IsUnderWay-falls : (board : Board) (arcs : Arcs) (bound bound' : ℕ → ℕ) (cap cap' : ℕ) (s : Labels)
    → ((f : ℕ) → bound f ≤ bound' f) → cap' ≤ cap → IsUnderWay board arcs bound cap s
    → IsUnderWay board arcs bound' cap' s
IsUnderWay-falls board arcs bound bound' cap cap' s rises falls was = record {
  labelled = was.labelled;
  settled = λ f d at.
      waits_or_settled-falls board arcs bound bound' cap cap' s rises falls f d (was.settled f d at);
}

-- ---- the end of a search

-- where all that waits is as far as a limit, no walk on to a goal is shorter than that
pub no_walk_shorter : (board : Board) (arcs : Arcs) (bound : ℕ → ℕ) (cap limit : ℕ) (s : Labels)
    → IsUnderWay board arcs bound cap s → limit ≤ cap → ((f d : ℕ) → IsWaiting s f d → limit ≤ d)
    → IsLowerBound board arcs s.goals bound → (f d : ℕ) (es : List ℕ) (g total : ℕ) → IsAtLabel s f d
    → IsGoal s.goals g → IsArcWalk board arcs f es g total → limit ≤ d + total
no_walk_shorter board arcs bound cap limit s search within waiting lower f d [] g total at goal walk =
    go (search.settled f d at)
  where
    go : IsWaitingOrSettled board arcs bound cap s f d → limit ≤ d + total
    go (inl waits) = omega (arith, waiting f waits.0 waits.1, waits.2, lower f [] g total goal walk)
    go (inr (inl far)) = omega (arith, far, within, lower f [] g total goal walk)
    go (inr (inr settled)) = absurd (settled.0 (subst (λ (n : ℕ). IsGoal s.goals n) (sym walk.0) goal))
no_walk_shorter board arcs bound cap limit s search within waiting lower f d (e ∷ es) g total at goal walk =
    go (λ near later. no_walk_shorter board arcs bound cap limit s search within waiting lower walk.0 near es
    g walk.2.0 later goal walk.2.1) (search.settled f d at)
  where
    on : ((near : ℕ) → IsAtLabel s walk.0 near → limit ≤ near + walk.2.0)
        → IsNoShorter s bound cap walk.0 (d + arcs e f walk.0) → limit ≤ d + total
    on later (inl near) = omega (arith, later near.0 near.1, near.2, walk.2.2)
    on later (inr far) = omega (arith, far, within, walk.2.2, lower walk.0 es g walk.2.0 goal walk.2.1)

    go : ((near : ℕ) → IsAtLabel s walk.0 near → limit ≤ near + walk.2.0)
        → IsWaitingOrSettled board arcs bound cap s f d → limit ≤ d + total
    go later (inl waits) = omega (
      arith,
      waiting f waits.0 waits.1,
      waits.2,
      lower f (e ∷ es) g total goal walk,
    )
    go later (inr (inl far)) = omega (arith, far, within, lower f (e ∷ es) g total goal walk)
    go later (inr (inr settled)) = on later (settled.1 e walk.0 walk.1)

-- ---- the start

pub IsUnderWay-begun : (s : Labels) (n : ℕ) → s.labels ≡ replicate n None → s.queue ≡ []
    → (board : Board) (arcs : Arcs) (bound : ℕ → ℕ) (cap : ℕ) → length s.labels ≡ board.fpgas
    → length s.goals ≡ board.fpgas → IsUnderWay board arcs bound cap s
IsUnderWay-begun s n labels queue board arcs bound cap count marks = record {
  labelled = record {
    count = count;
    marks = marks;
    inside = λ f d waits. absurd (nothing_waits f d waits);
    keyed = λ f d waits. absurd (nothing_waits f d waits);
    back = λ f d at. absurd (unlabelled' f d at);
    sources = λ f d at. absurd (unlabelled' f d (None, at));
    shorter = λ f d e u at links. absurd (unlabelled' f d (Some e, at));
  };
  settled = λ f d at. absurd (unlabelled' f d at);
}
  where
    nothing_waits : (f d : ℕ) → IsWaiting s f d → ⊥
    nothing_waits f d waits =
        let none : length s.queue ≡ 0 = ap length queue in
        omega (arith, none, waits.1)

    unlabelled' : (f d : ℕ) → IsAtLabel s f d → ⊥
    unlabelled' f d at =
        let within : f < n = omega (
          arith,
          label_below s f d at,
          ap length labels,
          length-replicate n (let x : Option Label = None in x),
        ) in
        unlabelled s f d (ap (λ xs. get_or xs f None) labels ∙ get_or-replicate n f (let x : Option Label =
        None in x) None within) at

-- then no FPGA has a label
pub begun_unlabelled : (s : Labels) (n : ℕ) → s.labels ≡ replicate n None → (f : ℕ) → label_at s f ≡ None
begun_unlabelled s n labels f = go (cases_lt f n)
  where
    go : (f < n) ⊎ (n ≤ f) → label_at s f ≡ None
    go (inl within) = ap (λ xs. get_or xs f None) labels ∙ get_or-replicate n f (let x : Option Label =
        None in x) None within
    go (inr past) = get_or_past s.labels f None (omega (
      arith,
      past,
      ap length labels,
      length-replicate n (let x : Option Label = None in x),
    ))
