-- How a search goes on: what is taken from the queue, and labels that fall along the arcs from one FPGA.
use Rattle.std.proofs.Common.{◌≡◌, ◌≢◌, ℕ, ◌+◌, ◌-◌, ◌^◌, ◌<◌, ◌≤◌, ◌⊎◌, Bool, List, [], ◌∷◌, Option, Some, None, length, get_or, set, refl, sym, ap, ◌∙◌, subst, inl, inr, ⊎_elim, arith, Contains}
use Rattle.std.specs.Prelude.{◌↔◌, sum_by}
use Rattle.std.specs.declared.cmp.Reverse.{Reverse}
use Rattle.std.proofs.lemmas.Bool.{cases_eq}
use Rattle.std.proofs.lemmas.List.{length-set, get_or_default}
use Rattle.std.proofs.lemmas.List.Elements.{Contains-append_cases, Contains-append_right}
use Rattle.std.proofs.lemmas.List.Sorted.{Contains-permutation, IsPermutation-sym, sum_by_pushed}
use Rattle.std.proofs.lemmas.List.Sums.{sum_by-set}
use Rattle.tdm_problem.specs.Board.{Board}
use Rattle.tdm_problem.specs.Walk.{Links}
use Rattle.tdm_problem.proofs.Walks.{Links-sym}
use Rattle.board_graph.specs.declared.neighbour.Neighbour.{Neighbour}
use Rattle.board_graph.specs.Graph.{Graph, board_of}
use Rattle.board_graph.specs.Neighbours.{neighbours_of}
use Rattle.shortest_forest.specs.declared.label.Label.{Label}
use Rattle.shortest_forest.specs.Arcs.{Arcs, IsGoal}
use Rattle.shortest_forest.specs.Labels.{Labels, label_at, HasLabel, IsAtLabel, IsSource, IsWaiting, IsNoShorter, IsSettled, IsWayBack, IsLabelled, IsWaitingOrSettled, IsUnderWay, IsPassing, IsLowered, IsQueued, WaitsInTime, IsReached, IsTaken, GoesOn, label_weight, work_left}
use Rattle.shortest_forest.proofs.BaselineLaws.{other-end}
use Rattle.shortest_forest.proofs.NeighbourLaws.{neighbour-from_links}
use Rattle.shortest_forest.proofs.UnderWay.{distance_unique, not_source, contains_one, lowered_there, lowered_other, lowered_no_shorter, lowered_waits, lowered_waits_or_settled, lowered_labelled}

-- how much a key can still rise
abbrev pub key_weight : Reverse (ℕ × ℕ) → ℕ
key_weight waiting = 2 ^ 65 - waiting.0.0

-- ---- going on

pub GoesOn-refl : (s : Labels) → GoesOn s s
GoesOn-refl s = record {
  marks = record { goals = refl; count = refl };
  sources = λ f. ((λ h. h), (λ h. h));
  work = omega arith;
}

pub GoesOn-trans : (a b c : Labels) → GoesOn a b → GoesOn b c → GoesOn a c
GoesOn-trans a b c p q = record {
  marks = record { goals = q.marks.goals ∙ p.marks.goals; count = q.marks.count ∙ p.marks.count };
  sources = λ f. ((λ h. (p.sources f).0 ((q.sources f).0 h)), (λ h. (q.sources f).1 ((p.sources f).1 h)));
  work = omega (arith, p.work, q.work);
}

-- ---- what is taken from the queue

module _ (key f : ℕ) (s next : Labels) (taken : IsTaken key f s next) where
  taken_label : (x distance : ℕ) (wire : Option ℕ) → HasLabel s x distance wire
      → HasLabel next x distance wire
  taken_label x distance wire h = ap (λ ls. get_or ls x None) taken.labels ∙ h

  taken_label_before : (x distance : ℕ) (wire : Option ℕ) → HasLabel next x distance wire
      → HasLabel s x distance wire
  taken_label_before x distance wire h = ap (λ ls. get_or ls x None) (sym taken.labels) ∙ h

  taken_waits : (x distance : ℕ) → IsWaiting s x distance → ((f ≡ x) × (key ≡ distance))
      ⊎ IsWaiting next x distance
  taken_waits x distance waits =
      go (Contains-append_cases (entry ∷ []) next.queue this
      (Contains-permutation s.queue (entry ∷ next.queue) this taken.queue waits))
    where
      entry : Reverse (ℕ × ℕ)
      entry = record { 0 = (key, f) }

      this : Reverse (ℕ × ℕ)
      this = record { 0 = (distance, x) }

      go : Contains (entry ∷ []) this ⊎ IsWaiting next x distance → ((f ≡ x) × (key ≡ distance))
          ⊎ IsWaiting next x distance
      go (inl one) =
          let same = contains_one entry this one in
          inl (ap (λ (r : Reverse (ℕ × ℕ)). r.0.1) same, ap (λ (r : Reverse (ℕ × ℕ)). r.0.0) same)
      go (inr waits') = inr waits'

  taken_waited : (x distance : ℕ) → IsWaiting next x distance → IsWaiting s x distance
  taken_waited x distance waits =
      let entry : Reverse (ℕ × ℕ) = record { 0 = (key, f) } in
      let this : Reverse (ℕ × ℕ) = record { 0 = (distance, x) } in
      Contains-permutation (entry ∷ next.queue) s.queue this
      (IsPermutation-sym s.queue (entry ∷ next.queue) taken.queue)
      (Contains-append_right (entry ∷ []) next.queue this waits)

  taken_back : (board : Board) (x : ℕ) (es : List ℕ) (source : ℕ) → IsWayBack board s x es source
      → IsWayBack board next x es source
  taken_back board x [] source back = (back.0, taken_label x 0 None back.1)
  taken_back board x (e ∷ es) source back = (
    back.0,
    taken_label x back.0 (Some e) back.1,
    (back.2.0, back.2.1, taken_back board back.2.0 es source back.2.2),
  )

  taken_labelled : (board : Board) (arcs : Arcs) → IsLabelled board arcs s → IsLabelled board arcs next
  taken_labelled board arcs was = record {
    count = ap length taken.labels ∙ was.count;
    marks = ap length taken.goals ∙ was.marks;
    inside = λ x distance waits. was.inside x distance (taken_waited x distance waits);
    keyed = λ x distance waits. (let at = was.keyed x distance (taken_waited x distance waits) in
        (at.0, (at.1.0, taken_label x at.0 at.1.0 at.1.1), at.2));
    back = λ x distance at.
        (let back = was.back x distance (at.0, taken_label_before x distance at.0 at.1) in
        (back.0, (back.1.0, taken_back board x back.0 back.1.0 back.1.1)));
    sources = λ x distance at. was.sources x distance (taken_label_before x distance None at);
    shorter = λ x distance e u at links.
        (let near = was.shorter x distance e u (taken_label_before x distance (Some e) at) links in
        (near.0, (near.1.0, taken_label u near.0 near.1.0 near.1.1), near.2));
  }

  taken_settled : (board : Board) (arcs : Arcs) (bound : ℕ → ℕ) (cap x distance : ℕ)
      → IsSettled board arcs bound cap s x distance → IsSettled board arcs bound cap next x distance
  taken_settled board arcs bound cap x distance settled e v links = go (settled e v links)
    where
      go : IsNoShorter s bound cap v (distance + arcs e x v)
          → IsNoShorter next bound cap v (distance + arcs e x v)
      go (inl near) = inl (near.0, (near.1.0, taken_label v near.0 near.1.0 near.1.1), near.2)
      go (inr far) = inr far

  taken_waits_or_settled : (board : Board) (arcs : Arcs) (bound : ℕ → ℕ) (cap x distance : ℕ)
      → (f ≡ x → ¬ (key ≤ distance + bound x)) → IsWaitingOrSettled board arcs bound cap s x distance
      → IsWaitingOrSettled board arcs bound cap next x distance
  taken_waits_or_settled board arcs bound cap x distance other (inl waits) =
      go (taken_waits x waits.0 waits.1)
    where
      go : ((f ≡ x) × (key ≡ waits.0)) ⊎ IsWaiting next x waits.0
          → IsWaitingOrSettled board arcs bound cap next x distance
      go (inl same) = absurd (other same.0 (omega (arith, same.1, waits.2)))
      go (inr waits') = inl (waits.0, waits', waits.2)
  taken_waits_or_settled board arcs bound cap x distance other (inr (inl far)) = inr (inl far)
  taken_waits_or_settled board arcs bound cap x distance other (inr (inr settled)) =
      inr (inr (
        λ goal. settled.0 (subst (λ (gs : List Bool). IsGoal gs x) taken.goals goal),
        taken_settled board arcs bound cap x distance settled.1,
      ))

  -- what is taken may go where it holds what is said of FPGA f all the same
  taken_under_way : (board : Board) (arcs : Arcs) (bound : ℕ → ℕ) (cap d : ℕ)
      → IsUnderWay board arcs bound cap s → IsAtLabel s f d → (IsWaitingOrSettled board arcs bound cap s f d
      → IsWaitingOrSettled board arcs bound cap next f d) → IsUnderWay board arcs bound cap next
  taken_under_way board arcs bound cap d was at stays = record {
    labelled = taken_labelled board arcs was.labelled;
    settled = λ x distance at'. settled' x distance (at'.0, taken_label_before x distance at'.0 at'.1)
        (cases_eq f x);
  }
    where
      settled' : (x distance : ℕ) → IsAtLabel s x distance → (f ≡ x) ⊎ (f ≢ x)
          → IsWaitingOrSettled board arcs bound cap next x distance
      settled' x distance before (inl same) =
          let here : IsAtLabel s f distance = subst (λ (n : ℕ). IsAtLabel s n distance) (sym same) before in
          let equal : d ≡ distance = distance_unique s f d distance at here in
          subst (λ (n : ℕ). IsWaitingOrSettled board arcs bound cap next n distance) same
          (subst (λ (n : ℕ). IsWaitingOrSettled board arcs bound cap next f n) equal
          (stays (was.settled f d at)))
      settled' x distance before (inr other) = taken_waits_or_settled board arcs bound cap x distance
          (λ same _. other same) (was.settled x distance before)

  -- so where no walk on from there is short enough
  pub IsUnderWay-needless : (board : Board) (arcs : Arcs) (bound : ℕ → ℕ) (cap d : ℕ)
      → IsUnderWay board arcs bound cap s → IsAtLabel s f d → cap ≤ d + bound f
      → IsUnderWay board arcs bound cap next
  IsUnderWay-needless board arcs bound cap d was at far =
      taken_under_way board arcs bound cap d was at (λ _. inr (inl far))

  -- or where the key is out of date
  pub IsUnderWay-taken : (board : Board) (arcs : Arcs) (bound : ℕ → ℕ) (cap d : ℕ)
      → IsUnderWay board arcs bound cap s → IsAtLabel s f d → d + bound f < key
      → IsUnderWay board arcs bound cap next
  IsUnderWay-taken board arcs bound cap d was at late =
      taken_under_way board arcs bound cap d was at (taken_waits_or_settled board arcs bound cap f d
      (λ same early. omega (arith, late, early)))

  -- what has its label is passed
  pub IsPassing-taken : (board : Board) (arcs : Arcs) (bound : ℕ → ℕ) (cap d : ℕ)
      → IsUnderWay board arcs bound cap s → IsAtLabel s f d → ¬ IsGoal s.goals f
      → IsPassing board arcs bound cap f d next
  IsPassing-taken board arcs bound cap d was at no_goal = record {
    labelled = taken_labelled board arcs was.labelled;
    here = (at.0, taken_label f d at.0 at.1);
    no_goal = λ goal. no_goal (subst (λ (gs : List Bool). IsGoal gs f) taken.goals goal);
    others = λ x distance other at'.
        (let before : IsAtLabel s x distance = (at'.0, taken_label_before x distance at'.0 at'.1) in
        taken_waits_or_settled board arcs bound cap x distance (λ same _. other (sym same))
        (was.settled x distance before));
  }

  taken_sum : sum_by label_weight next.labels ≡ sum_by label_weight s.labels
  taken_sum = ap (sum_by label_weight) taken.labels

  taken_keys : sum_by key_weight s.queue ≡ (2 ^ 65 - key) + sum_by key_weight next.queue
  taken_keys = sum_by_pushed key_weight (record { 0 = (key, f) }) next.queue s.queue
      (IsPermutation-sym s.queue (record { 0 = (key, f) } ∷ next.queue) taken.queue)

  pub taken_work : key < 2 ^ 65 → work_left next < work_left s
  taken_work small = omega (arith, taken_keys, taken_sum, small)

  pub GoesOn-taken : key < 2 ^ 65 → GoesOn s next
  GoesOn-taken small = record {
    marks = record { goals = taken.goals; count = ap length taken.labels };
    sources = λ x. ((λ h. taken_label_before x 0 None h), (λ h. taken_label x 0 None h));
    work = omega (arith, taken_work small);
  }

  module _ (due : ℕ) (new : Labels) (queued : IsQueued f due next new) where
    queued_label : (x distance : ℕ) (wire : Option ℕ) → HasLabel next x distance wire
        → HasLabel new x distance wire
    queued_label x distance wire h = ap (λ ls. get_or ls x None) queued.labels ∙ h

    queued_label_before : (x distance : ℕ) (wire : Option ℕ) → HasLabel new x distance wire
        → HasLabel next x distance wire
    queued_label_before x distance wire h = ap (λ ls. get_or ls x None) (sym queued.labels) ∙ h

    queued_back : (board : Board) (x : ℕ) (es : List ℕ) (source : ℕ) → IsWayBack board next x es source
        → IsWayBack board new x es source
    queued_back board x [] source back = (back.0, queued_label x 0 None back.1)
    queued_back board x (e ∷ es) source back = (
      back.0,
      queued_label x back.0 (Some e) back.1,
      (back.2.0, back.2.1, queued_back board back.2.0 es source back.2.2),
    )

    queued_waits : (x k : ℕ) → IsWaiting next x k → IsWaiting new x k
    queued_waits x k waits =
        let entry : Reverse (ℕ × ℕ) = record { 0 = (due, f) } in
        let this : Reverse (ℕ × ℕ) = record { 0 = (k, x) } in
        Contains-permutation (entry ∷ next.queue) new.queue this queued.queue
        (Contains-append_right (entry ∷ []) next.queue this waits)

    queued_here : IsWaiting new f due
    queued_here =
        let entry : Reverse (ℕ × ℕ) = record { 0 = (due, f) } in
        Contains-permutation (entry ∷ next.queue) new.queue entry queued.queue (0, omega arith, refl)

    queued_waited : (x k : ℕ) → IsWaiting new x k → ((f ≡ x) × (due ≡ k)) ⊎ IsWaiting next x k
    queued_waited x k waits =
        go (Contains-append_cases (entry ∷ []) next.queue this
        (Contains-permutation new.queue (entry ∷ next.queue) this
        (IsPermutation-sym (entry ∷ next.queue) new.queue queued.queue) waits))
      where
        entry : Reverse (ℕ × ℕ)
        entry = record { 0 = (due, f) }

        this : Reverse (ℕ × ℕ)
        this = record { 0 = (k, x) }

        go : Contains (entry ∷ []) this ⊎ IsWaiting next x k → ((f ≡ x) × (due ≡ k)) ⊎ IsWaiting next x k
        go (inl one) =
            let same = contains_one entry this one in
            inl (ap (λ (r : Reverse (ℕ × ℕ)). r.0.1) same, ap (λ (r : Reverse (ℕ × ℕ)). r.0.0) same)
        go (inr waits') = inr waits'

    queued_waits_or_settled : (board : Board) (arcs : Arcs) (bound : ℕ → ℕ) (cap x distance : ℕ)
        → IsWaitingOrSettled board arcs bound cap next x distance
        → IsWaitingOrSettled board arcs bound cap new x distance
    queued_waits_or_settled board arcs bound cap x distance (inl waits) =
        inl (waits.0, queued_waits x waits.0 waits.1, waits.2)
    queued_waits_or_settled board arcs bound cap x distance (inr (inl far)) = inr (inl far)
    queued_waits_or_settled board arcs bound cap x distance (inr (inr settled)) =
        inr (inr (
          λ goal. settled.0 (subst (λ (gs : List Bool). IsGoal gs x) queued.goals goal),
          λ e v links. ⊎_elim
              (λ near. inl (near.0, (near.1.0, queued_label v near.0 near.1.0 near.1.1), near.2))
              (λ far. inr far) (settled.1 e v links),
        ))

    -- what waits with a key that is too small may wait with a greater one
    pub IsUnderWay-queued : (board : Board) (arcs : Arcs) (bound : ℕ → ℕ) (cap d : ℕ)
        → IsUnderWay board arcs bound cap s → IsAtLabel s f d → due ≡ d + bound f
        → IsUnderWay board arcs bound cap new
    IsUnderWay-queued board arcs bound cap d was at is = record {
      labelled = record {
        count = ap length queued.labels ∙ labelled.count;
        marks = ap length queued.goals ∙ labelled.marks;
        inside = λ x k waits. ⊎_elim (λ same. omega (arith, same.0, was.labelled.inside f key front))
            (λ before. labelled.inside x k before) (queued_waited x k waits);
        keyed = λ x k waits. keyed' x k (queued_waited x k waits);
        back = λ x distance at'.
            (let back = labelled.back x distance (at'.0, queued_label_before x distance at'.0 at'.1) in
            (back.0, (back.1.0, queued_back board x back.0 back.1.0 back.1.1)));
        sources = λ x distance at'. labelled.sources x distance (queued_label_before x distance None at');
        shorter = λ x distance e u at' links.
            (let near = labelled.shorter x distance e u (queued_label_before x distance (Some e) at') links in
            (near.0, (near.1.0, queued_label u near.0 near.1.0 near.1.1), near.2));
      };
      settled = λ x distance at'. settled' x distance (
        at'.0,
        taken_label_before x distance at'.0 (queued_label_before x distance at'.0 at'.1),
      )
          (cases_eq f x);
    }
      where
        labelled : IsLabelled board arcs next
        labelled = taken_labelled board arcs was.labelled

        front : IsWaiting s f key
        front =
            let entry : Reverse (ℕ × ℕ) = record { 0 = (key, f) } in
            Contains-permutation (entry ∷ next.queue) s.queue entry
            (IsPermutation-sym s.queue (entry ∷ next.queue) taken.queue) (0, omega arith, refl)

        keyed' : (x k : ℕ) → ((f ≡ x) × (due ≡ k)) ⊎ IsWaiting next x k → (n : ℕ) × IsAtLabel new x n
            × (n ≤ k)
        keyed' x k (inl same) =
            let here : IsAtLabel new f d = (at.0, queued_label f d at.0 (taken_label f d at.0 at.1)) in
            (d, subst (λ (n : ℕ). IsAtLabel new n d) same.0 here, omega (arith, same.1, is))
        keyed' x k (inr before) =
            let near = labelled.keyed x k before in
            (near.0, (near.1.0, queued_label x near.0 near.1.0 near.1.1), near.2)

        settled' : (x distance : ℕ) → IsAtLabel s x distance → (f ≡ x) ⊎ (f ≢ x)
            → IsWaitingOrSettled board arcs bound cap new x distance
        settled' x distance before (inl same) =
            let here : IsAtLabel s f distance = subst (λ (n : ℕ). IsAtLabel s n distance) (sym same) before in
            let equal : d ≡ distance = distance_unique s f d distance at here in
            subst (λ (n : ℕ). IsWaitingOrSettled board arcs bound cap new n distance) same
            (inl (due, queued_here, omega (arith, is, equal)))
        settled' x distance before (inr other) =
            queued_waits_or_settled board arcs bound cap x distance
            (taken_waits_or_settled board arcs bound cap x distance (λ same _. other same)
            (was.settled x distance before))

    queued_keys : sum_by key_weight new.queue ≡ (2 ^ 65 - due) + sum_by key_weight next.queue
    queued_keys = sum_by_pushed key_weight (record { 0 = (due, f) }) next.queue new.queue queued.queue

    pub queued_work : key < due → due < 2 ^ 65 → work_left new < work_left s
    queued_work rises small = omega (
      arith,
      taken_keys,
      queued_keys,
      taken_sum,
      ap (sum_by label_weight) queued.labels,
      rises,
      small,
    )

    pub GoesOn-queued : key < due → due < 2 ^ 65 → GoesOn s new
    GoesOn-queued rises small = record {
      marks = record {
        goals = queued.goals ∙ taken.goals;
        count = ap length queued.labels
            ∙ ap length taken.labels;
      };
      sources = λ x. (
        (λ h. taken_label_before x 0 None (queued_label_before x 0 None h)),
        (λ h. queued_label x 0 None (taken_label x 0 None h)),
      );
      work = omega (arith, queued_work rises small);
    }

-- ---- a label along an arc

module _ (v d : ℕ) (wire : Option ℕ) (key : ℕ) (old new : Labels) (h : IsLowered v d wire key old new)
    (below : v < length old.labels) (strictly : (near : ℕ) → IsAtLabel old v near → d < near) where
  less : (near : ℕ) → IsAtLabel old v near → d ≤ near
  less near at = omega (arith, strictly near at)

  apart : (y near : ℕ) → IsAtLabel old y near → near ≤ d → y ≢ v
  apart y near at low same = omega (
    arith,
    strictly near (subst (λ (n : ℕ). IsAtLabel old n near) same at),
    low,
  )

  -- a way back along labels that are no longer stays
  way_kept : (board : Board) (arcs : Arcs) → IsLabelled board arcs old → (y near : ℕ) → IsAtLabel old y near
      → near ≤ d → (es : List ℕ) (source : ℕ) → IsWayBack board old y es source
      → IsWayBack board new y es source
  way_kept board arcs was y near at low [] source back =
      (back.0, lowered_other v d wire key old new h below less y (apart y near at low) ∙ back.1)
  way_kept board arcs was y near at low (e ∷ es) source back =
      let shorter = was.shorter y back.0 e back.2.0 back.1 back.2.1 in
      let same : back.0 ≡ near = distance_unique old y back.0 near (Some e, back.1) at in (
        back.0,
        lowered_other v d wire key old new h below less y (apart y near at low) ∙ back.1,
        (
          back.2.0,
          back.2.1,
          way_kept board arcs was back.2.0 shorter.0 shorter.1 (omega (arith, shorter.2, same, low)) es
              source back.2.2,
        ),
      )

  weight_above : d < 2 ^ 64 → d < label_weight (label_at old v)
  weight_above small = go (label_at old v) refl
    where
      go : (l : Option Label) → label_at old v ≡ l → d < label_weight l
      go None is = small
      go (Some l) is = strictly l.distance (l.wire, is)

  lowered_work : d < 2 ^ 64 → work_left new ≤ work_left old
  lowered_work small =
      let keys = sum_by_pushed key_weight (record { 0 = (key, v) }) old.queue new.queue h.queue in
      let l : Option Label = Some (record { distance = d; wire = wire }) in
      let sum : sum_by label_weight new.labels ≡ sum_by label_weight (set old.labels v l) =
      ap (sum_by label_weight) h.labels in
      let changed = sum_by-set label_weight old.labels v l None below in
      omega (arith, keys, sum, changed, weight_above small)

  lowered_goes_on : (e : ℕ) → wire ≡ Some e → d < 2 ^ 64 → GoesOn old new
  lowered_goes_on e some small = record {
    marks = record {
      goals = h.goals;
      count = ap length h.labels
          ∙ length-set old.labels v (Some (record { distance = d; wire = wire }));
    };
    sources = λ x. sources' x (cases_eq x v);
    work = lowered_work small;
  }
    where
      sources' : (x : ℕ) → (x ≡ v) ⊎ (x ≢ v) → IsSource new x ↔ IsSource old x
      sources' x (inl same) = (
        (λ is. not_source new v 0 d e (subst (λ (n : ℕ). IsSource new n) same is)
            (subst (λ (w : Option ℕ). HasLabel new v d w) some
            (lowered_there v d wire key old new h below less))),
        (λ is. absurd (omega (arith, strictly 0 (subst (λ (n : ℕ). IsAtLabel old n 0) same (None, is))))),
      )
      sources' x (inr other) =
          let is = lowered_other v d wire key old new h below less x other in
          ((λ h'. sym is ∙ h'), (λ h'. is ∙ h'))

-- what one reach keeps, and what it shows
pub record IsStep (board : Board) (arcs : Arcs) (bound : ℕ → ℕ) (cap f d v far : ℕ)
    (old new : Labels) : Type 0 where
  pub passing : IsPassing board arcs bound cap f d new
  pub on : GoesOn old new
  pub here : IsNoShorter new bound cap v far
  pub still : (x distance : ℕ) → IsNoShorter old bound cap x distance → IsNoShorter new bound cap x distance

module _ (board : Board) (arcs : Arcs) (bound : ℕ → ℕ) (cap f d e v : ℕ) (old new : Labels)
    (passing : IsPassing board arcs bound cap f d old) (links : Links board e f v) where
  abbrev far : ℕ
  far = d + arcs e f v

  step_lowered : v < length old.labels → far < 2 ^ 64 → IsLowered v far (Some e) (far + bound v) old new
      → ((near : ℕ) → IsAtLabel old v near → far < near) → IsStep board arcs bound cap f d v far old new
  step_lowered below small h strictly = record {
    passing = record {
      labelled = lowered_labelled v far (Some e) (far + bound v) old new h below less' board arcs
          (omega arith) passing.labelled (e ∷ back.0) back.1.0 (
            far,
            lowered_there v far (Some e) (far + bound v) old new h below less',
            (
              f,
              Links-sym board e f v links,
              way_kept v far (Some e) (far + bound v) old new h below strictly board arcs passing.labelled f d
                  passing.here low back.0 back.1.0 back.1.1,
            ),
          ) (λ none. absurd (cc none)) shorter';
      here = here';
      no_goal = λ goal. passing.no_goal (subst (λ (gs : List Bool). IsGoal gs f) h.goals goal);
      others = λ x distance other at. others' x distance other at (cases_eq x v);
    };
    on = lowered_goes_on v far (Some e) (far + bound v) old new h below strictly e refl small;
    here = inl (
      far,
      (Some e, lowered_there v far (Some e) (far + bound v) old new h below less'),
      omega arith,
    );
    still = λ x distance. lowered_no_shorter v far (Some e) (far + bound v) old new h below less' bound cap x
        distance;
  }
    where
      low : d ≤ far
      low = omega arith

      less' : (near : ℕ) → IsAtLabel old v near → far ≤ near
      less' near at = omega (arith, strictly near at)

      back : (es : List ℕ) × ((source : ℕ) × IsWayBack board old f es source)
      back = passing.labelled.back f d passing.here

      here' : IsAtLabel new f d
      here' = (
        passing.here.0,
        lowered_other v far (Some e) (far + bound v) old new h below less' f
            (apart v far (Some e) (far + bound v) old new h below strictly f d passing.here low)
            ∙ passing.here.1,
      )

      shorter' : (g u : ℕ) → Some e ≡ Some g → Links board g v u → (near : ℕ) × IsAtLabel new u near
          × (near + arcs g u v ≤ far)
      shorter' g u same back_links =
          let wires : e ≡ g = cc same in
          let ends : u ≡ f = other-end board g v u f back_links (subst (λ (n : ℕ). Links board n v f) wires
          (Links-sym board e f v links)) in
          let P : ℕ → Type 0 = λ n. d + arcs n f v ≤ d + arcs e f v in
          let Q : ℕ → Type 0 = λ n. (near : ℕ) × IsAtLabel new n near
          × (near + arcs g n v ≤ d + arcs e f v) in
          subst Q (sym ends) (d, here', subst P wires (omega arith))

      others' : (x distance : ℕ) → x ≢ f → IsAtLabel new x distance → (x ≡ v) ⊎ (x ≢ v)
          → IsWaitingOrSettled board arcs bound cap new x distance
      others' x distance other at (inl same) =
          let here'' : IsAtLabel new v distance = subst (λ (n : ℕ). IsAtLabel new n distance) same at in
          let equal : far ≡ distance = distance_unique new v far distance (
            Some e,
            lowered_there v far (Some e) (far + bound v) old new h below less',
          ) here'' in
          let waits : WaitsInTime new bound v distance = (
            far + bound v,
            lowered_waits v far (Some e) (far + bound v) old new h below less',
            omega (arith, equal),
          ) in
          inl (subst (λ (n : ℕ). WaitsInTime new bound n distance) (sym same) waits)
      others' x distance other at (inr apart') =
          lowered_waits_or_settled v far (Some e) (far + bound v) old new h below less' board arcs bound cap x
          distance (passing.others x distance other (
            at.0,
            sym (lowered_other v far (Some e) (far + bound v) old new h below less' x apart') ∙ at.1,
          ))

  pub step_reached : v < length old.labels → IsReached bound cap v e (d + arcs e f v) old new
      → IsStep board arcs bound cap f d v (d + arcs e f v) old new
  step_reached below (inl none) =
      let P : Labels → Type 0 = λ s. IsStep board arcs bound cap f d v (d + arcs e f v) old s in
      subst P (sym none.0) (record {
        passing = passing;
        on = GoesOn-refl old;
        here = none.1;
        still = λ x distance h. h;
      })
  step_reached below (inr lower) = step_lowered below lower.1 lower.0 lower.2

-- ---- all arcs from one FPGA

-- the arcs to the first neighbours are passed
pub record IsPassingOn (graph : Graph) (arcs : Arcs) (bound : ℕ → ℕ) (cap f d k : ℕ)
    (old s : Labels) : Type 0 where
  pub passing : IsPassing (board_of graph) arcs bound cap f d s
  pub on : GoesOn old s
  pub done : (j : ℕ) (z : Neighbour) → j < k
      → IsNoShorter s bound cap (get_or (neighbours_of graph f) j z).fpga
      (d + arcs (get_or (neighbours_of graph f) j z).wire f (get_or (neighbours_of graph f) j z).fpga)

pub IsPassingOn-start : (graph : Graph) (arcs : Arcs) (bound : ℕ → ℕ) (cap f d : ℕ) (s : Labels)
    → IsPassing (board_of graph) arcs bound cap f d s → IsPassingOn graph arcs bound cap f d 0 s s
IsPassingOn-start graph arcs bound cap f d s passing = record {
  passing = passing;
  on = GoesOn-refl s;
  done = λ j z none. absurd (omega (arith, none));
}

pub IsPassingOn-more : (graph : Graph) (arcs : Arcs) (bound : ℕ → ℕ) (cap f d k : ℕ) (first old new : Labels)
    (z : Neighbour) → k < length (neighbours_of graph f) → IsPassingOn graph arcs bound cap f d k first old
    → Links (board_of graph) (get_or (neighbours_of graph f) k z).wire f
    (get_or (neighbours_of graph f) k z).fpga → (get_or (neighbours_of graph f) k z).fpga < length old.labels
    → IsReached bound cap (get_or (neighbours_of graph f) k z).fpga (get_or (neighbours_of graph f) k z).wire
    (d + arcs (get_or (neighbours_of graph f) k z).wire f (get_or (neighbours_of graph f) k z).fpga) old new
    → IsPassingOn graph arcs bound cap f d (k + 1) first new
IsPassingOn-more graph arcs bound cap f d k first old new z within was links below reached =
    let x = get_or (neighbours_of graph f) k z in
    let step = step_reached (board_of graph) arcs bound cap f d x.wire x.fpga old new was.passing links below
    reached in
    record {
      passing = step.passing;
      on = GoesOn-trans first old new was.on step.on;
      done = λ j y before. done' step j y before (cases_eq j k);
    }
  where
    done' : IsStep (board_of graph) arcs bound cap f d (get_or (neighbours_of graph f) k z).fpga
        (d + arcs (get_or (neighbours_of graph f) k z).wire f (get_or (neighbours_of graph f) k z).fpga) old
        new → (j : ℕ) (y : Neighbour) → j < k + 1 → (j ≡ k) ⊎ (j ≢ k)
        → IsNoShorter new bound cap (get_or (neighbours_of graph f) j y).fpga
        (d + arcs (get_or (neighbours_of graph f) j y).wire f (get_or (neighbours_of graph f) j y).fpga)
    done' step j y before (inl same) =
        let equal : get_or (neighbours_of graph f) k z ≡ get_or (neighbours_of graph f) j y =
        get_or_default (neighbours_of graph f) k z y within
        ∙ ap (λ (n : ℕ). get_or (neighbours_of graph f) n y) (sym same) in
        let At : Neighbour → Type 0 = λ n. IsNoShorter new bound cap n.fpga (d + arcs n.wire f n.fpga) in
        subst At equal step.here
    done' step j y before (inr other) =
        step.still (get_or (neighbours_of graph f) j y).fpga
        (d + arcs (get_or (neighbours_of graph f) j y).wire f (get_or (neighbours_of graph f) j y).fpga)
        (was.done j y (omega (arith, before, other)))

pub IsUnderWay-passed : (graph : Graph) (arcs : Arcs) (bound : ℕ → ℕ) (cap f d k : ℕ) (old s : Labels)
    → IsPassingOn graph arcs bound cap f d k old s → length (neighbours_of graph f) ≤ k
    → IsUnderWay (board_of graph) arcs bound cap s
IsUnderWay-passed graph arcs bound cap f d k old s on all = record {
  labelled = on.passing.labelled;
  settled = λ x distance at. settled' x distance at (cases_eq x f);
}
  where
    arcs_passed : (e v : ℕ) → Links (board_of graph) e f v → IsNoShorter s bound cap v (d + arcs e f v)
    arcs_passed e v links =
        let z : Neighbour = record { wire = 0; fpga = 0 } in
        let found = neighbour-from_links graph f e v links in
        let is : get_or (neighbours_of graph f) found.0 z ≡ record { wire = e; fpga = v } = found.2 z in
        let P : Neighbour → Type 0 = λ n. IsNoShorter s bound cap n.fpga (d + arcs n.wire f n.fpga) in
        subst P is (on.done found.0 z (omega (arith, found.1, all)))

    settled' : (x distance : ℕ) → IsAtLabel s x distance → (x ≡ f) ⊎ (x ≢ f)
        → IsWaitingOrSettled (board_of graph) arcs bound cap s x distance
    settled' x distance at (inl same) =
        let here : IsAtLabel s f distance = subst (λ (n : ℕ). IsAtLabel s n distance) same at in
        let equal : d ≡ distance = distance_unique s f d distance on.passing.here here in
        let P : ℕ → Type 0 = λ n. (¬ IsGoal s.goals n)
        × IsSettled (board_of graph) arcs bound cap s n distance in
        let Q : ℕ → Type 0 = λ n. IsSettled (board_of graph) arcs bound cap s f n in
        inr (inr (subst P (sym same) (on.passing.no_goal, subst Q equal arcs_passed)))
    settled' x distance at (inr other) = on.passing.others x distance other at
