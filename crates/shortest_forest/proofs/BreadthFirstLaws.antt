-- What a breadth-first search keeps, and what it has found at its end.
use Rattle.std.proofs.Common.{◌≡◌, ◌≢◌, ℕ, zero, suc, ◌+◌, ◌<◌, ◌≤◌, ◌⊎◌, cond, List, [], ◌∷◌, ◌++◌, Option, Some, None, length, get_or, set, slice_index, refl, sym, ap, ◌∙◌, subst, inl, inr, arith, get_or-set_same, get_or-set_other, count_by}
use Rattle.std.specs.Prelude.{replicate, is_some, MatchOption}
use Rattle.std.proofs.lemmas.Bool.{cases_eq, cases_lt}
use Rattle.std.proofs.lemmas.List.{length-set, length-replicate, get_or-replicate, get_or_past, get_or_append_left, get_or_push, length_push}
use Rattle.std.proofs.lemmas.List.Sums.{sum_by-cons, sum_by-append, sum_by-set, count_by-le-length}
use Rattle.tdm_problem.specs.Board.{Board}
use Rattle.tdm_problem.specs.Walk.{Links, IsWalk, AnyWire}
use Rattle.tdm_problem.specs.Distance.{length_of, IsHopCount}
use Rattle.tdm_problem.proofs.Walks.{AnyWire-from_links, IsWalk-append, IsWalk-one}
use Rattle.shortest_forest.specs.Reach.{HasNoWalk, AreHops}
use Rattle.shortest_forest.specs.BreadthFirst.{IsAt, IsPassed, IsSearch, IsReached}

-- ---- lists of distances

pub some_same : (x y : ℕ) → Some x ≡ Some y → x ≡ y
some_same x y e = cc

pub not_none : {A : Type 0} (x : Option ℕ) (d : ℕ) → x ≡ None → x ≡ Some d → A
not_none x d n s = absurd (cc)

-- an FPGA has one distance
pub at_unique : (distances : List (Option ℕ)) (f d far : ℕ) → IsAt distances f d → IsAt distances f far
    → d ≡ far
at_unique distances f d far at_d at_far = some_same d far (sym at_d ∙ at_far)

-- what has a distance is an FPGA of the list
pub at_below : (distances : List (Option ℕ)) (f d : ℕ) → IsAt distances f d → f < length distances
at_below distances f d at = go (cases_lt f (length distances))
  where
    go : (f < length distances) ⊎ (length distances ≤ f) → f < length distances
    go (inl below) = below
    go (inr past) = not_none (get_or distances f None) d (get_or_past distances f None past) at

-- in a list of no distances
pub none_at : (n f : ℕ) → get_or (replicate n (let x : Option ℕ = None in x)) f None ≡ None
none_at n f = go (cases_lt f n)
  where
    none : Option ℕ
    none = None

    go : (f < n) ⊎ (n ≤ f) → get_or (replicate n (let x : Option ℕ = None in x)) f None ≡ None
    go (inl below) = get_or-replicate n f None None below
    go (inr past) = get_or_past (replicate n None) f None
        (omega (arith, length-replicate {A = Option ℕ} n None))

count-replicate : (n : ℕ) → count_by is_some (replicate n (let x : Option ℕ = None in x)) ≡ 0
count-replicate zero = refl
count-replicate (suc n) =
    omega (
      arith,
      sum_by-cons (λ (x : Option ℕ). cond (is_some x) 1 0) None (replicate n None),
      count-replicate n,
    )

-- after a distance is set
at_set : (distances : List (Option ℕ)) (x new f d : ℕ) → x < length distances
    → IsAt (set distances x (Some new)) f d → ((f ≡ x) × (d ≡ new)) ⊎ ((f ≢ x) × IsAt distances f d)
at_set distances x new f d below at = go (cases_eq f x)
  where
    go : (f ≡ x) ⊎ (f ≢ x) → ((f ≡ x) × (d ≡ new)) ⊎ ((f ≢ x) × IsAt distances f d)
    go (inl same) =
        let P : ℕ → Type 0 = λ n. get_or (set distances x (Some new)) n None ≡ Some d in
        inl (
          same,
          some_same d new (sym (subst P same at)
              ∙ get_or-set_same distances x (Some new) None below),
        )
    go (inr other) = inr (other, sym (get_or-set_other distances x f (Some new) None other) ∙ at)

at_set_same : (distances : List (Option ℕ)) (x new : ℕ) → x < length distances
    → IsAt (set distances x (Some new)) x new
at_set_same distances x new below = get_or-set_same distances x (Some new) None below

at_set_other : (distances : List (Option ℕ)) (x new f d : ℕ) → get_or distances x None ≡ None
    → IsAt distances f d → IsAt (set distances x (Some new)) f d
at_set_other distances x new f d open' at = get_or-set_other distances x f (Some new) None other ∙ at
  where
    other : f ≢ x
    other same = let P : ℕ → Type 0 = λ n. get_or distances n None ≡ Some d in
        not_none (get_or distances x None) d open' (subst P same at)

-- ---- the start

-- with the source alone in the queue
pub IsSearch-start : (board : Board) (source : ℕ) (distances : List (Option ℕ)) (queue : List ℕ)
    → source < board.fpgas → distances ≡ set (replicate board.fpgas None) source (Some 0)
    → queue ≡ source ∷ [] → IsSearch board distances queue 0
IsSearch-start board source distances queue below is_set is_one = record {
  count = size;
  some = omega (arith, one);
  few = one ∙ sym (ap (count_by is_some) is_set ∙ counted);
  first = first';
  queued = λ i i_below. (0, (let zero' : i ≡ 0 = omega (arith, one) in rw zero' first'), omega arith);
  left = λ f d at. (0, omega (arith, one), at_source ∙ sym (only f d at).0, λ before. absurd (omega arith));
  near = λ i f d far _ _ _ at_far. omega (arith, (only f far at_far).1);
  rising = λ i j d far _ _ j_below at_d at_far. omega (arith, (only (slice_index queue i) d at_d).1);
  walks = λ f d at. ([], at_source ∙ sym (only f d at).0, sym (only f d at).1);
}
  where
    none : List (Option ℕ)
    none = replicate board.fpgas None

    size : length distances ≡ board.fpgas
    size = ap length is_set ∙ length-set (replicate board.fpgas None) source (Some 0)
        ∙ length-replicate board.fpgas None

    one : length queue ≡ 1
    one = ap length is_one

    at_source : slice_index queue 0 ≡ source
    at_source = ap (λ xs. slice_index xs 0) is_one

    within : source < length (replicate board.fpgas (let x : Option ℕ = None in x))
    within = omega (arith, length-replicate {A = Option ℕ} board.fpgas None)

    source_at : IsAt distances source 0
    source_at = ap (λ xs. get_or xs source None) is_set
        ∙ at_set_same (replicate board.fpgas None) source 0 within

    first' : IsAt distances (slice_index queue 0) 0
    first' = ap (λ n. get_or distances n None) at_source ∙ source_at

    counted : count_by is_some (set (replicate board.fpgas (let x : Option ℕ = None in x)) source (Some 0))
        ≡ 1
    counted =
        let set_one = sum_by-set (λ (x : Option ℕ). cond (is_some x) 1 0) (replicate board.fpgas None) source
        (Some 0) None within in
        let before : cond {A =
        ℕ} (is_some (get_or (replicate board.fpgas (let x : Option ℕ = None in x)) source None)) 1 0
        ≡ 0 = ap (λ (x : Option ℕ). cond (is_some x) 1 0) (none_at board.fpgas source) in
        omega (arith, set_one, before, count-replicate board.fpgas)

    only : (f d : ℕ) → IsAt distances f d → (f ≡ source) × (d ≡ 0)
    only f d at = by (at_set (replicate board.fpgas None) source 0 f d within
        (sym (ap (λ xs. get_or xs f None) is_set) ∙ at))
      where
        by : ((f ≡ source) × (d ≡ 0)) ⊎ ((f ≢ source) × IsAt (replicate board.fpgas None) f d) → (f ≡ source)
            × (d ≡ 0)
        by (inl h) = h
        by (inr h) = not_none (get_or (replicate board.fpgas None) f None) d (none_at board.fpgas f) h.1

-- ---- an FPGA is reached

-- wire e leads from the FPGA at the head, of distance l, to FPGA x, which is reached
pub record IsStep (board : Board) (distances distances' : List (Option ℕ)) (queue queue' : List ℕ)
    (head l e x : ℕ) : Type 0 where
  pub search : IsSearch board distances queue head
  pub waiting : head < length queue
  pub here : IsAt distances (slice_index queue head) l
  pub links : Links board e (slice_index queue head) x
  pub there : x < board.fpgas
  pub reached : IsReached x (l + 1) distances distances' queue queue'

-- what stays, and that FPGA x is near
pub record IsStepDone (board : Board) (distances distances' : List (Option ℕ)) (queue queue' : List ℕ)
    (head l x : ℕ) : Type 0 where
  pub search : IsSearch board distances' queue' head
  pub longer : length queue ≤ length queue'
  pub queue_kept : (i : ℕ) → i < length queue → slice_index queue' i ≡ slice_index queue i
  pub kept : (f d : ℕ) → IsAt distances f d → IsAt distances' f d
  pub near : (far : ℕ) × IsAt distances' x far × (far ≤ l + 1)

-- the FPGA was known
step_known : (board : Board) (distances distances' : List (Option ℕ)) (queue queue' : List ℕ) (head l e x : ℕ)
    → IsStep board distances distances' queue queue' head l e x → (far : ℕ) → IsAt distances x far
    → IsStepDone board distances distances' queue queue' head l x
step_known board distances distances' queue queue' head l e x step far at =
    let same = step.reached.known far at in
    let P : List (Option ℕ) → Type 0 = λ ds. IsSearch board ds queue' head in
    let Q : List ℕ → Type 0 = λ qs. IsSearch board distances qs head in
    let R : List (Option ℕ) → Type 0 = λ ds. IsAt ds x far in
    record {
      search = subst P (sym same.0) (subst Q (sym same.1) step.search);
      longer = omega (arith, ap length same.1);
      queue_kept = λ i below. ap (λ qs. slice_index qs i) same.1;
      kept = λ f d at_f. ap (λ ds. get_or ds f None) same.0 ∙ at_f;
      near = (
        far,
        subst R (sym same.0) at,
        step.search.near head x l far (omega arith) step.waiting step.here at,
      );
    }

-- the FPGA is new
module _ (board : Board) (distances distances' : List (Option ℕ)) (queue queue' : List ℕ) (head l e x : ℕ)
    (step : IsStep board distances distances' queue queue' head l e x) (open' : get_or distances x None
    ≡ None) where
  old : IsSearch board distances queue head
  old = step.search

  is_set : distances' ≡ set distances x (Some (l + 1))
  is_set = (step.reached.new open').0

  is_pushed : queue' ≡ queue ++ x ∷ []
  is_pushed = (step.reached.new open').1

  within : x < length distances
  within = omega (arith, step.there, step.search.count)

  long : length queue' ≡ length queue + 1
  long = ap length is_pushed ∙ length_push queue x

  old_place : (i : ℕ) → i < length queue → slice_index queue' i ≡ slice_index queue i
  old_place i below = ap (λ qs. slice_index qs i) is_pushed ∙ get_or_append_left queue (x ∷ []) 0 i below

  new_place : slice_index queue' (length queue) ≡ x
  new_place = ap (λ qs. slice_index qs (length queue)) is_pushed ∙ get_or_push queue x 0 (length queue) refl

  kept_at : (f d : ℕ) → IsAt distances f d → IsAt distances' f d
  kept_at f d at = ap (λ ds. get_or ds f None) is_set ∙ at_set_other distances x (l + 1) f d open' at

  new_at : IsAt distances' x (l + 1)
  new_at = ap (λ ds. get_or ds x None) is_set ∙ at_set_same distances x (l + 1) within

  cases_at : (f d : ℕ) → IsAt distances' f d → ((f ≡ x) × (d ≡ l + 1)) ⊎ ((f ≢ x) × IsAt distances f d)
  cases_at f d at = at_set distances x (l + 1) f d within (sym (ap (λ ds. get_or ds f None) is_set) ∙ at)

  -- the distance of an old place is the old one
  old_at : (i d : ℕ) → i < length queue → IsAt distances' (slice_index queue' i) d
      → IsAt distances (slice_index queue i) d
  old_at i d below at =
      let q = step.search.queued i below in
      let P : ℕ → Type 0 = λ n. IsAt distances' n d in
      let same = at_unique distances' (slice_index queue i) q.0 d (kept_at (slice_index queue i) q.0 q.1)
      (subst P (old_place i below) at) in
      let Q : ℕ → Type 0 = λ n. IsAt distances (slice_index queue i) n in
      subst Q same q.1

  new_place_at : (i d : ℕ) → i ≡ length queue → IsAt distances' (slice_index queue' i) d → d ≡ l + 1
  new_place_at i d last at =
      let P : ℕ → Type 0 = λ n. IsAt distances' n d in
      at_unique distances' x d (l + 1) (subst P (ap (slice_index queue') last ∙ new_place) at) new_at

  low : l ≤ head
  low =
      let q = step.search.queued head step.waiting in
      let same = at_unique distances (slice_index queue head) q.0 l q.1 step.here in
      omega (arith, q.2, same)

  few' : length queue' ≡ count_by is_some distances'
  few' =
      let set_one = sum_by-set (λ (d : Option ℕ). cond (is_some d) 1 0) distances x
      (Some (l + 1)) None within in
      let before : cond {A = ℕ} (is_some (get_or distances x None)) 1 0 ≡ 0 =
      ap (λ (d : Option ℕ). cond (is_some d) 1 0) open' in
      let after : count_by is_some distances' ≡ count_by is_some (set distances x (Some (l + 1))) =
      ap (count_by is_some) is_set in
      omega (arith, set_one, before, after, long, step.search.few)

  queued' : (i : ℕ) → i < length queue' → (d : ℕ) × IsAt distances' (slice_index queue' i) d × (d ≤ i)
  queued' i below = go (cases_lt i (length queue))
    where
      go : (i < length queue) ⊎ (length queue ≤ i) → (d : ℕ) × IsAt distances' (slice_index queue' i) d
          × (d ≤ i)
      go (inl before) =
          let q = step.search.queued i before in (
            q.0,
            ap (λ n. get_or distances' n None) (old_place i before)
                ∙ kept_at (slice_index queue i) q.0 q.1,
            q.2,
          )
      go (inr after) =
          let last : i ≡ length queue = omega (arith, long) in (
            l + 1,
            ap (λ n. get_or distances' n None) (ap (slice_index queue') last ∙ new_place) ∙ new_at,
            omega (arith, low, step.waiting),
          )

  left' : (f d : ℕ) → IsAt distances' f d → (i : ℕ) × (i < length queue') × (slice_index queue' i ≡ f)
      × (i < head → IsPassed board distances' f d)
  left' f d at = go (cases_at f d at)
    where
      go : ((f ≡ x) × (d ≡ l + 1)) ⊎ ((f ≢ x) × IsAt distances f d) → (i : ℕ) × (i < length queue')
          × (slice_index queue' i ≡ f) × (i < head → IsPassed board distances' f d)
      go (inl h) = (
        length queue,
        omega (arith, long),
        new_place ∙ sym h.0,
        λ before. absurd (omega (arith, step.waiting)),
      )
      go (inr h) =
          let q = step.search.left f d h.1 in (
            q.0,
            omega (arith, q.1, long),
            old_place q.0 q.1 ∙ q.2,
            λ before c y links. (let p = q.3 before c y links in (p.0, kept_at y p.0 p.1, p.2)),
          )

  near' : (i f d far : ℕ) → head ≤ i → i < length queue' → IsAt distances' (slice_index queue' i) d
      → IsAt distances' f far → far ≤ d + 1
  near' i f d far from below at_d at_far = go (cases_lt i (length queue)) (cases_at f far at_far)
    where
      go : (i < length queue) ⊎ (length queue ≤ i) → ((f ≡ x) × (far ≡ l + 1))
          ⊎ ((f ≢ x) × IsAt distances f far) → far ≤ d + 1
      go (inl before) (inl h) =
          omega (
            arith,
            h.1,
            step.search.rising head i l d (omega arith) from before step.here
                (old_at i d before at_d),
          )
      go (inl before) (inr h) = step.search.near i f d far from before (old_at i d before at_d) h.1
      go (inr after) (inl h) = omega (arith, h.1, new_place_at i d (omega (arith, long)) at_d)
      go (inr after) (inr h) = omega (
        arith,
        new_place_at i d (omega (arith, long)) at_d,
        step.search.near head f l far (omega arith) step.waiting step.here h.1,
      )

  rising' : (i j d far : ℕ) → head ≤ i → i ≤ j → j < length queue' → IsAt distances' (slice_index queue' i) d
      → IsAt distances' (slice_index queue' j) far → d ≤ far
  rising' i j d far from order below at_d at_far = go (cases_lt i (length queue)) (cases_lt j (length queue))
    where
      go : (i < length queue) ⊎ (length queue ≤ i) → (j < length queue) ⊎ (length queue ≤ j) → d ≤ far
      go (inl before_i) (inl before_j) =
          step.search.rising i j d far from order before_j (old_at i d before_i at_d)
          (old_at j far before_j at_far)
      go (inl before_i) (inr after_j) = omega (
        arith,
        new_place_at j far (omega (arith, long)) at_far,
        step.search.near head (slice_index queue i) l d (omega arith) step.waiting step.here
            (old_at i d before_i at_d),
      )
      go (inr after_i) (inl before_j) = absurd (omega (arith, order))
      go (inr after_i) (inr after_j) = omega (
        arith,
        new_place_at i d (omega (arith, long)) at_d,
        new_place_at j far (omega (arith, long)) at_far,
      )

  walks' : (f d : ℕ) → IsAt distances' f d → (es : List ℕ)
      × IsWalk board (AnyWire board) (slice_index queue' 0) es f × (length_of (λ _. 1) es ≡ d)
  walks' f d at = go (cases_at f d at)
    where
      source_same : slice_index queue 0 ≡ slice_index queue' 0
      source_same = sym (old_place 0 step.search.some)

      go : ((f ≡ x) × (d ≡ l + 1)) ⊎ ((f ≢ x) × IsAt distances f d) → (es : List ℕ)
          × IsWalk board (AnyWire board) (slice_index queue' 0) es f × (length_of (λ _. 1) es ≡ d)
      go (inl h) =
          let w = step.search.walks (slice_index queue head) l step.here in
          let whole = IsWalk-append board (AnyWire board) (slice_index queue 0) w.0 (slice_index queue head)
          (e ∷ []) x w.1 (IsWalk-one board (AnyWire board) e (slice_index queue head) x
          (AnyWire-from_links board e (slice_index queue head) x step.links) step.links) in
          let P : ℕ → Type 0 = λ n. IsWalk board (AnyWire board) n (w.0 ++ e ∷ []) f in
          let Q : ℕ → Type 0 = λ n. IsWalk board (AnyWire board) (slice_index queue 0) (w.0 ++ e ∷ []) n in (
            w.0 ++ e ∷ [],
            subst P source_same (subst Q (sym h.0) whole),
            omega (arith, sum_by-append (λ (_ : ℕ). 1) w.0 (e ∷ []), w.2, h.1),
          )
      go (inr h) =
          let w = step.search.walks f d h.1 in
          let P : ℕ → Type 0 = λ n. IsWalk board (AnyWire board) n w.0 f in
          (w.0, subst P source_same w.1, w.2)

  step_new : IsStepDone board distances distances' queue queue' head l x
  step_new = record {
    search = record {
      count = ap length is_set ∙ length-set distances x (Some (l + 1)) ∙ step.search.count;
      some = omega (arith, long);
      few = few';
      first = ap (λ n. get_or distances' n None) (old_place 0 step.search.some)
          ∙ kept_at (slice_index queue 0) 0 step.search.first;
      queued = queued';
      left = left';
      near = near';
      rising = rising';
      walks = walks';
    };
    longer = omega (arith, long);
    queue_kept = old_place;
    kept = kept_at;
    near = (l + 1, new_at, omega arith);
  }

pub option_cases : (x : Option ℕ) → ((d : ℕ) × (x ≡ Some d)) ⊎ (x ≡ None)
option_cases None = inr refl
option_cases (Some d) = inl (d, refl)

-- reaching an FPGA keeps the search
pub step_done : (board : Board) (distances distances' : List (Option ℕ)) (queue queue' : List ℕ)
    (head l e x : ℕ) → IsStep board distances distances' queue queue' head l e x
    → IsStepDone board distances distances' queue queue' head l x
step_done board distances distances' queue queue' head l e x step =
    go (option_cases (get_or distances x None))
  where
    go : ((d : ℕ) × (get_or distances x None ≡ Some d)) ⊎ (get_or distances x None ≡ None)
        → IsStepDone board distances distances' queue queue' head l x
    go (inl known) = step_known board distances distances' queue queue' head l e x step known.0 known.1
    go (inr open') = step_new board distances distances' queue queue' head l e x step open'

-- ---- the head moves on, and the end

-- the FPGA at the head is passed
pub IsSearch-next : (board : Board) (distances : List (Option ℕ)) (queue : List ℕ) (head : ℕ)
    → IsSearch board distances queue head → ((d : ℕ) → IsAt distances (slice_index queue head) d
    → IsPassed board distances (slice_index queue head) d) → IsSearch board distances queue (head + 1)
IsSearch-next board distances queue head search passed = record {
  count = search.count;
  some = search.some;
  few = search.few;
  first = search.first;
  queued = search.queued;
  left = λ f d at. (let q = search.left f d at in
      (q.0, q.1, q.2, λ before. now f d at q.0 q.2 q.3 before (cases_lt q.0 head)));
  near = λ i f d far from below. search.near i f d far (omega arith) below;
  rising = λ i j d far from order below. search.rising i j d far (omega arith) order below;
  walks = search.walks;
}
  where
    now : (f d : ℕ) → IsAt distances f d → (i : ℕ) → slice_index queue i ≡ f
        → (i < head → IsPassed board distances f d) → i < head + 1 → (i < head) ⊎ (head ≤ i)
        → IsPassed board distances f d
    now f d at i is before within (inl less) = before less
    now f d at i is before within (inr not_less) =
        let same : i ≡ head = omega arith in
        let head_is : slice_index queue head ≡ f = ap (slice_index queue) (sym same) ∙ is in
        let P : ℕ → Type 0 = λ n. IsAt distances n d in
        let Q : ℕ → Type 0 = λ n. IsPassed board distances n d in
        subst Q head_is (passed d (subst P (sym head_is) at))

-- where every FPGA with a distance is passed, a walk ends no farther than its length
reached_by : (board : Board) (distances : List (Option ℕ))
    → ((f d : ℕ) → IsAt distances f d → IsPassed board distances f d) → (a : ℕ) (es : List ℕ) (b d : ℕ)
    → IsWalk board (AnyWire board) a es b → IsAt distances a d → (far : ℕ) × IsAt distances b far
    × (far ≤ d + length_of (λ _. 1) es)
reached_by board distances passed a [] b d walk at = let P : ℕ → Type 0 = λ n. IsAt distances n d in
    (d, subst P walk at, omega arith)
reached_by board distances passed a (e ∷ es) b d walk at =
    let p = passed a d at e walk.1.0 walk.1.1 in
    let r = reached_by board distances passed walk.1.0 es b p.0 walk.1.2 p.1 in
    (r.0, r.1, omega (arith, r.2, p.2, sum_by-cons (λ (_ : ℕ). 1) e es))

-- at the end the distances are the numbers of hops
pub AreHops-from_search : (board : Board) (source : ℕ) (distances : List (Option ℕ)) (queue : List ℕ)
    (head : ℕ) → IsSearch board distances queue head → length queue ≤ head → slice_index queue 0 ≡ source
    → AreHops board source distances
AreHops-from_search board source distances queue head search ended at_source = record {
  count = search.count;
  exact = λ f below. exact' f (get_or distances f None) refl;
}
  where
    passed : (f d : ℕ) → IsAt distances f d → IsPassed board distances f d
    passed f d at = let q = search.left f d at in q.3 (omega (arith, q.1))

    source_at : IsAt distances source 0
    source_at = let P : ℕ → Type 0 = λ n. IsAt distances n 0 in subst P at_source search.first

    exact' : (f : ℕ) (x : Option ℕ) → get_or distances f None ≡ x
        → MatchOption x (HasNoWalk board source f) (IsHopCount board source f)
    exact' f None is = λ es walk. (let r = reached_by board distances passed source es f 0 walk source_at in
        not_none (get_or distances f None) r.0 is r.1)
    exact' f (Some d) is =
        let w = search.walks f d is in
        let P : ℕ → Type 0 = λ n. IsWalk board (AnyWire board) n w.0 f in
        record {
          walk = (w.0, subst P at_source w.1, w.2);
          least = λ es walk. (let r = reached_by board distances passed source es f 0 walk source_at in
              omega (arith, r.2, at_unique distances f d r.0 is r.1));
        }

-- a distance is less than the number of FPGAs
pub distance-lt : (board : Board) (distances : List (Option ℕ)) (queue : List ℕ) (head : ℕ)
    → IsSearch board distances queue head → (f d : ℕ) → IsAt distances f d → d < board.fpgas
distance-lt board distances queue head search f d at =
    let q = search.left f d at in
    let r = search.queued q.0 q.1 in
    let P : ℕ → Type 0 = λ n. IsAt distances n r.0 in
    let same = at_unique distances f d r.0 at (subst P q.2 r.1) in
    omega (arith, same, r.2, q.1, search.few, search.count, count_by-le-length is_some distances)
