-- Terminals become goals one after another, and are goals no longer.
use Rattle.std.proofs.Common.{◌≡◌, ◌≢◌, ◌⊎◌, ℕ, ◌+◌, ◌<◌, ◌≤◌, true, false, List, length, refl, sym, ap, ◌∙◌, subst, inl, inr, ⊎_elim, arith, get_or, set, get_or-set_same, get_or-set_other}
use Rattle.std.specs.Prelude.{Contains, slice_set}
use Rattle.std.proofs.lemmas.Bool.{cases_lt}
use Rattle.std.proofs.lemmas.List.{length-set, get_or_default}
use Rattle.shortest_forest.specs.Arcs.{IsGoal}
use Rattle.shortest_forest.specs.Labels.{Labels, StaysUnderWay}
use Rattle.steiner_build.specs.Joining.{goal_count, HasNoGoals, AreOthers}
use Rattle.steiner_build.proofs.GrowthLaws.{same_or_other}
use Rattle.steiner_build.proofs.JoiningLaws.{goal_count-more, count-none, goal-or-not, not-goal, unmarked}

-- FPGA f is one of the first n terminals
abbrev IsBefore : List ℕ → ℕ → ℕ → Type 0
IsBefore terminals n f = (k : ℕ) × (k < n) × (get_or terminals k 0 ≡ f)

pub record IsMarking (terminals : List ℕ) (start n : ℕ) (old now : Labels) (others : ℕ) : Type 0 where
  pub labels : now.labels ≡ old.labels
  pub queue : now.queue ≡ old.queue
  pub size : length now.goals ≡ length old.goals
  pub goals : (f : ℕ) → IsGoal now.goals f → IsBefore terminals n f × (f ≢ start)
  pub back : (f : ℕ) → IsBefore terminals n f → f ≢ start → IsGoal now.goals f
  pub count : others ≡ goal_count now.goals
  pub few : others ≤ n
  pub stays : StaysUnderWay old now

pub IsMarking-start : (terminals : List ℕ) (start : ℕ) (old : Labels) → HasNoGoals old.goals
    → IsMarking terminals start 0 old old 0
IsMarking-start terminals start old none = record {
  labels = refl;
  queue = refl;
  size = refl;
  goals = λ f h. goal-or-not old.goals f h (none f);
  back = λ f h other. absurd (omega (arith, h.1));
  count = sym (count-none old.goals none);
  few = omega arith;
  stays = λ board arcs bound cap h. h;
}

earlier : (terminals : List ℕ) (n f : ℕ) → IsBefore terminals n f → IsBefore terminals (n + 1) f
earlier terminals n f h = (h.0, omega (arith, h.1), h.2)

latest : (terminals : List ℕ) (n f : ℕ) → IsBefore terminals (n + 1) f → IsBefore terminals n f
    ⊎ (get_or terminals n 0 ≡ f)
latest terminals n f h = by (cases_lt h.0 n)
  where
    by : (h.0 < n) ⊎ (n ≤ h.0) → IsBefore terminals n f ⊎ (get_or terminals n 0 ≡ f)
    by (inl below) = inl (h.0, below, h.2)
    by (inr past) = let same : h.0 ≡ n = omega (arith, past, h.1) in
        inr (sym (ap (λ k. get_or terminals k 0) same) ∙ h.2)

-- the start, or what is a goal already, is passed over
pub IsMarking-pass : (terminals : List ℕ) (start n : ℕ) (old now : Labels) (others : ℕ)
    → IsMarking terminals start n old now others → (get_or terminals n 0 ≡ start)
    ⊎ IsGoal now.goals (get_or terminals n 0) → IsMarking terminals start (n + 1) old now others
IsMarking-pass terminals start n old now others marking which = record {
  labels = marking.labels;
  queue = marking.queue;
  size = marking.size;
  goals = λ f h. let g = marking.goals f h in (earlier terminals n f g.0, g.1);
  back = λ f h other. ⊎_elim (λ before. marking.back f before other)
      (λ here. ⊎_elim (λ start_here. absurd (other (sym here ∙ start_here)))
      (λ goal. subst (IsGoal now.goals) here goal) which) (latest terminals n f h);
  count = marking.count;
  few = omega (arith, marking.few);
  stays = marking.stays;
}

-- another terminal becomes a goal
pub IsMarking-more : (terminals : List ℕ) (start n : ℕ) (old now new : Labels) (others : ℕ)
    → IsMarking terminals start n old now others → get_or terminals n 0 ≢ start
    → get_or now.goals (get_or terminals n 0) false ≡ false → get_or terminals n 0 < length now.goals
    → new.labels ≡ now.labels → new.queue ≡ now.queue
    → new.goals ≡ slice_set now.goals (get_or terminals n 0) true → StaysUnderWay now new
    → IsMarking terminals start (n + 1) old new (others + 1)
IsMarking-more terminals start n old now new others marking other off below labels queue goals stays =
    record {
      labels = labels ∙ marking.labels;
      queue = queue ∙ marking.queue;
      size = ap length goals ∙ length-set now.goals (get_or terminals n 0) true ∙ marking.size;
      goals = λ f h. was f h (same_or_other f (get_or terminals n 0));
      back = λ f h away. is f away (latest terminals n f h) (same_or_other f (get_or terminals n 0));
      count = omega (
        arith,
        marking.count,
        goal_count-more now.goals (get_or terminals n 0) below off,
        ap goal_count goals,
      );
      few = omega (arith, marking.few);
      stays = λ board arcs bound cap h. stays board arcs bound cap (marking.stays board arcs bound cap h);
    }
  where
    was : (f : ℕ) → IsGoal new.goals f → (f ≡ get_or terminals n 0) ⊎ (f ≢ get_or terminals n 0)
        → IsBefore terminals (n + 1) f × (f ≢ start)
    was f h (inl same) = ((n, omega arith, sym same), (λ k. other (sym same ∙ k)))
    was f h (inr away) =
        let g = marking.goals f (sym (get_or-set_other now.goals (get_or terminals n 0) f true false away)
        ∙ sym (ap (λ gs. get_or gs f false) goals) ∙ h) in
        (earlier terminals n f g.0, g.1)

    is : (f : ℕ) → f ≢ start → IsBefore terminals n f ⊎ (get_or terminals n 0 ≡ f)
        → (f ≡ get_or terminals n 0) ⊎ (f ≢ get_or terminals n 0) → IsGoal new.goals f
    is f away h (inl same) = ap (λ gs. get_or gs f false) goals
        ∙ ap (λ x. get_or (set now.goals (get_or terminals n 0) true) x false) same
        ∙ get_or-set_same now.goals (get_or terminals n 0) true false below
    is f away (inl before) (inr differs) = ap (λ gs. get_or gs f false) goals
        ∙ get_or-set_other now.goals (get_or terminals n 0) f true false differs ∙ marking.back f before away
    is f away (inr here) (inr differs) = absurd (differs (sym here))

pub AreOthers-marking : (terminals : List ℕ) (start n : ℕ) (old now : Labels) (others : ℕ)
    → IsMarking terminals start n old now others → n ≡ length terminals → AreOthers terminals start now.goals
AreOthers-marking terminals start n old now others marking whole f = (
  λ h. let g = marking.goals f h in (
    (
      g.0.0,
      omega (arith, g.0.1, whole),
      get_or_default terminals g.0.0 f 0 (omega (arith, g.0.1, whole))
          ∙ g.0.2,
    ),
    g.1,
  ),
  λ h. marking.back f (
    h.0.0,
    omega (arith, h.0.1, whole),
    get_or_default terminals h.0.0 0 f h.0.1
        ∙ h.0.2,
  ) h.1,
)

-- ---- marks are taken away

-- the goals are among the terminals from the n-th on
pub record IsUnmarking (terminals : List ℕ) (n : ℕ) (old now : Labels) : Type 0 where
  pub goals : (f : ℕ) → IsGoal now.goals f → (k : ℕ) × (n ≤ k) × (k < length terminals)
      × (get_or terminals k 0 ≡ f)
  pub size : length now.goals ≡ length old.goals
  pub labels : length now.labels ≡ length old.labels

pub IsUnmarking-start : (terminals : List ℕ) (old : Labels)
    → ((f : ℕ) → IsGoal old.goals f → Contains terminals f) → IsUnmarking terminals 0 old old
IsUnmarking-start terminals old inside = record {
  goals = λ f h. let c = inside f h in (c.0, omega arith, c.1, get_or_default terminals c.0 0 f c.1 ∙ c.2);
  size = refl;
  labels = refl;
}

pub IsUnmarking-more : (terminals : List ℕ) (n : ℕ) (old now new : Labels) → IsUnmarking terminals n old now
    → new.labels ≡ now.labels → new.goals ≡ slice_set now.goals (get_or terminals n 0) false
    → IsUnmarking terminals (n + 1) old new
IsUnmarking-more terminals n old now new unmarking labels goals = record {
  goals = λ f h. by f h (same_or_other f (get_or terminals n 0));
  size = ap length goals ∙ length-set now.goals (get_or terminals n 0) false ∙ unmarking.size;
  labels = ap length labels ∙ unmarking.labels;
}
  where
    by : (f : ℕ) → IsGoal new.goals f → (f ≡ get_or terminals n 0) ⊎ (f ≢ get_or terminals n 0)
        → (k : ℕ) × (n + 1 ≤ k) × (k < length terminals) × (get_or terminals k 0 ≡ f)
    by f h (inl same) = goal-or-not new.goals f h (ap (λ gs. get_or gs f false) goals
        ∙ ap (λ x. get_or (set now.goals (get_or terminals n 0) false) x false) same
        ∙ unmarked now.goals (get_or terminals n 0))
    by f h (inr other) =
        let g = unmarking.goals f (sym (get_or-set_other now.goals (get_or terminals n 0) f false false other)
        ∙ sym (ap (λ gs. get_or gs f false) goals) ∙ h) in
        later g (cases_lt n g.0)
      where
        later : (g : (k : ℕ) × (n ≤ k) × (k < length terminals) × (get_or terminals k 0 ≡ f)) → (n < g.0)
            ⊎ (g.0 ≤ n) → (k : ℕ) × (n + 1 ≤ k) × (k < length terminals) × (get_or terminals k 0 ≡ f)
        later g (inl after) = (g.0, omega (arith, after), g.2, g.3)
        later g (inr past) = let same : g.0 ≡ n = omega (arith, past, g.1) in
            absurd (other (sym g.3 ∙ ap (λ k. get_or terminals k 0) same))

pub none-unmarked : (terminals : List ℕ) (n : ℕ) (old now : Labels) → IsUnmarking terminals n old now
    → length terminals ≤ n → HasNoGoals now.goals
none-unmarked terminals n old now unmarking past f = not-goal now.goals f (λ h. let g = unmarking.goals f h in
    omega (arith, g.1, g.2))
