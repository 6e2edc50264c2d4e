-- A tree grows by the path to the nearest goal.
use Rattle.std.proofs.Common.{◌≡◌, ◌≢◌, ◌⊎◌, ℕ, zero, suc, ◌+◌, ◌*◌, ◌^◌, ◌<◌, ◌≤◌, Bool, true, false, cond, List, [], ◌∷◌, ◌++◌, length, refl, sym, ap, ◌∙◌, subst, inl, inr, ⊎_elim, arith, get_or, set, get_or-set_same, get_or-set_other}
use Rattle.std.specs.Prelude.{sum_by, All, Contains, IsPermutation, ◌↔◌}
use Rattle.std.proofs.lemmas.Bool.{cases_lt, false≢true}
use Rattle.std.proofs.lemmas.List.{length-set, get_or_past}
use Rattle.std.proofs.lemmas.List.Sums.{sum_by-cons, sum_by-append, sum_by-set}
use Rattle.std.proofs.lemmas.List.Sorted.{Contains-permutation, length_permutation, IsPermutation-trans, IsPermutation-refl, IsPermutation-sym, IsPermutation-append_comm, IsPermutation-append_left}
use Rattle.tdm_problem.specs.Board.{Board}
use Rattle.tdm_problem.specs.Walk.{Links, AnyWire, IsMinimalTree}
use Rattle.tdm_problem.specs.Distance.{length_of}
use Rattle.tdm_problem.proofs.Walks.{IsWalk-wider, AnyWire-from_links}
use Rattle.std.proofs.lemmas.List.Elements.{All-nil, All-cons, All-append}
use Rattle.shortest_forest.specs.Arcs.{IsGoal}
use Rattle.shortest_forest.specs.Labels.{Labels, IsSource}
use Rattle.shortest_forest.proofs.BaselineLaws.{contains-cons}
use Rattle.steiner_build.specs.Growth.{IsOn, IsBranch}
use Rattle.steiner_build.specs.Building.{IsReachedWithin, IsWithinWalks}
use Rattle.steiner_build.specs.Joining.{goal_count, HasNoGoals, AreOthers, IsWithinGoals, IsJoinedBy, IsJoined, IsSpent, IsJoining}
use Rattle.steiner_build.proofs.GrowthLaws.{same_or_other}
use Rattle.steiner_build.proofs.TreeLaws.{IsTree-one, IsTree-same, IsTree-branch}
use Rattle.steiner_build.proofs.Trails.{apart-least}
use Rattle.steiner_build.proofs.LengthLaws.{tree-few, length-few}

-- ---- marks

-- what is a goal is not none
pub goal-or-not : {A : Type 0} (goals : List Bool) (f : ℕ) → get_or goals f false ≡ true
    → get_or goals f false ≡ false → A
goal-or-not goals f is off = absurd (false≢true (sym off ∙ is))

-- what is no goal is marked as none
pub not-goal : (goals : List Bool) (f : ℕ) → (get_or goals f false ≡ true → ⊥) → get_or goals f false ≡ false
not-goal goals f h = by (get_or goals f false) refl
  where
    by : (b : Bool) → get_or goals f false ≡ b → get_or goals f false ≡ false
    by true is = absurd (h is)
    by false is = is

-- a mark that is taken away is gone
pub unmarked : (goals : List Bool) (f : ℕ) → get_or (set goals f false) f false ≡ false
unmarked goals f = by (cases_lt f (length goals))
  where
    by : (f < length goals) ⊎ (length goals ≤ f) → get_or (set goals f false) f false ≡ false
    by (inl below) = get_or-set_same goals f false false below
    by (inr past) = get_or_past (set goals f false) f false (omega (arith, past, length-set goals f false))

-- a goal that is left was one, and is not the one that is none any more
pub left-goal : (goals : List Bool) (f g : ℕ) → get_or (set goals f false) g false ≡ true
    → (get_or goals g false ≡ true) × (g ≢ f)
left-goal goals f g is = by (same_or_other g f)
  where
    by : (g ≡ f) ⊎ (g ≢ f) → (get_or goals g false ≡ true) × (g ≢ f)
    by (inl same) = goal-or-not (set goals f false) g is (ap (λ x. get_or (set goals f false) x false) same
        ∙ unmarked goals f)
    by (inr other) = (sym (get_or-set_other goals f g false false other) ∙ is, other)

-- what is a goal is an FPGA
pub goal-below : (goals : List Bool) (f : ℕ) → get_or goals f false ≡ true → f < length goals
goal-below goals f is = by (cases_lt f (length goals))
  where
    by : (f < length goals) ⊎ (length goals ≤ f) → f < length goals
    by (inl below) = below
    by (inr past) = goal-or-not goals f is (get_or_past goals f false past)

-- a mark less is a goal less
pub goal_count-less : (goals : List Bool) (f : ℕ) → get_or goals f false ≡ true
    → goal_count (set goals f false) + 1 ≡ goal_count goals
goal_count-less goals f is =
    let sum = sum_by-set (λ (goal : Bool). cond {A = ℕ} goal 1 0) goals f false false
    (goal-below goals f is) in
    omega (arith, sum, ap (λ (goal : Bool). cond {A = ℕ} goal 1 0) is)

-- a mark more is a goal more
pub goal_count-more : (goals : List Bool) (f : ℕ) → f < length goals → get_or goals f false ≡ false
    → goal_count (set goals f true) ≡ goal_count goals + 1
goal_count-more goals f below off =
    let sum = sum_by-set (λ (goal : Bool). cond {A = ℕ} goal 1 0) goals f true false below in
    omega (arith, sum, ap (λ (goal : Bool). cond {A = ℕ} goal 1 0) off)

-- without goals there is none
pub none-left : (goals : List Bool) → goal_count goals ≡ 0 → HasNoGoals goals
none-left [] none f = get_or_past [] f false (omega arith)
none-left (true ∷ goals) none f =
    absurd (omega (arith, none, sum_by-cons (λ (goal : Bool). cond {A = ℕ} goal 1 0) true goals))
none-left (false ∷ goals) none zero = refl
none-left (false ∷ goals) none (suc f) =
    none-left goals (omega (arith, none, sum_by-cons (λ (goal : Bool). cond {A = ℕ} goal 1 0) false goals)) f

-- where some are left there is one
pub some-left : (goals : List Bool) → 0 < goal_count goals → (f : ℕ) × (get_or goals f false ≡ true)
some-left [] some = absurd (omega arith)
some-left (true ∷ goals) some = (0, refl)
some-left (false ∷ goals) some =
    let rest = some-left goals (omega (
      arith,
      some,
      sum_by-cons (λ (goal : Bool). cond {A = ℕ} goal 1 0) false goals,
    )) in
    (suc rest.0, rest.1)

-- no marks count nothing
pub count-none : (goals : List Bool) → HasNoGoals goals → goal_count goals ≡ 0
count-none [] none = refl
count-none (true ∷ goals) none = absurd (false≢true (sym (none 0)))
count-none (false ∷ goals) none =
    omega (
      arith,
      sum_by-cons (λ (goal : Bool). cond {A = ℕ} goal 1 0) false goals,
      count-none goals (λ f. none (suc f)),
    )

-- ---- the tree grows

-- a path goes by wires of the board
branch-listed : (board : Board) (reached : ℕ → Type 0) (a : ℕ) (es : List ℕ) → IsBranch board reached a es
    → All (AnyWire board) es
branch-listed board reached a [] branch = All-nil (AnyWire board)
branch-listed board reached a (e ∷ es) branch =
    All-cons (AnyWire board) e es (AnyWire-from_links board e a branch.1.0 branch.1.1)
    (branch-listed board reached branch.1.0 es branch.1.2)

module _ (board : Board) (wire_length : ℕ → ℕ) (start : ℕ) (terminals : List ℕ) where
  -- one more FPGA is spent for
  spent-more : (joined : ℕ → Type 0) (number more t : ℕ)
      → (spent : IsSpent board wire_length start joined number) → (Contains spent.ends t → ⊥)
      → ((far : ℕ) → IsReachedWithin board wire_length start t far → more ≤ far) → (far : ℕ → ℕ)
      → ((u : ℕ) → Contains (t ∷ spent.ends) u → IsReachedWithin board wire_length start u (far u))
      → number + more ≤ sum_by far (t ∷ spent.ends)
  spent-more joined number more t spent absent least far each =
      let rest : number ≤ sum_by far spent.ends =
      spent.within far (λ u there. each u (suc there.0, omega (arith, there.1), there.2)) in
      let first : more ≤ far t = least (far t) (each t (0, omega arith, refl)) in
      omega (arith, rest, first, sum_by-cons far t spent.ends)

  module _ (s : Labels) (wires : List ℕ) (total : ℕ)
      (old : IsJoining board wire_length start terminals s wires total) where
    -- a goal is not spent for
    goal-unspent : (g : ℕ) → IsGoal s.goals g → Contains old.spent.ends g → ⊥
    goal-unspent g marked there = goal-or-not s.goals g marked (old.spent.there g there).1

    -- a goal is as far as every walk to it
    goal-far : (number g : ℕ) → IsWithinGoals board wire_length s number → IsGoal s.goals g → (far : ℕ)
        → IsReachedWithin board wire_length start g far → number ≤ far
    goal-far number g least marked far reached =
        omega (arith, least start g reached.0 old.root marked reached.1, reached.2)

    module _ (inside : (e a b : ℕ) → Links board e a b → a < board.fpgas) (s' : Labels) (wires' : List ℕ)
        (distance : ℕ) (step : IsJoinedBy board wire_length s s' wires wires' distance) where
      joined-goal : IsJoined terminals s'.goals step.goal
      joined-goal = (
        old.goals step.goal step.marked,
        ap (λ gs. get_or gs step.goal false) step.goals
            ∙ unmarked s.goals step.goal,
      )

      joined-still : (t : ℕ) → IsJoined terminals s.goals t → IsJoined terminals s'.goals t
      joined-still t h = by (same_or_other t step.goal)
        where
          by : (t ≡ step.goal) ⊎ (t ≢ step.goal) → IsJoined terminals s'.goals t
          by (inl same) = subst (IsJoined terminals s'.goals) (sym same) joined-goal
          by (inr other) = (
            h.0,
            ap (λ gs. get_or gs t false) step.goals
                ∙ get_or-set_other s.goals step.goal t false false other ∙ h.1,
          )

      joined-before : (t : ℕ) → IsJoined terminals s'.goals t → (t ≡ step.goal) ⊎ IsJoined terminals s.goals t
      joined-before t h = by (same_or_other t step.goal)
        where
          by : (t ≡ step.goal) ⊎ (t ≢ step.goal) → (t ≡ step.goal) ⊎ IsJoined terminals s.goals t
          by (inl same) = inl same
          by (inr other) = inr (
            h.0,
            sym (get_or-set_other s.goals step.goal t false false other)
                ∙ sym (ap (λ gs. get_or gs t false) step.goals) ∙ h.1,
          )

      goal-before : (f : ℕ) → IsGoal s'.goals f → IsGoal s.goals f
      goal-before f h = (left-goal s.goals step.goal f (sym (ap (λ gs. get_or gs f false) step.goals) ∙ h)).0

      pub IsJoining-more : IsJoining board wire_length start terminals s' wires' (total + distance)
      IsJoining-more = record {
        ordered = step.path ++ old.ordered;
        moved = subst (λ (xs : List ℕ). IsPermutation (step.path ++ old.ordered) xs) (sym step.appended)
            (IsPermutation-trans (step.path ++ old.ordered) (old.ordered ++ step.path) (wires ++ step.path)
            (IsPermutation-append_comm step.path old.ordered)
            (IsPermutation-append_left step.path old.ordered wires old.moved));
        tree = IsTree-same board (step.path ++ old.ordered) (λ f. IsOn board step.goal step.path f
            ⊎ IsSource s f) (λ t. (t ≡ step.goal) ⊎ IsJoined terminals s.goals t) (IsSource s')
            (IsJoined terminals s'.goals)
            (λ f h. (step.taken_in f).1 h) (λ f h. (step.taken_in f).0 h)
            (λ t h. ⊎_elim (λ same. subst (IsJoined terminals s'.goals) (sym same) joined-goal)
            (joined-still t) h) joined-before
            (IsTree-branch board old.ordered (IsSource s) (IsJoined terminals s.goals) start old.start_joined
            inside old.tree step.goal step.path step.branch);
        root = (step.taken_in start).1 (inr old.root);
        start_joined = joined-still start old.start_joined;
        goals = λ f h. old.goals f (goal-before f h);
        listed = subst (All (AnyWire board)) (sym step.appended)
            (All-append (AnyWire board) wires step.path old.listed
            (branch-listed board (IsSource s) step.goal step.path step.branch));
        long = omega (
          arith,
          old.long,
          step.total,
          ap (length_of wire_length) step.appended,
          sum_by-append wire_length wires step.path,
        );
        spent = record {
          ends = step.goal ∷ old.spent.ends;
          distinct = (goal-unspent step.goal step.marked, old.spent.distinct);
          there = λ t h. ⊎_elim (λ same. subst (IsJoined terminals s'.goals) same joined-goal)
              (λ there. joined-still t (old.spent.there t there))
              (contains-cons step.goal t old.spent.ends h);
          within = spent-more (IsJoined terminals s.goals) total distance step.goal old.spent
              (goal-unspent step.goal step.marked) (goal-far distance step.goal step.least step.marked);
        };
      }

    -- where the goals are far, the terminals are together as far
    pub far-together : (number g : ℕ) → IsGoal s.goals g → IsWithinGoals board wire_length s number
        → IsWithinWalks board wire_length start terminals (total + number)
    far-together number g marked least far each =
        let spent : total + number ≤ sum_by far (g ∷ old.spent.ends) =
        spent-more (IsJoined terminals s.goals) total number g old.spent (goal-unspent g marked)
        (goal-far number g least marked) far
        (λ u there. each u (listed u there)) in
        let sum : sum_by far (g ∷ old.spent.ends) ≤ sum_by far terminals =
        apart-least far (g ∷ old.spent.ends) terminals (
          goal-unspent g marked,
          old.spent.distinct,
        ) listed in
        omega (arith, spent, sum)
      where
        listed : (u : ℕ) → Contains (g ∷ old.spent.ends) u → Contains terminals u
        listed u there = ⊎_elim (λ same. subst (λ (x : ℕ). Contains terminals x) same (old.goals g marked))
            (λ in_ends. (old.spent.there u in_ends).0) (contains-cons g u old.spent.ends there)

    -- the tree is no longer than walks to the terminals
    pub tree-together : IsWithinWalks board wire_length start terminals total
    tree-together far each =
        let spent : total ≤ sum_by far old.spent.ends =
        old.spent.within far (λ u there. each u (old.spent.there u there).0) in
        let sum : sum_by far old.spent.ends ≤ sum_by far terminals =
        apart-least far old.spent.ends terminals old.spent.distinct
        (λ u there. (old.spent.there u there).0) in
        omega (arith, spent, sum)

    -- the tree is short
    pub total-small : ((e : ℕ) → AnyWire board e → wire_length e ≤ 2 ^ 51) → board.fpgas ≤ 4096
        → total ≤ 4095 * 2 ^ 51
    total-small limit small =
        let few : length old.ordered < board.fpgas =
        tree-few board old.ordered (IsSource s) (IsJoined terminals s.goals) old.tree in
        let same : length wires ≡ length old.ordered = length_permutation old.ordered wires old.moved in
        let most : length_of wire_length wires ≤ 4095 * 2 ^ 51 =
        length-few board wire_length limit small wires old.listed (omega (arith, same, few)) in
        omega (arith, most, old.long)

    -- when no goal is left the tree is minimal
    pub tree-minimal : HasNoGoals s.goals → (sorted : List ℕ) → IsPermutation wires sorted
        → IsMinimalTree board sorted terminals
    tree-minimal none sorted moved = record {
      joins = λ a b ha hb.
          let walk = old.tree.grown.joined a b (old.tree.grown.inside a (ha, none a))
          (old.tree.grown.inside b (hb, none b)) in (
            walk.0,
            IsWalk-wider board (Contains old.ordered) (Contains sorted)
                (λ e h. Contains-permutation old.ordered sorted e all h) a walk.0 b walk.1,
          );
      needs = λ e there joins. old.tree.grown.needs e (Contains-permutation sorted old.ordered e
          (IsPermutation-sym old.ordered sorted all) there)
          (λ a b ha hb.
          let walk = joins a b ha.0 hb.0 in (
            walk.0,
            IsWalk-wider board (λ d. Contains sorted d × (d ≢ e)) (λ d. Contains old.ordered d
                × (d ≢ e)) (λ d h. (
                  Contains-permutation sorted old.ordered d
                      (IsPermutation-sym old.ordered sorted all) h.0,
                  h.1,
                )) a walk.0 b walk.1,
          ));
    }
      where
        all : IsPermutation old.ordered sorted
        all = IsPermutation-trans old.ordered wires sorted old.moved moved

-- ---- the tree begins

module _ (board : Board) (wire_length : ℕ → ℕ) (start : ℕ) (terminals : List ℕ) (s : Labels) where
  pub IsJoining-start : start < board.fpgas → Contains terminals start → AreOthers terminals start s.goals
      → ((f : ℕ) → IsSource s f ↔ (f ≡ start)) → IsJoining board wire_length start terminals s [] 0
  IsJoining-start below root others sources = record {
    ordered = [];
    moved = IsPermutation-refl [];
    tree = IsTree-same board [] (λ f. f ≡ start) (λ t. t ≡ start) (IsSource s) (IsJoined terminals s.goals)
        (λ f h. (sources f).1 h) (λ f h. (sources f).0 h) alone-joined joined-alone
        (IsTree-one board start below);
    root = (sources start).1 refl;
    start_joined = alone-joined start refl;
    goals = λ f h. ((others f).0 h).0;
    listed = All-nil (AnyWire board);
    long = refl;
    spent = record {
      ends = [];
      distinct = tt;
      there = λ t h. absurd (omega (arith, h.1));
      within = λ far each. omega arith;
    };
  }
    where
      alone-joined : (t : ℕ) → t ≡ start → IsJoined terminals s.goals t
      alone-joined t same = (
        subst (λ (x : ℕ). Contains terminals x) (sym same) root,
        not-goal s.goals t (λ is. ((others t).0 is).1 same),
      )

      joined-alone : (t : ℕ) → IsJoined terminals s.goals t → t ≡ start
      joined-alone t joined = by (same_or_other t start)
        where
          by : (t ≡ start) ⊎ (t ≢ start) → t ≡ start
          by (inl same) = same
          by (inr other) = goal-or-not s.goals t ((others t).1 (joined.0, other)) joined.1
