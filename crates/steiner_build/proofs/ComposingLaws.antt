-- Goal after goal is joined, below a cap on the whole.
use Rattle.std.proofs.Common.{◌≡◌, ℕ, ◌+◌, ◌-◌, ◌*◌, ◌^◌, ◌<◌, ◌≤◌, List, [], Some, None, replicate, length, sym, ap, ◌∙◌, subst, inl, ⊎_elim, arith}
use Rattle.std.specs.Prelude.{Contains, slice_set}
use Rattle.tdm_problem.specs.Board.{Board}
use Rattle.tdm_problem.specs.Walk.{Links, AnyWire}
use Rattle.tdm_problem.specs.Distance.{length_of}
use Rattle.shortest_forest.specs.Arcs.{both_ways, IsGoal}
use Rattle.shortest_forest.specs.Labels.{Labels, IsSource, IsUnderWay}
use Rattle.shortest_forest.proofs.UnderWay.{IsUnderWay-falls, begun_unlabelled}
use Rattle.steiner_build.specs.Building.{IsWithinWalks}
use Rattle.steiner_build.specs.Joining.{goal_count, HasNoGoals, AreOthers, IsWithinGoals, IsJoinedBy, IsJoining, IsSomeBeyond}
use Rattle.steiner_build.proofs.JoiningLaws.{goal_count-less, some-left, none-left, IsJoining-start, IsJoining-more, far-together, total-small}
use Rattle.steiner_build.proofs.TakingLaws.{source-new}
use Rattle.std.proofs.lemmas.List.{length-set}

-- after some goals were joined, so many are left, and the tree is shorter than the cap
pub record IsComposing (board : Board) (l bound : ℕ → ℕ) (cap start : ℕ) (old now : Labels) (wires : List ℕ)
    (total left : ℕ) : Type 0 where
  pub under_way : IsUnderWay board (both_ways l) bound (cap - total) now
  pub below : total < cap
  pub count : left ≡ goal_count now.goals
  pub goals : (f : ℕ) → IsGoal now.goals f → IsGoal old.goals f
  pub size : length now.goals ≡ length old.goals
  pub labels : length now.labels ≡ length old.labels
  pub joining : (terminals : List ℕ) → Contains terminals start → AreOthers terminals start old.goals
      → IsJoining board l start terminals now wires total

pub IsComposing-start : (board : Board) (l bound : ℕ → ℕ) (cap start : ℕ) (old now : Labels) (others n : ℕ)
    → 0 < cap → start < board.fpgas → others ≡ goal_count old.goals → old.labels ≡ replicate n None
    → start < length old.labels
    → IsUnderWay board (both_ways l) bound cap now → now.goals ≡ old.goals
    → now.labels ≡ slice_set old.labels start (Some (record { distance = 0; wire = None }))
    → IsComposing board l bound cap start old now [] 0 others
IsComposing-start board l bound cap start old now others n some there count begun within under goals labels =
    record {
      under_way = IsUnderWay-falls board (both_ways l) bound bound cap (cap - 0) now (λ f. omega arith)
          (omega arith) under;
      below = some;
      count = count ∙ ap goal_count (sym goals);
      goals = λ f h. subst (λ gs. IsGoal gs f) goals h;
      size = ap length goals;
      labels = ap length labels ∙ length-set old.labels start (Some (record { distance = 0; wire = None }));
      joining = λ terminals root others. IsJoining-start board l start terminals now there root
          (subst (λ gs. AreOthers terminals start gs) (sym goals) others)
          (λ f. (only f, λ same. (source-new old now start within labels f).1 (inl (sym same))));
    }
  where
    only : (f : ℕ) → IsSource now f → f ≡ start
    only f h = ⊎_elim (λ same. sym same) (λ was. none f was) ((source-new old now start within labels f).0 h)
      where
        none : (f : ℕ) → IsSource old f → f ≡ start
        none f was = let h : None ≡ Some (record { distance = 0; wire = None }) =
            sym (begun_unlabelled old n begun f) ∙ was in absurd (cc h)

module _ (board : Board) (l bound : ℕ → ℕ) (cap start : ℕ) (old now : Labels) (wires : List ℕ)
    (total left : ℕ) (composing : IsComposing board l bound cap start old now wires total left) where
  pub IsComposing-more : ((e a b : ℕ) → Links board e a b → a < board.fpgas)
      → (new : Labels) (bound' : ℕ → ℕ) (wires' : List ℕ) (distance : ℕ)
      → IsJoinedBy board l now new wires wires' distance → distance < cap - total
      → IsUnderWay board (both_ways l) bound' (cap - total) new → length new.goals ≡ length now.goals
      → length new.labels ≡ length now.labels → ((f : ℕ) → IsGoal new.goals f → IsGoal now.goals f)
      → IsComposing board l bound' cap start old new wires' (total + distance) (left - 1)
  IsComposing-more inside new bound' wires' distance step near under size labels goals = record {
    under_way = IsUnderWay-falls board (both_ways l) bound' bound' (cap - total) (cap - (total + distance))
        new (λ f. omega arith) (omega arith) under;
    below = omega (arith, near, composing.below);
    count = omega (
      arith,
      composing.count,
      goal_count-less now.goals step.goal step.marked,
      ap goal_count step.goals,
    );
    goals = λ f h. composing.goals f (goals f h);
    size = size ∙ composing.size;
    labels = labels ∙ composing.labels;
    joining = λ terminals root others. IsJoining-more board l start terminals now wires total
        (composing.joining terminals root others) inside new wires' distance step;
  }

  pub composing-far : 0 < left → IsWithinGoals board l now (cap - total) → (terminals : List ℕ)
      → Contains terminals start → AreOthers terminals start old.goals
      → IsWithinWalks board l start terminals cap
  composing-far some far terminals root others =
      let goal = some-left now.goals (omega (arith, some, composing.count)) in
      let whole : total + (cap - total) ≡ cap = omega (arith, composing.below) in
      let P : ℕ → Type 0 = λ n. IsWithinWalks board l start terminals n in
      subst P whole (far-together board l start terminals now wires total
      (composing.joining terminals root others) (cap - total) goal.0 goal.1 far)

  pub composing-done : left ≡ 0 → HasNoGoals now.goals
  composing-done done = none-left now.goals (sym composing.count ∙ done)

  -- some terminal that is left is so far that it alone reaches the cap, but for the tree so far
  pub composing-beyond : ((e : ℕ) → AnyWire board e → l e ≤ 2 ^ 51) → board.fpgas ≤ 4096 → 0 < left
      → IsWithinGoals board l now (cap - total) → (terminals : List ℕ) → Contains terminals start
      → AreOthers terminals start old.goals → IsSomeBeyond board l start terminals cap
  composing-beyond limit small some far terminals root others =
      let goal = some-left now.goals (omega (arith, some, composing.count)) in
      let joining = composing.joining terminals root others in
      let few : total ≤ 4095 * 2 ^ 51 =
      total-small board l start terminals now wires total joining limit small in (
        goal.0,
        joining.goals goal.0 goal.1,
        λ es walk.
            let least : cap - total ≤ length_of l es = far start goal.0 es joining.root goal.1 walk in
            omega (arith, least, few),
      )
