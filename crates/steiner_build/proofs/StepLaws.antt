-- The nearest goal with its way back is a step by which the tree grows.
use Rattle.std.proofs.Common.{◌≡◌, ℕ, false, List, Option, None, ◌++◌, ◌-◌, length, take, drop, sym, ap, ◌∙◌, subst, inl, inr, ⊎_elim, arith}
use Rattle.std.specs.Prelude.{slice_set, slice_index_or, reverse, ◌↔◌}
use Rattle.std.proofs.lemmas.List.{take_rest, drop_at}
use Rattle.std.specs.Option.{unwrap_or}
use Rattle.tdm_problem.specs.Board.{Board}
use Rattle.tdm_problem.specs.Distance.{length_of}
use Rattle.shortest_forest.specs.Arcs.{both_ways, IsGoal, IsLowerBound}
use Rattle.shortest_forest.specs.Labels.{Labels, label_at, distance_in, IsAtLabel, IsSource, IsWayBack, IsUnderWay, IsNearest, AreFar, KeepsMarks}
use Rattle.shortest_forest.proofs.ArcWays.{nearest-way-law}
use Rattle.shortest_forest.proofs.WayLaws.{arc_walk-from_walk, arc_walk-to_walk, length-reversed}
use Rattle.steiner_build.specs.Joining.{IsTakenIn, IsWithinGoals, IsJoinedBy}
use Rattle.steiner_build.proofs.WayLaws.{way-branch, branch-as}

-- what was appended is the part past the list as it was
pub appended-part : (old es new : List ℕ) (n : ℕ) → n ≡ length old → new ≡ old ++ es
    → take (length new - n) (drop n new) ≡ es
appended-part old es new n count is =
    take_rest new n ∙ ap (λ (xs : List ℕ). drop n xs) is ∙ drop_at old es n (sym count)

-- the distance that is read is that of the label
pub distance-read : (s : Labels) (f distance : ℕ) → IsAtLabel s f distance → (read : Option ℕ) (value : ℕ)
    → read ≡ distance_in (label_at s f) → value ≡ unwrap_or read 0 → value ≡ distance
distance-read s f distance at read value is valued = valued ∙ ap (λ (o : Option ℕ). unwrap_or o 0) (is
    ∙ ap distance_in at.1)

module _ (board : Board) (l : ℕ → ℕ) (bound : ℕ → ℕ) (cap : ℕ) (old mid : Labels) (marks : KeepsMarks old mid)
    (sources : (f : ℕ) → IsSource mid f ↔ IsSource old f)
    (lawful : IsLowerBound board (both_ways l) old.goals bound) where
  still-lawful : IsLowerBound board (both_ways l) mid.goals bound
  still-lawful f es g total marked walk =
      lawful f es g total (subst (λ gs. IsGoal gs g) marks.goals marked) walk

  still-marked : (g : ℕ) → IsGoal old.goals g → IsGoal mid.goals g
  still-marked g marked = subst (λ gs. IsGoal gs g) (sym marks.goals) marked

  -- where no goal is near, all are far
  pub far-goals : AreFar board (both_ways l) bound cap mid → IsWithinGoals board l old cap
  far-goals far a g es source marked walk =
      let least = far.least still-lawful a 0 es g (length_of l es) (None, (sources a).1 source)
      (still-marked g marked) (arc_walk-from_walk board l a es g walk) in
      omega (arith, least)

  module _ (goal : ℕ) (near : IsNearest board (both_ways l) bound cap mid goal) where
    near-goals : IsWithinGoals board l old near.distance
    near-goals a g es source marked walk =
        let least = near.least still-lawful a 0 es g (length_of l es) (None, (sources a).1 source)
        (still-marked g marked) (arc_walk-from_walk board l a es g walk) in
        omega (arith, least)

    pub IsJoinedBy-made : IsUnderWay board (both_ways l) bound cap mid → (es : List ℕ) (source : ℕ)
        → IsWayBack board mid goal es source
        → (left new : Labels) → left.labels ≡ mid.labels → left.goals ≡ slice_set mid.goals goal false
        → new.goals ≡ left.goals → IsTakenIn board goal es left new
        → (wires wires' : List ℕ) → wires' ≡ wires ++ es
        → IsJoinedBy board l old new wires wires' near.distance
    IsJoinedBy-made under es source way left new labels unmarked same taken wires wires' appended = record {
      goal = goal;
      path = es;
      marked = subst (λ gs. IsGoal gs goal) marks.goals near.marked;
      branch = branch-as board goal es (IsSource mid) (IsSource old) (λ f. (sources f).0) (λ f. (sources f).1)
          (way-branch board mid goal es source way);
      appended = appended;
      taken_in = λ x. (
        λ h. ⊎_elim (λ on. inl on) (λ is. inr ((sources x).0 (was-source x is))) ((taken x).0 h),
        λ h. (taken x).1 (⊎_elim (λ on. inl on) (λ is. inr (is-source x ((sources x).1 is))) h),
      );
      goals = same ∙ unmarked ∙ ap (λ gs. slice_set gs goal false) marks.goals;
      total = as_long;
      least = near-goals;
    }
      where
        was-source : (x : ℕ) → IsSource left x → IsSource mid x
        was-source x is = sym (ap (λ ls. slice_index_or ls x None) labels) ∙ is

        is-source : (x : ℕ) → IsSource mid x → IsSource left x
        is-source x is = ap (λ ls. slice_index_or ls x None) labels ∙ is

        -- the way back, turned round, is a walk of the distance
        as_long : near.distance ≡ length_of l es
        as_long =
            let forth = nearest-way-law board (both_ways l) mid under.labelled bound cap still-lawful goal
            near es source way in
            (arc_walk-to_walk board l source (reverse es) goal near.distance forth).1 ∙ length-reversed l es
