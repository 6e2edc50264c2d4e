-- The first of the deepest groups, found one after another.
use Rattle.std.proofs.Common.{◌≡◌, ℕ, ◌+◌, ◌<◌, ◌≤◌, ◌⊎◌, List, [], length, get_or, ap, inl, inr, arith}
use Rattle.std.proofs.lemmas.Bool.{cases_lt}
use Rattle.tdm_problem.specs.Board.{Board}
use Rattle.bound_cert.specs.Depths.{group_depth}
use Rattle.bound_cert.specs.Makers.{IsFirstDeepest}

-- of the groups before group n, group g is the first of the deepest
pub record IsDeepestBelow (depths : List ℕ) (groups : List (List ℕ)) (n g most : ℕ) : Type 0 where
  pub below : g < n
  pub most_is : most ≡ group_depth depths (get_or groups g [])
  pub within : (k : ℕ) → k < n → group_depth depths (get_or groups k []) ≤ most
  pub first : (k : ℕ) → k < g → group_depth depths (get_or groups k []) < most

module _ (depths : List ℕ) (groups : List (List ℕ)) where
  pub deepest_one : (most : ℕ) → most ≡ group_depth depths (get_or groups 0 [])
      → IsDeepestBelow depths groups 1 0 most
  deepest_one most is = record {
    below = omega arith;
    most_is = is;
    within = λ k below. (let at : k ≡ 0 = omega arith in
        let depth : group_depth depths (get_or groups k []) ≡ group_depth depths (get_or groups 0 []) =
        ap (λ (j : ℕ). group_depth depths (get_or groups j [])) at in
        omega arith);
    first = λ k before. absurd (omega arith);
  }

  -- one group more that is no deeper
  pub deepest_kept : (n g most depth : ℕ) → IsDeepestBelow depths groups n g most
      → depth ≡ group_depth depths (get_or groups n []) → depth ≤ most
      → IsDeepestBelow depths groups (n + 1) g most
  deepest_kept n g most depth so_far is no_more = record {
    below = omega (arith, so_far.below);
    most_is = so_far.most_is;
    within = λ k below. go k (cases_lt k n) below;
    first = so_far.first;
  }
    where
      go : (k : ℕ) → (k < n) ⊎ (n ≤ k) → k < n + 1 → group_depth depths (get_or groups k []) ≤ most
      go k (inl before) below = so_far.within k before
      go k (inr past) below =
          let at : k ≡ n = omega arith in
          let there : group_depth depths (get_or groups k []) ≡ group_depth depths (get_or groups n []) =
          ap (λ (j : ℕ). group_depth depths (get_or groups j [])) at in
          omega arith

  -- one group more that is deeper
  pub deepest_new : (n g most depth : ℕ) → IsDeepestBelow depths groups n g most
      → depth ≡ group_depth depths (get_or groups n []) → most < depth
      → IsDeepestBelow depths groups (n + 1) n depth
  deepest_new n g most depth so_far is more = record {
    below = omega arith;
    most_is = is;
    within = λ k below. go k (cases_lt k n) below;
    first = λ k before. omega (arith, so_far.within k before);
  }
    where
      go : (k : ℕ) → (k < n) ⊎ (n ≤ k) → k < n + 1 → group_depth depths (get_or groups k []) ≤ depth
      go k (inl before) below = omega (arith, so_far.within k before)
      go k (inr past) below =
          let at : k ≡ n = omega arith in
          let there : group_depth depths (get_or groups k []) ≡ group_depth depths (get_or groups n []) =
          ap (λ (j : ℕ). group_depth depths (get_or groups j [])) at in
          omega arith

pub IsFirstDeepest-made : (board : Board) (depths : List ℕ) (n g most : ℕ)
    → IsDeepestBelow depths board.groups n g most → n ≡ length board.groups → IsFirstDeepest board depths g
IsFirstDeepest-made board depths n g most so_far all = record {
  there = omega (arith, so_far.below);
  most = λ k below. omega (arith, so_far.within k (omega arith), so_far.most_is);
  first = λ k before. omega (arith, so_far.first k before, so_far.most_is);
}

-- there is one first of the deepest groups
pub first_deepest_unique : (board : Board) (depths : List ℕ) (g h : ℕ) → IsFirstDeepest board depths g
    → IsFirstDeepest board depths h → g ≡ h
first_deepest_unique board depths g h first second = go (cases_lt g h) (cases_lt h g)
  where
    go : (g < h) ⊎ (h ≤ g) → (h < g) ⊎ (g ≤ h) → g ≡ h
    go (inl before) k = absurd (omega (arith, second.first g before, first.most h second.there))
    go (inr past) (inl before) = absurd (omega (arith, first.first h before, second.most g first.there))
    go (inr past) (inr also) = omega arith
