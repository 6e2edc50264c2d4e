-- sums over nets and groups
use Rattle.std.proofs.Common.{◌≡◌, ℕ, zero, suc, ◌+◌, ◌<◌, List, [], ◌∷◌, ◌++◌, length, map, take, sym, ap, ◌∙◌, refl, arith, Bool, true, false, cond, ltb, eqb}
use Rattle.std.specs.Prelude.{sum, sum_by, max, slice_index, slice_index_or}
use Rattle.std.specs.Ordering.{ord_max, nat_cmp, is_lt}
use Rattle.std.specs.declared.cmp.Ordering.TheVariants.{Less, Equal, Greater}
use Rattle.std.proofs.lemmas.Bool.{ltb-true, ltb-false}
use Rattle.std.proofs.lemmas.List.{map_more}
use Rattle.std.proofs.lemmas.List.Sums.{sum_by-cons}
use Rattle.tdm_problem.specs.Routing.{Routing, ratios_of}
use Rattle.tdm_problem.specs.Value.{net_sum, group_sum, largest}

-- the sum of a net is the one that stands at its place
pub sum_at_place : (routing : Routing) (n : ℕ) → slice_index (map (λ uses. sum (ratios_of uses)) routing) n
    ≡ net_sum routing n
sum_at_place [] n = refl
sum_at_place (uses ∷ routing) zero = refl
sum_at_place (uses ∷ routing) (suc n) = sum_at_place routing n

-- sums of equal terms are equal
sum_by_same : (f g : ℕ → ℕ) → ((n : ℕ) → f n ≡ g n) → (ns : List ℕ) → sum_by f ns ≡ sum_by g ns
sum_by_same f g same [] = refl
sum_by_same f g same (n ∷ ns) =
    sum_by-cons f n ns ∙ (ap (λ m. m + sum_by f ns) (same n) ∙ (ap (λ m. g n + m) (sum_by_same f g same ns)
    ∙ sym (sum_by-cons g n ns)))

pub group_sum_is : (routing : Routing) (sums group : List ℕ)
    → sums ≡ map (λ uses. sum (ratios_of uses)) routing → sum_by (λ n. slice_index sums n) group
    ≡ group_sum routing group
group_sum_is routing sums group is =
    sum_by_same (λ n. slice_index sums n) (net_sum routing) (λ n. ap (λ xs. slice_index xs n) is
    ∙ sum_at_place routing n) group

-- the largest of the numbers and one more
largest_push : (xs : List ℕ) (y : ℕ) → largest (xs ++ y ∷ []) ≡ max (largest xs) y
largest_push [] y = omega arith
largest_push (x ∷ xs) y = omega (arith, largest_push xs y)

-- the largest sum of one group more
pub largest_more : (routing : Routing) (groups : List (List ℕ)) (g : ℕ) → g < length groups
    → largest (map (group_sum routing) (take (g + 1) groups))
    ≡ max (largest (map (group_sum routing) (take g groups))) (group_sum routing (slice_index_or groups g []))
largest_more routing groups g inside =
    ap largest (map_more (group_sum routing) groups g [] inside)
    ∙ largest_push (map (group_sum routing) (take g groups))
    (group_sum routing (slice_index_or groups g []))

-- the larger of two numbers by their order is their maximum
larger : (a b : ℕ) (less same : Bool) → ltb b a ≡ less
    → cond (is_lt (cond less Less (cond same Equal Greater))) a b ≡ max a b
larger a b true same e = omega (arith, ltb-true b a e)
larger a b false true e = omega (arith, ltb-false b a e)
larger a b false false e = omega (arith, ltb-false b a e)

pub ord_max_is : (a b : ℕ) → ord_max nat_cmp a b ≡ max a b
ord_max_is a b = larger a b (ltb b a) (eqb b a) refl
