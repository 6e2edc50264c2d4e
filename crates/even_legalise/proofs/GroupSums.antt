-- the sums of the groups from those of the nets
use Rattle.std.proofs.Common.{◌≡◌, ℕ, zero, suc, ◌+◌, List, [], ◌∷◌, map, ap, sym, ◌∙◌, refl}
use Rattle.std.specs.Prelude.{sum, sum_by, slice_index}
use Rattle.std.proofs.lemmas.List.Sums.{sum_by-cons}
use Rattle.tdm_problem.specs.Routing.{Routing, ratios_of}
use Rattle.tdm_problem.specs.Value.{net_sum, group_sum}

-- the sum of a net is the one at its place
sum_at : (routing : Routing) (n : ℕ) → slice_index (map (λ uses. sum (ratios_of uses)) routing) n
    ≡ net_sum routing n
sum_at [] n = refl
sum_at (uses ∷ routing) zero = refl
sum_at (uses ∷ routing) (suc n) = sum_at routing n

pub group_from_nets : (routing : Routing) (group : List ℕ)
    → sum_by (λ n. slice_index (map (λ uses. sum (ratios_of uses)) routing) n) group ≡ group_sum routing group
group_from_nets routing [] = refl
group_from_nets routing (n ∷ group) =
    sum_by-cons (λ m. slice_index (map (λ uses. sum (ratios_of uses)) routing) m) n group
    ∙ (ap (λ (x : ℕ). x + sum_by (λ m. slice_index (map (λ uses. sum (ratios_of uses)) routing) m) group)
    (sum_at routing n)
    ∙ (ap (λ (x : ℕ). net_sum routing n + x) (group_from_nets routing group)
    ∙ sym (sum_by-cons (net_sum routing) n group)))

pub groups_from_nets : (routing : Routing) (groups : List (List ℕ))
    → map (λ group. sum_by (λ n. slice_index (map (λ uses. sum (ratios_of uses)) routing) n) group) groups
    ≡ map (group_sum routing) groups
groups_from_nets routing [] = refl
groups_from_nets routing (group ∷ groups) =
    ap (λ (x : ℕ). x ∷ map (λ g. sum_by (λ n. slice_index (map (λ uses. sum (ratios_of uses)) routing) n) g)
    groups) (group_from_nets routing group)
    ∙ ap (λ rest. group_sum routing group ∷ rest) (groups_from_nets routing groups)
