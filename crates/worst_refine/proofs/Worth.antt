-- Lowered ratios raise no sum of a group, and keep the trees.
use Rattle.std.proofs.Common.{◌≡◌, ℕ, suc, ◌<◌, ◌≤◌, List, [], ◌∷◌, length, map, ◌∙◌, arith, sym}
use Rattle.std.specs.Prelude.{slice_index, sum}
use Rattle.std.proofs.lemmas.List.{ext_get_or, get_or-map, length-map}
use Rattle.std.proofs.lemmas.List.Sums.{sum_by-cons, sum_by-le-sum_by}
use Rattle.tdm_problem.specs.Board.{Board}
use Rattle.tdm_problem.specs.Routing.{Routing, wires_of, ratios_of, uses_of}
use Rattle.tdm_problem.specs.Trees.{trees_of}
use Rattle.tdm_problem.specs.Value.{group_sum, largest, net_sum, value_of}
use Rattle.worst_refine.specs.Lowered.{IsLowered}

-- a list of lower numbers has a lower sum
sum_below : (low high : List ℕ) → ((place : ℕ) → slice_index low place ≤ slice_index high place)
    → sum low ≤ sum high
sum_below [] high below = omega arith
sum_below (x ∷ low) [] below =
    omega (arith, below 0, sum_below low [] (λ place. below (suc place)), sum_by-cons (λ (n : ℕ). n) x low)
sum_below (x ∷ low) (y ∷ high) below =
    omega (
      arith,
      below 0,
      sum_below low high (λ place. below (suc place)),
      sum_by-cons (λ (n : ℕ). n) x low,
      sum_by-cons (λ (n : ℕ). n) y high,
    )

-- and a lower largest
largest_below : (low high : List ℕ → ℕ) (groups : List (List ℕ)) → ((group : List ℕ) → low group ≤ high group)
    → largest (map low groups) ≤ largest (map high groups)
largest_below low high [] below = omega arith
largest_below low high (group ∷ groups) below =
    omega (arith, below group, largest_below low high groups below)

-- lowered ratios do not raise the value
pub value_lowered : (board : Board) (old new : Routing) → IsLowered old new
    → value_of board new ≤ value_of board old
value_lowered board old new lowered =
    largest_below (group_sum new) (group_sum old) board.groups
    (λ group. sum_by-le-sum_by (net_sum new) (net_sum old) group (λ n. sum_below (ratios_of (uses_of new n))
    (ratios_of (uses_of old n)) (lowered.ratios n)))

-- nor do they change a tree
pub trees_lowered : (old new : Routing) → IsLowered old new → trees_of new ≡ trees_of old
trees_lowered old new lowered =
    ext_get_or [] (trees_of new) (trees_of old) (length-map new wires_of ∙ lowered.nets
    ∙ sym (length-map old wires_of))
    (λ n inside.
    let there : n < length new = omega (arith, inside, length-map new wires_of) in
    get_or-map wires_of new n [] [] there ∙ lowered.wires n
    ∙ sym (get_or-map wires_of old n [] [] (omega (arith, there, lowered.nets))))
