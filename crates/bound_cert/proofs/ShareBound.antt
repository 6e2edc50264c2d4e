-- The bound by shares: on each wire the ratios fit, so that they are not all small.
use Rattle.std.proofs.Common.{◌≡◌, ℕ, zero, suc, ◌+◌, ◌-◌, ◌*◌, ◌<◌, ◌≤◌, List, [], ◌∷◌, length, map, refl, sym, ap, ◌∙◌, subst, arith}
use Rattle.std.specs.Prelude.{All, slice_index_or, sum, sum_by}
use Rattle.std.proofs.lemmas.List.Elements.{All-head, All-tail, All-weaker}
use Rattle.std.proofs.lemmas.List.Sums.{sum_by-cons}
use Rattle.tdm_problem.specs.declared.solution.WireUse.{WireUse}
use Rattle.tdm_problem.specs.Board.{Board, IsBoard}
use Rattle.tdm_problem.specs.Fit.{FitsLanes}
use Rattle.tdm_problem.specs.Routing.{Routing, uses_of, ratios_of}
use Rattle.tdm_problem.specs.Legal.{IsLegal, IsEvenRatio, lanes_of}
use Rattle.tdm_problem.specs.Sums.{sum_below}
use Rattle.tdm_problem.specs.Users.{User, users_on}
use Rattle.tdm_problem.specs.Value.{value_of}
use Rattle.tdm_problem.proofs.Exchanges.{sum_by-times, weighted_sums-by_wires, weighted_sums-le_value}
use Rattle.tdm_problem.proofs.Ratios.{All-ratios_on}
use Rattle.tdm_problem.proofs.Roots.{root_of-square}
use Rattle.tdm_problem.proofs.SumsBelow.{sum_below-add, sum_below-agree, sum_below-first, sum_below-le, sum_below-none, sum_below-times}
use Rattle.tdm_problem.proofs.Tangents.{tangent}
use Rattle.tdm_problem.proofs.Users.{ratios_on-users, uses-by_wires}
use Rattle.bound_cert.specs.Certificate.{Cert, length_of}
use Rattle.bound_cert.specs.Bound.{weight_of_net, root_of_net, root_sum}
use Rattle.bound_cert.proofs.NetSpreads.{net_length, AreShort, root-short}

-- what holds of each image under f holds of f at each element
All-from_map : {A B : Type 0} (P : B → Type 0) (f : A → B) (xs : List A) → All P (map f xs)
    → All (λ x. P (f x)) xs
All-from_map P f [] all k d there = absurd (omega arith)
All-from_map P f (x ∷ xs) all zero d there = All-head P (f x) (map f xs) all
All-from_map P f (x ∷ xs) all (suc k) d there = All-from_map P f xs (All-tail P (f x) (map f xs) all) k d
    (omega (arith, there))

-- the ratios of the nets on a wire are positive
users-positive : (routing : Routing) (e : ℕ) → All (λ uses. All IsEvenRatio (ratios_of uses)) routing
    → All (λ (x : User). 0 < x.ratio) (users_on routing e)
users-positive routing e even =
    let each : All (λ uses. All (λ (u : WireUse). u.wire ≡ e → 0 < u.ratio) uses) routing =
    All-weaker (λ uses. All IsEvenRatio (ratios_of uses)) (λ uses. All (λ (u : WireUse). u.wire ≡ e
    → 0 < u.ratio) uses)
    (λ uses all.
    All-weaker (λ (u : WireUse). IsEvenRatio u.ratio) (λ u. u.wire ≡ e
    → 0 < u.ratio) (λ u is here. omega (arith, is.1, is.2)) uses
    (All-from_map IsEvenRatio (λ (u : WireUse). u.ratio) uses all))
    routing even in
    All-from_map (λ r. 0 < r) (λ (x : User). x.ratio) (users_on routing e)
    (subst (λ (ratios : List ℕ). All (λ r. 0 < r) ratios) (ratios_on-users routing e)
    (All-ratios_on (λ r. 0 < r) e routing each))

-- the squares of the numbers at the first places of a list sum to at most the squares of all, and past its
-- end is 0
sum_below-squares : (n : ℕ) (xs : List ℕ) → sum_below n (λ e. slice_index_or xs e 0 * slice_index_or xs e 0)
    ≤ sum_by (λ x. x * x) xs
sum_below-squares n [] = omega (arith, sum_below-none n (λ e. 0 * 0) (λ i below. refl))
sum_below-squares zero (x ∷ xs) = omega arith
sum_below-squares (suc n) (x ∷ xs) =
    omega (
      arith,
      sum_below-first n (λ e. slice_index_or (x ∷ xs) e 0 * slice_index_or (x ∷ xs) e 0),
      sum_below-squares n xs,
      sum_by-cons (λ y. y * y) x xs,
    )

-- a common factor on the right
sum_by-times_right : {A : Type 0} (f : A → ℕ) (k : ℕ) (xs : List A)
    → sum_by (λ x. f x * k) xs ≡ k * sum_by f xs
sum_by-times_right f k [] = omega arith
sum_by-times_right f k (x ∷ xs) =
    omega (
      arith,
      sum_by-cons (λ y. f y * k) x xs,
      ap (λ (s : ℕ). k * s) (sum_by-cons f x xs),
      sum_by-times_right f k xs,
    )

module _ (board : Board) (cert : Cert) (routing : Routing) (spreads : ℕ → ℕ) (is : IsBoard board)
    (short : AreShort board cert routing spreads) (legal : IsLegal board routing) where
  -- what the nets on wire e add to the length of all nets, by the roots of their weights
  roots_on : ℕ → ℕ
  roots_on e = sum_by (λ (x : User). length_of cert e * root_of_net board cert x.net) (users_on routing e)

  -- the same by the weights and the ratios
  load_on : ℕ → ℕ
  load_on e = sum_by (λ (x : User). weight_of_net board cert x.net * x.ratio) (users_on routing e)

  -- on each wire, where the ratios fit, twice the first is at most the second and the square of the length
  roots_on-le_load : (e : ℕ) → e < length board.wires
      → 2 * roots_on e ≤ load_on e + length_of cert e * length_of cert e
  unfolding roots_on load_on
  roots_on-le_load e there =
      let users : List User = users_on routing e in
      let fits : FitsLanes (map (λ (x : User). x.ratio) users) (lanes_of board e) =
      subst (λ (ratios : List ℕ). FitsLanes ratios (lanes_of board e)) (ratios_on-users routing e)
      (legal.fits e there) in
      let slope = tangent (λ (x : User). x.ratio) (λ x. weight_of_net board cert x.net)
      (λ x. root_of_net board cert x.net) (lanes_of board e) (length_of cert e) users
      (users-positive routing e legal.even) (λ k d inside. root_of-square _) fits in
      omega (arith, slope, sum_by-times (length_of cert e) (λ (x : User). root_of_net board cert x.net) users)

  -- over all wires, with the value
  roots-le_value : 2 * sum_below (length board.wires) roots_on ≤ sum cert.weights * value_of board routing
      + sum_by (λ l. l * l) cert.lengths
  unfolding roots_on load_on
  roots-le_value =
      let wires : ℕ = length board.wires in
      omega (
        arith,
        sum_below-times wires 2 roots_on,
        sum_below-le wires (λ e. 2 * roots_on e) (λ e. load_on e + length_of cert e * length_of cert e)
            roots_on-le_load,
        sum_below-add wires load_on (λ e. length_of cert e * length_of cert e),
        sum_below-squares wires cert.lengths,
        weighted_sums-by_wires board routing cert.weights is legal.is_for,
        weighted_sums-le_value board routing cert.weights,
      )

  -- the lengths of all nets by the roots of their weights, net by net or wire by wire
  roots-by_wires : sum_below (length board.nets) (λ n. root_of_net board cert n * net_length cert routing n)
      ≡ sum_below (length board.wires) roots_on
  unfolding roots_on
  roots-by_wires =
      ap (λ (nets : ℕ). sum_below nets (λ n. root_of_net board cert n * net_length cert routing n))
      (sym legal.is_for.nets)
      ∙ sum_below-agree (length routing) (λ n. root_of_net board cert n * net_length cert routing n)
      (λ n. sum_by (λ (u : WireUse). length_of cert u.wire * root_of_net board cert n) (uses_of routing n))
      (λ n below. sym (sum_by-times_right (λ (u : WireUse). length_of cert u.wire) (root_of_net board cert n)
      (uses_of routing n)))
      ∙ uses-by_wires (λ n e ratio. length_of cert e * root_of_net board cert n) board routing legal.is_for

  -- the spreads of all nets by the roots of their weights are at most the lengths
  root_sum-le_lengths : root_sum board cert spreads ≤ sum_below (length board.nets)
      (λ n. root_of_net board cert n * net_length cert routing n)
  root_sum-le_lengths =
      sum_below-le (length board.nets) (λ n. root_of_net board cert n * spreads n)
      (λ n. root_of_net board cert n * net_length cert routing n)
      (root-short board cert routing spreads short)

  -- twice these spreads, less the squares of the lengths, are at most the sum of the weights times the value
  pub share-demand_le : 2 * root_sum board cert spreads - sum_by (λ l. l * l) cert.lengths
      ≤ sum cert.weights * value_of board routing
  share-demand_le = omega (arith, root_sum-le_lengths, roots-by_wires, roots-le_value)
