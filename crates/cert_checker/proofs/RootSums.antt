-- sums over nets by the roots of their weights
use Rattle.std.proofs.Common.{◌≡◌, ℕ, ◌+◌, ◌*◌, ◌^◌, ◌<◌, ◌≤◌, ◌⊎◌, inl, inr, List, [], ◌∷◌, ◌++◌, length, map, get_or, take, drop, ap, ◌∙◌, arith}
use Rattle.std.specs.Prelude.{sum, All}
use Rattle.std.proofs.lemmas.Bool.{cases_lt}
use Rattle.std.proofs.lemmas.Nat.{mul-le}
use Rattle.std.proofs.lemmas.List.{get_or-map, length-map, take_at}
use Rattle.std.proofs.lemmas.List.Elements.{All-from_get_or}
use Rattle.std.proofs.lemmas.List.Sums.{sum_by-cons}
use Rattle.tdm_problem.specs.Board.{Board}
use Rattle.tdm_problem.specs.Roots.{root_of}
use Rattle.tdm_problem.specs.Sums.{sum_below}
use Rattle.tdm_problem.proofs.Roots.{root_of-square}
use Rattle.tdm_problem.proofs.SumsBelow.{sum_below-agree}
use Rattle.bound_cert.specs.Certificate.{Cert}
use Rattle.bound_cert.specs.Bound.{net_spread, root_of_net, root_spreads, root_sum, weight_of_net, weight_sum}
use Rattle.cert_checker.specs.NetWeights.{AreNetWeights}
use Rattle.cert_checker.proofs.NetWeightSums.{net_weight-le}

-- the root of a number of 64 bits
root-small : (n : ℕ) → n ≤ 2 ^ 64 → root_of n ≤ 2 ^ 32
root-small n small = go (cases_lt (2 ^ 32) (root_of n))
  where
    go : (2 ^ 32 < root_of n) ⊎ (root_of n ≤ 2 ^ 32) → root_of n ≤ 2 ^ 32
    go (inl more) = absurd (omega (
      arith,
      root_of-square n,
      small,
      mul-le (2 ^ 32 + 1) (2 ^ 32 + 1) (root_of n) (root_of n) (omega (arith, more))
          (omega (arith, more)),
    ))
    go (inr fine) = fine

-- the roots of numbers that sum to one of 64 bits
pub sum_of_roots-le : (xs : List ℕ) → sum xs ≤ 2 ^ 64 → sum (map root_of xs) ≤ length xs * 2 ^ 32
sum_of_roots-le [] small = omega arith
sum_of_roots-le (x ∷ xs) small =
    let whole : sum (x ∷ xs) ≡ x + sum xs = sum_by-cons (λ y. y) x xs in
    let roots : sum (map root_of (x ∷ xs)) ≡ root_of x + sum (map root_of xs) =
    sum_by-cons (λ y. y) (root_of x) (map root_of xs) in
    omega (
      arith,
      roots,
      root-small x (omega (arith, small, whole)),
      sum_of_roots-le xs (omega (arith, small, whole)),
    )

-- spreads by the roots of the listed weights
pub root_sum_is : (board : Board) (cert : Cert) (weights spreads : List ℕ) → AreNetWeights board cert weights
    → sum_below (length board.nets) (λ n. get_or (map root_of weights) n 0 * get_or spreads n 0)
    ≡ root_sum board cert (λ n. get_or spreads n 0)
root_sum_is board cert weights spreads are =
    sum_below-agree (length board.nets) (λ n. get_or (map root_of weights) n 0 * get_or spreads n 0) _
    (λ n there. ap (λ (root : ℕ). root * get_or spreads n 0)
    (get_or-map root_of weights n 0 0 (omega (arith, are.whole)) ∙ ap root_of (are.each n there)))

-- spreads by the listed weights
pub weight_sum_is : (board : Board) (cert : Cert) (weights spreads : List ℕ)
    → AreNetWeights board cert weights
    → sum_below (length board.nets) (λ n. get_or weights n 0 * get_or spreads n 0)
    ≡ weight_sum board cert (λ n. get_or spreads n 0)
weight_sum_is board cert weights spreads are =
    sum_below-agree (length board.nets) (λ n. get_or weights n 0 * get_or spreads n 0) _
    (λ n there. ap (λ (weight : ℕ). weight * get_or spreads n 0) (are.each n there))

-- the roots of the weights of nets are small where the groups together do not weigh much
pub roots-small : (board : Board) (cert : Cert) (roots : List ℕ) → length roots ≡ length board.nets
    → ((n : ℕ) → n < length board.nets → get_or roots n 0 ≡ root_of_net board cert n)
    → sum cert.weights ≤ 2 ^ 60 → All (λ root. root ≤ 2 ^ 32) roots
roots-small board cert roots whole are light =
    All-from_get_or (λ root. root ≤ 2 ^ 32) roots 0
    (λ n inside. omega (
      arith,
      are n (omega (arith, inside, whole)),
      root-small (weight_of_net board cert n) (omega (
        arith,
        light,
        net_weight-le board.groups cert.weights n,
      )),
    ))

-- spreads by choice by the listed roots
pub root_spreads_is : (board : Board) (cert : Cert) (roots : List ℕ)
    → ((n : ℕ) → n < length board.nets → get_or roots n 0 ≡ root_of_net board cert n)
    → sum_below (length board.nets) (λ n. get_or roots n 0 * net_spread board cert n)
    ≡ root_spreads board cert
root_spreads_is board cert roots are =
    sum_below-agree (length board.nets) (λ n. get_or roots n 0 * net_spread board cert n) _
    (λ n there. ap (λ (root : ℕ). root * net_spread board cert n) (are n there))

-- the roots that were written over a list's numbers
pub written_back : (numbers handed roots now : List ℕ) (size : ℕ) → handed ≡ numbers
    → roots ≡ map root_of handed → length handed ≡ size
    → now ≡ take size (roots ++ drop (length roots) numbers) → now ≡ map root_of numbers
written_back numbers handed roots now size is_handed is_roots is_size is_now =
    is_now
    ∙ (take_at roots (drop (length roots) numbers) size (ap length is_roots
    ∙ (length-map handed root_of ∙ is_size))
    ∙ (is_roots ∙ ap (map root_of) is_handed))
