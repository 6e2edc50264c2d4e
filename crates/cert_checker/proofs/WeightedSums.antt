-- A sum of spreads, each times its factor.
use Rattle.std.proofs.Common.{◌≡◌, ℕ, suc, ◌+◌, ◌*◌, ◌^◌, ◌<◌, ◌≤◌, List, length, take, get_or, ap, arith, mul-le-mul_left, mul-le-mul_right}
use Rattle.std.specs.Prelude.{All, sum}
use Rattle.std.proofs.lemmas.List.Sums.{sum_by_more, sum_by-take-le}
use Rattle.tdm_problem.specs.Sums.{sum_below}

module _ (factors spreads : List ℕ) where
  -- so much come the first n to
  pub record IsSummed (n total : ℕ) : Type 0 where
    pub is : total ≡ sum_below n (λ n. get_or factors n 0 * get_or spreads n 0)
    pub within : (most : ℕ) → All (λ s. s ≤ most) spreads → total ≤ sum (take n factors) * most

  pub summed-more : length spreads ≡ length factors → (n total : ℕ) → n < length factors → IsSummed n total
      → IsSummed (n + 1) (total + get_or factors n 0 * get_or spreads n 0)
  summed-more even n total below so_far = record {
    is =
        let next : n + 1 ≡ suc n = omega arith in
        let here : sum_below (n + 1) (λ n. get_or factors n 0 * get_or spreads n 0)
        ≡ sum_below (suc n) (λ n. get_or factors n 0 * get_or spreads n 0) =
        ap (λ k. sum_below k (λ n. get_or factors n 0 * get_or spreads n 0)) next in
        omega (arith, so_far.is, here);
    within = λ most small.
        let more : sum (take (n + 1) factors) ≡ sum (take n factors) + get_or factors n 0 =
        sum_by_more (λ x. x) factors n 0 below in
        let one : get_or factors n 0 * get_or spreads n 0 ≤ get_or factors n 0 * most =
        mul-le-mul_left (get_or factors n 0) (small n 0 (omega (arith, even, below))) in
        let grown : sum (take (n + 1) factors) * most ≡ (sum (take n factors) + get_or factors n 0) * most =
        ap (λ s. s * most) more in
        omega (arith, so_far.within most small, one, grown);
  }

  pub summed-fits : length spreads ≡ length factors → (n total most : ℕ) → n < length factors
      → IsSummed n total → All (λ s. s ≤ most) spreads → sum factors * most ≤ 2 ^ 124
      → total + get_or factors n 0 * get_or spreads n 0 ≤ 2 ^ 124
  summed-fits even n total most below so_far small fits =
      let next = summed-more even n total below so_far in
      let part : sum (take (n + 1) factors) * most ≤ sum factors * most =
      mul-le-mul_right most (sum_by-take-le (λ x. x) factors (n + 1)) in
      omega (arith, next.within most small, part, fits)
