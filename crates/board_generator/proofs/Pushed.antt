-- How many numbers rows of three list.
use Rattle.std.proofs.Common.{◌≡◌, ℕ, zero, suc, ◌+◌, ◌*◌, ◌≤◌, List, length, map, ap, ◌∙◌, arith, zero-add}
use Rattle.std.specs.Prelude.{sum_by}
use Rattle.std.specs.List.{range_with_len}
use Rattle.std.proofs.lemmas.List.FromFn.{sum_by-map-range_with_len_more}

-- rows of three numbers at most list three times as many numbers as they are at most
pub few_listed : (row : ℕ → List ℕ) (short : (i : ℕ) → length (row i) ≤ 3) (n : ℕ)
    → sum_by length (map row (range_with_len 0 n)) ≤ 3 * n
few_listed row short zero = omega arith
few_listed row short (suc n) =
    let next : n + 1 ≡ suc n = omega arith in
    let more = sum_by-map-range_with_len_more length row 0 n n (zero-add n) in
    let total : sum_by length (map row (range_with_len 0 (suc n)))
    ≡ sum_by length (map row (range_with_len 0 n)) + length (row n) =
    ap (λ k. sum_by length (map row (range_with_len 0 k))) (let back : suc n ≡ n + 1 = omega arith in back)
    ∙ more in
    omega (arith, total, few_listed row short n, short n)
