use Rattle.std.specs.Prelude.{ℕ, ◌*◌, ◌/◌, ◌^◌, max, List, map, sum_by}
use Rattle.std.specs.Int.{div_ceil}
use Rattle.tdm_problem.specs.Value.{largest}

-- the least claim beside these numbers: a 1024th of the largest, rounded up, and at least 1
abbrev pub least_claim : (numbers : List ℕ) → ℕ
least_claim numbers = max (div_ceil (largest numbers) 1024) 1

-- the claim of a number beside these: the number, and no less than the least claim
abbrev pub claim_in : (numbers : List ℕ) → (number : ℕ) → ℕ
claim_in numbers number = max number (least_claim numbers)

-- all claims together
abbrev pub claims_of : (numbers : List ℕ) → ℕ
claims_of numbers = sum_by (claim_in numbers) numbers

-- what a claim gets of some lanes, each of which has 2^64 units, where all claims together are so much;
-- rounded down
abbrev pub share_for : (all_claims lanes : ℕ) → (claim : ℕ) → ℕ
share_for all_claims lanes claim = lanes * 2 ^ 64 * claim / all_claims

-- the share of a number beside these
abbrev pub share_in : (numbers : List ℕ) → (lanes : ℕ) → (number : ℕ) → ℕ
share_in numbers lanes number = share_for (claims_of numbers) lanes (claim_in numbers number)

-- the share of each
abbrev pub shares_of : (numbers : List ℕ) → (lanes : ℕ) → List ℕ
shares_of numbers lanes = map (share_in numbers lanes) numbers
