-- A mean of two numbers, squared, is at least their product.
use Rattle.std.proofs.Common.{ℕ, ◌+◌, ◌-◌, ◌*◌, ◌<◌, ◌≤◌, ◌≡◌, arith, inl, inr}
use Rattle.std.proofs.lemmas.Bool.{cases_lt}
use Rattle.std.proofs.lemmas.Nat.{mul-le}

-- the first factor is the smaller one, by e below the mean
smaller_first : (a e b : ℕ) → b ≤ a + e + e → a * b ≤ (a + e) * (a + e)
smaller_first a e b h = let p = mul-le a b a (a + e + e) (omega arith) h in omega arith

-- the first factor is the larger one, by e above the mean
larger_first : (c e b : ℕ) → b + e ≤ c → (c + e) * b ≤ c * c
larger_first c e b h =
    let p = mul-le c (b + e) c c (omega arith) h in
    let q = mul-le e b e c (omega arith) (omega arith) in
    omega arith

pub product_at_most_square : (a b c : ℕ) → a + b ≤ 2 * c → a * b ≤ c * c
product_at_most_square a b c h = elim (cases_lt c a) [
  | inl above ↦ let same : a ≡ c + (a - c) = omega arith in let p = larger_first c (a - c) b (omega arith) in
      rw same p
  | inr below ↦ let same : c ≡ a + (c - a) = omega arith in let p = smaller_first a (c - a) b (omega arith) in
      rw same p
]

-- the mean of a guess g and the quotient q of n by g is not below the root of n
pub mean_not_below_root : (n g q m : ℕ) → n < (q + 1) * g → g + q ≤ 2 * m + 1 → n < (m + 1) * (m + 1)
mean_not_below_root n g q m below mean =
    let p = product_at_most_square (q + 1) g (m + 1) (omega arith) in omega arith
