-- How large the numbers of a certificate by shares become.
use Rattle.std.proofs.Common.{◌≡◌, ℕ, zero, suc, ◌+◌, ◌*◌, ◌/◌, ◌<◌, ◌≤◌, ◌⊎◌, refl, inl, inr, arith}
use Rattle.std.proofs.Math.Nat.{div-mul-le_self}
use Rattle.std.proofs.lemmas.Bool.{cases_lt}
use Rattle.std.proofs.lemmas.Nat.{mul-le}
use Rattle.bound_cert.specs.Limits.{uniform_weight}
use Rattle.bound_cert.specs.Floors.{part_of}

-- the root of a net's weight is at most 2^20
pub root_small : (root holders : ℕ) → root * root ≤ uniform_weight * holders → holders ≤ uniform_weight
    → root ≤ uniform_weight
root_small root holders square few = go (cases_lt uniform_weight root)
  where
    go : (uniform_weight < root) ⊎ (root ≤ uniform_weight) → root ≤ uniform_weight
    go (inl more) =
        let more' : uniform_weight + 1 ≤ root = omega arith in
        absurd (omega (arith, mul-le (uniform_weight + 1) (uniform_weight + 1) root root more' more'))
    go (inr fine) = fine

-- a part of nothing, and of something
pub part_none : (whole parts : ℕ) → parts ≡ 0 → 0 ≡ part_of whole parts
part_none whole zero none = refl
part_none whole (suc p) none = absurd (omega arith)

pub part_some : (whole parts : ℕ) → (parts ≡ 0 → ⊥) → whole / parts ≡ part_of whole parts
part_some whole zero some = absurd (some refl)
part_some whole (suc p) some = refl

-- a part is at most what, so many times, reaches the whole
pub part_within : (whole parts most : ℕ) → (parts ≡ 0 → ⊥) → whole ≤ most * parts → whole / parts ≤ most
part_within whole parts most some limit = go (cases_lt most (whole / parts))
  where
    go : (most < whole / parts) ⊎ (whole / parts ≤ most) → whole / parts ≤ most
    go (inl more) =
        let more' : most + 1 ≤ whole / parts = omega arith in
        absurd (some (omega (
          arith,
          div-mul-le_self whole parts,
          mul-le (most + 1) parts (whole / parts) parts more' (omega arith),
        )))
    go (inr fine) = fine
