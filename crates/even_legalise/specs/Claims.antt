-- What the nets of each wire claim of it.
use Rattle.std.specs.Prelude.{◌≡◌, ℕ, ◌<◌, List, length, slice_index}
use Rattle.tdm_problem.specs.Value.{largest}
use Rattle.ratio_shares.specs.Shares.{least_claim, claims_of}
use Rattle.even_legalise.specs.Shared.{numbers_on}

-- of each wire the largest number of a net on it
pub record HasLargest (trees : List (List ℕ)) (numbers : List ℕ) (wires : ℕ) (most : List ℕ) : Type 0 where
  pub whole : length most ≡ wires
  pub each : (e : ℕ) → e < wires → slice_index most e ≡ largest (numbers_on trees numbers e)

-- of each wire the least claim on it
pub record HasLeast (trees : List (List ℕ)) (numbers : List ℕ) (wires : ℕ) (least : List ℕ) : Type 0 where
  pub whole : length least ≡ wires
  pub each : (e : ℕ) → e < wires → slice_index least e ≡ least_claim (numbers_on trees numbers e)

-- of each wire all claims on it together
pub record HasClaims (trees : List (List ℕ)) (numbers : List ℕ) (wires : ℕ) (claims : List ℕ) : Type 0 where
  pub whole : length claims ≡ wires
  pub each : (e : ℕ) → e < wires → slice_index claims e ≡ claims_of (numbers_on trees numbers e)
