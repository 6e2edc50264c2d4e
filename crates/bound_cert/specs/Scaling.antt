-- Potentials whose values are all times one length.
use Rattle.std.specs.Prelude.{◌≡◌, ℕ, ◌*◌, ◌<◌, List, [], length, slice_index_or}
use Rattle.bound_cert.specs.Certificate.{value_at}

-- each new value is the old one times the length
pub record IsScaled (unit : ℕ) (old new : List ℕ) : Type 0 where
  pub count : length new ≡ length old
  pub values : (f : ℕ) → f < length old → value_at new f ≡ unit * value_at old f

-- so is each value of each potential
pub record AreScaled (unit : ℕ) (old new : List (List ℕ)) : Type 0 where
  pub count : length new ≡ length old
  pub each : (p : ℕ) → p < length old → IsScaled unit (slice_index_or old p []) (slice_index_or new p [])
