-- What readers of texts say.
use Rattle.std.proofs.Common.{◌≡◌, ◌⊎◌, ℕ, ◌<◌, ◌≤◌, inl, inr}
use Rattle.std.specs.Prelude.{nat_lt, if◌then◌else◌, Result, Ok, Err, OnOk}
use Rattle.std.proofs.lemmas.Bool.{cases_lt, lt-ltb}

-- a text that is refused where it is too long is within its limit where it is accepted
pub within-limit : {V R : Type 0} (limit count : ℕ) (refusal : R) (said : Result V R) (value : V)
    → (if nat_lt limit count then Err refusal else said) ≡ Ok value → count ≤ limit
within-limit {V} {R} limit count refusal said value is = by (cases_lt limit count)
  where
    by : (limit < count) ⊎ (count ≤ limit) → count ≤ limit
    by (inl long) = absurd (let e : ◌≡◌ {A = Result V R} (Err refusal) (Ok value) =
        rw (lt-ltb limit count long) at is in cc)
    by (inr short) = short

-- what holds at Ok of each of some things holds of one
pub of-one : {A E X : Type 0} (r : Result A E) (P : X → Type 0) (x : X) → OnOk r ((y : X) → P y)
    → OnOk r (P x)
of-one (Ok a) P x each = each x
of-one (Err e) P x each = tt
