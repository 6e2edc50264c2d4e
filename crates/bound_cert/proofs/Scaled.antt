-- Where all wires have one length, each distance is that length times the hops.
use Rattle.std.proofs.Common.{◌≡◌, ℕ, ◌*◌, ◌<◌, List, [], ◌∷◌, length, sym, ap, ◌∙◌, subst, inl, inr, arith}
use Rattle.std.proofs.Math.Nat.{mul-le-mul_left}
use Rattle.std.proofs.lemmas.List.Sums.{sum_by-cons}
use Rattle.tdm_problem.specs.Board.{Board}
use Rattle.tdm_problem.specs.Walk.{IsWalk, AnyWire}
use Rattle.tdm_problem.specs.Distance.{length_of, IsDistance, IsHopCount}
use Rattle.bound_cert.specs.Certificate.{value_at}
use Rattle.bound_cert.specs.Makers.{IsSourceValue, IsSourcePotential}

-- a distance is one number
pub distance_unique : (board : Board) (wire_length : ℕ → ℕ) (a b d far : ℕ)
    → IsDistance board wire_length a b d → IsDistance board wire_length a b far → d ≡ far
distance_unique board wire_length a b d far h k =
    omega (arith, h.least k.walk.0 k.walk.1, k.walk.2, k.least h.walk.0 h.walk.1, h.walk.2)

module _ (board : Board) (wire_length : ℕ → ℕ) (unit : ℕ) (even : (e : ℕ) → e < length board.wires
    → wire_length e ≡ unit) where
  -- a walk is as long as it has wires, times the one length
  walk_length : (a : ℕ) (es : List ℕ) (b : ℕ) → IsWalk board (AnyWire board) a es b
      → length_of wire_length es ≡ unit * length_of (λ _. 1) es
  walk_length a [] b walk = omega arith
  walk_length a (e ∷ es) b walk =
      omega (
        arith,
        sum_by-cons wire_length e es,
        ap (λ (n : ℕ). unit * n) (sum_by-cons (λ (_ : ℕ). 1) e es),
        even e walk.0,
        walk_length walk.1.0 es b walk.1.2,
      )

  pub distance_scaled : (a b hops : ℕ) → IsHopCount board a b hops
      → IsDistance board wire_length a b (unit * hops)
  distance_scaled a b hops is = record {
    walk = (is.walk.0, is.walk.1, walk_length a is.walk.0 b is.walk.1 ∙ ap (λ (h : ℕ). unit * h) is.walk.2);
    least = λ es walk. omega (arith, walk_length a es b walk, mul-le-mul_left unit (is.least es walk));
  }

  value_scaled : (source f value : ℕ) → IsSourceValue board (λ _. 1) source f value
      → IsSourceValue board wire_length source f (unit * value)
  value_scaled source f value (inl hops) = inl (distance_scaled source f value hops)
  value_scaled source f value (inr none) = inr (none.0, omega (arith, ap (λ (v : ℕ). unit * v) none.1))

  -- a potential of hops, with each value times the length, is a potential at that length
  pub potential_scaled : (source : ℕ) (hops potential : List ℕ) → IsSourcePotential board (λ _. 1) source hops
      → length potential ≡ length hops
      → ((f : ℕ) → f < length hops → value_at potential f ≡ unit * value_at hops f)
      → IsSourcePotential board wire_length source potential
  potential_scaled source hops potential is long values = record {
    count = long ∙ is.count;
    values = λ f below.
        subst (λ (v : ℕ). IsSourceValue board wire_length source f v)
        (sym (values f (omega (arith, below, is.count))))
        (value_scaled source f (value_at hops f) (is.values f below));
  }
