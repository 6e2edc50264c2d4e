-- The spread of a net is its depth over the lengths of the wires.
use Rattle.std.proofs.Common.{◌≡◌, ℕ, zero, suc, ◌*◌, ◌<◌, ◌≤◌, List, [], ◌∷◌, length, map, refl, ap, ◌∙◌, inl, inr, arith}
use Rattle.std.specs.Prelude.{Contains}
use Rattle.std.proofs.Math.Nat.{mul-le-mul_left}
use Rattle.std.proofs.lemmas.List.Elements.{All-contains}
use Rattle.tdm_problem.specs.Board.{Board, IsBoard, IsRowBelow}
use Rattle.tdm_problem.specs.Distance.{IsDistance}
use Rattle.tdm_problem.specs.Legal.{terminals_of, source_of}
use Rattle.tdm_problem.specs.Value.{largest}
use Rattle.bound_cert.specs.Certificate.{Cert, length_of, potential_of, value_at, choice_of}
use Rattle.bound_cert.specs.Bound.{smallest, spread, chosen_spread, net_spread}
use Rattle.bound_cert.specs.Depths.{IsDepth, IsDepthOver, AreDepths, depth_of}
use Rattle.bound_cert.specs.Makers.{IsSourceValue, IsSourcePotential, HasSourcePotentials}
use Rattle.bound_cert.proofs.Largest.{largest-above, largest-within}
use Rattle.bound_cert.proofs.Scaled.{distance_unique, distance_scaled}
use Rattle.bound_cert.proofs.DepthLaws.{terminals_row, source_in}
use Rattle.bound_cert.proofs.Choices.{chosen}

-- the smallest of some numbers is below each
smallest-below : (f : ℕ → ℕ) (xs : List ℕ) (x : ℕ) → Contains xs x → smallest (map f xs) ≤ f x
smallest-below f [] x (k, there, is) = absurd (omega arith)
smallest-below f (y ∷ []) x (zero, there, is) = omega (arith, ap f is)
smallest-below f (y ∷ []) x (suc k, there, is) = absurd (omega arith)
smallest-below f (y ∷ z ∷ xs) x (zero, there, is) = omega (arith, ap f is)
smallest-below f (y ∷ z ∷ xs) x (suc k, there, is) =
    omega (arith, smallest-below f (z ∷ xs) x (k, omega arith, is))

module _ (board : Board) (wire_length : ℕ → ℕ) where
  value_at_distance : (source f far value : ℕ) → IsDistance board wire_length source f far
      → IsSourceValue board wire_length source f value → value ≡ far
  value_at_distance source f far value is (inl distance) =
      distance_unique board wire_length source f value far distance is
  value_at_distance source f far value is (inr none) = absurd (none.0 is.walk.0 is.walk.1)

  module _ (n depth : ℕ) (potential : List ℕ) (row : IsRowBelow board.fpgas (terminals_of board n))
      (is : IsDepthOver board wire_length n depth) (from_source : IsSourcePotential board wire_length
      (source_of board n) potential) where
    value_of_terminal : (f far : ℕ) → Contains (terminals_of board n) f
        → IsDistance board wire_length (source_of board n) f far → value_at potential f ≡ far
    value_of_terminal f far inside distance =
        value_at_distance (source_of board n) f far (value_at potential f) distance
        (from_source.values f (All-contains (λ x. x < board.fpgas) (terminals_of board n) f row.below inside))

    largest_is : largest (map (value_at potential) (terminals_of board n)) ≡ depth
    largest_is =
        let above = largest-above (value_at potential) (terminals_of board n) is.reached.0 is.reached.1 in
        let far = value_of_terminal is.reached.0 depth is.reached.1 is.reached.2 in
        omega (
          arith,
          above,
          far,
          largest-within (value_at potential) (terminals_of board n) depth
              (λ f inside.
              let near = is.within f inside in
              omega (arith, value_of_terminal f near.0 inside near.1, near.2)),
        )

    smallest_is : smallest (map (value_at potential) (terminals_of board n)) ≡ 0
    smallest_is =
        let source = source_in board n row in
        let near = is.within (source_of board n) source in
        let none : near.0 ≡ 0 = omega (arith, near.1.least [] refl) in
        let value : value_at potential (source_of board n) ≡ near.0 =
        value_of_terminal (source_of board n) near.0 source near.1 in
        omega (
          arith,
          smallest-below (value_at potential) (terminals_of board n) (source_of board n) source,
          value,
          none,
        )

    spread_is : spread potential (terminals_of board n) ≡ depth
    spread_is = omega (arith, largest_is, smallest_is)

pub net_spread_over : (board : Board) (cert : Cert) (n depth : ℕ) → IsBoard board
    → HasSourcePotentials board cert → n < length board.nets → IsDepthOver board (length_of cert) n depth
    → net_spread board cert n ≡ depth
net_spread_over board cert n depth is has there over =
    let chose = chosen board (length_of cert) cert.potentials cert.choices n has.potentials has.choices
    there in
    let choice : choice_of cert n ≡ suc chose.place = omega (arith, chose.choice_is) in
    ap (chosen_spread cert (terminals_of board n)) choice
    ∙ spread_is board (length_of cert) n depth (potential_of cert chose.place)
    (terminals_row board n is there) over chose.potential

-- where all wires have one length, the depth is that length times the hops
IsDepthOver-scaled : (board : Board) (wire_length : ℕ → ℕ) (unit : ℕ)
    → ((e : ℕ) → e < length board.wires → wire_length e ≡ unit) → (n depth : ℕ) → IsDepth board n depth
    → IsDepthOver board wire_length n (unit * depth)
IsDepthOver-scaled board wire_length unit even n depth is = record {
  within = λ f inside. (let near = is.within f inside in (
    unit * near.0,
    distance_scaled board wire_length unit even (source_of board n) f near.0 near.1,
    mul-le-mul_left unit near.2,
  ));
  reached = (
    is.reached.0,
    is.reached.1,
    distance_scaled board wire_length unit even (source_of board n) is.reached.0 depth is.reached.2,
  );
}

pub net_spread_is : (board : Board) (cert : Cert) (depths : List ℕ) (unit : ℕ) → IsBoard board
    → ((e : ℕ) → e < length board.wires → length_of cert e ≡ unit) → HasSourcePotentials board cert
    → AreDepths board depths → (n : ℕ) → n < length board.nets
    → net_spread board cert n ≡ unit * depth_of depths n
net_spread_is board cert depths unit is even has are n there =
    net_spread_over board cert n (unit * depth_of depths n) is has there
    (IsDepthOver-scaled board (length_of cert) unit even n (depth_of depths n) (are.each n there))
