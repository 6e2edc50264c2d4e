-- The bound by hops: each ratio is at least 2, and each wire as long as the unit.
use Rattle.std.proofs.Common.{◌≡◌, ℕ, ◌*◌, ◌<◌, ◌≤◌, List, [], ◌∷◌, length, sym, ap, subst, ⊎_elim, arith, mul-le-mul_left}
use Rattle.std.specs.Prelude.{All, sum, sum_by}
use Rattle.std.proofs.lemmas.Bool.{cases_lt}
use Rattle.std.proofs.lemmas.List.{get_or_past}
use Rattle.std.proofs.lemmas.List.Elements.{All-head, All-tail, All-get_or}
use Rattle.std.proofs.lemmas.List.Sums.{sum_by-cons, sum-map}
use Rattle.tdm_problem.specs.declared.solution.WireUse.{WireUse}
use Rattle.tdm_problem.specs.Board.{Board, IsBoard}
use Rattle.tdm_problem.specs.Routing.{Routing, uses_of, ratios_of}
use Rattle.tdm_problem.specs.Legal.{IsLegal, IsEvenRatio}
use Rattle.tdm_problem.specs.Sums.{sum_below}
use Rattle.tdm_problem.specs.Value.{net_sum, value_of}
use Rattle.tdm_problem.specs.Weights.{weighted_sums}
use Rattle.tdm_problem.proofs.SumsBelow.{sum_below-le, sum_below-times}
use Rattle.tdm_problem.proofs.Exchanges.{weighted_by-nets, weighted_sums-le_value}
use Rattle.bound_cert.specs.Certificate.{Cert, length_of}
use Rattle.bound_cert.specs.Bound.{weight_of_net, weight_sum}
use Rattle.bound_cert.proofs.NetSpreads.{net_length, AreShort, weight-short}

-- where each listed length is the unit, no wire is longer
length_of-le_unit : (cert : Cert) (unit : ℕ) → All (λ l. l ≡ unit) cert.lengths → (e : ℕ)
    → length_of cert e ≤ unit
length_of-le_unit cert unit units e =
    ⊎_elim
    (λ (there : e < length cert.lengths). omega (
      arith,
      All-get_or (λ l. l ≡ unit) cert.lengths e 0 there units,
    ))
    (λ (past : length cert.lengths ≤ e). omega (arith, get_or_past cert.lengths e 0 past))
    (cases_lt e (length cert.lengths))

-- an even ratio times the unit is at least twice any length that the unit is at least
unit-times_ratio : (length unit ratio : ℕ) → length ≤ unit → IsEvenRatio ratio → 2 * length ≤ unit * ratio
unit-times_ratio length unit ratio short even =
    let more : unit * 1 ≤ unit * even.0 = mul-le-mul_left unit (omega (arith, even.1)) in
    subst (λ (r : ℕ). 2 * length ≤ unit * r) (sym even.2) (omega (arith, more, short))

-- the ratios of uses times the unit are at least twice the lengths of the wires
unit-times_ratios : (cert : Cert) (unit : ℕ) → ((e : ℕ) → length_of cert e ≤ unit) → (uses : List WireUse)
    → All IsEvenRatio (ratios_of uses) →
    2 * sum_by (λ (u : WireUse). length_of cert u.wire) uses ≤ unit * sum_by (λ (u : WireUse). u.ratio) uses
unit-times_ratios cert unit short [] even = omega arith
unit-times_ratios cert unit short (u ∷ uses) even =
    let here : 2 * length_of cert u.wire ≤ unit * u.ratio =
    unit-times_ratio (length_of cert u.wire) unit u.ratio (short u.wire)
    (All-head IsEvenRatio u.ratio (ratios_of uses) even) in
    let rest = unit-times_ratios cert unit short uses (All-tail IsEvenRatio u.ratio (ratios_of uses) even) in
    rw (
      sum_by-cons (λ (v : WireUse). length_of cert v.wire) u uses,
      sum_by-cons (λ (v : WireUse). v.ratio) u uses,
    ) (omega (arith, here, rest))

-- one net's share of both sides
times-weight : (weight spread length unit ratios : ℕ) → weight * spread ≤ weight * length
    → 2 * length ≤ unit * ratios → 2 * (weight * spread) ≤ unit * (weight * ratios)
times-weight weight spread length unit ratios short long =
    let scaled : weight * (2 * length) ≤ weight * (unit * ratios) = mul-le-mul_left weight long in
    omega (arith, scaled, short)

-- twice the spreads of all nets, by their weights, is at most the unit times the sum of the weights times the
-- value
pub hop-demand_le : (board : Board) (cert : Cert) (routing : Routing) (spreads : ℕ → ℕ) (unit : ℕ)
    → All (λ l. l ≡ unit) cert.lengths →
    IsBoard board → AreShort board cert routing spreads → IsLegal board routing →
    2 * weight_sum board cert spreads ≤ unit * sum cert.weights * value_of board routing
hop-demand_le board cert routing spreads unit units is short legal =
    let nets : ℕ = length board.nets in
    let each : (n : ℕ) → n < nets → 2 * (weight_of_net board cert n * spreads n)
    ≤ unit * (weight_of_net board cert n * net_sum routing n) =
    λ n there.
    let even : All IsEvenRatio (ratios_of (uses_of routing n)) =
    All-get_or (λ uses. All IsEvenRatio (ratios_of uses)) routing n [] (omega (
      arith,
      there,
      legal.is_for.nets,
    )) legal.even in
    times-weight (weight_of_net board cert n) (spreads n) (net_length cert routing n) unit (net_sum routing n)
    (weight-short board cert routing spreads short n there)
    (rw (sum-map (λ (u : WireUse). u.ratio) (uses_of routing n))
    (unit-times_ratios cert unit (length_of-le_unit cert unit units) (uses_of routing n) even)) in
    let all : sum_below nets (λ n. 2 * (weight_of_net board cert n * spreads n))
    ≤ sum_below nets (λ n. unit * (weight_of_net board cert n * net_sum routing n)) =
    sum_below-le nets (λ n. 2 * (weight_of_net board cert n * spreads n))
    (λ n. unit * (weight_of_net board cert n * net_sum routing n)) each in
    let left = sum_below-times nets 2 (λ n. weight_of_net board cert n * spreads n) in
    let right = sum_below-times nets unit (λ n. weight_of_net board cert n * net_sum routing n) in
    let exchanged : weighted_sums routing board.groups cert.weights
    ≡ sum_below nets (λ n. weight_of_net board cert n * net_sum routing n) =
    weighted_by-nets (net_sum routing) nets board.groups cert.weights is.groups in
    let valued : unit * weighted_sums routing board.groups cert.weights
    ≤ unit * (sum cert.weights * value_of board routing) =
    mul-le-mul_left unit (weighted_sums-le_value board routing cert.weights) in
    let same : unit * weighted_sums routing board.groups cert.weights
    ≡ unit * sum_below nets (λ n. weight_of_net board cert n * net_sum routing n) =
    ap (λ (x : ℕ). unit * x) exchanged in
    omega (arith, all, left, right, valued, same)
