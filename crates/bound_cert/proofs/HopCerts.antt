-- The certificate by hops of the deepest group, and its bound.
use Rattle.std.proofs.Common.{false, ◌≡◌, ℕ, ◌*◌, ◌<◌, ◌≤◌, ◌⊎◌, List, [], length, get_or, map, refl, sym, ap, ◌∙◌, subst, inl, inr, one-mul, arith}
use Rattle.std.specs.Prelude.{All, replicate, sum, slice_index}
use Rattle.std.proofs.lemmas.Bool.{cases_eq, cases_lt}
use Rattle.std.proofs.lemmas.List.{get_or-replicate, length-replicate, nil_from_length, get_or_default}
use Rattle.std.proofs.lemmas.List.Elements.{Contains-get_or}
use Rattle.tdm_problem.specs.Board.{Board, IsBoard}
use Rattle.tdm_problem.specs.Value.{largest}
use Rattle.tdm_problem.specs.Weights.{net_weight, weighted_by}
use Rattle.tdm_problem.proofs.SumsBelow.{sum_below-agree}
use Rattle.tdm_problem.proofs.Exchanges.{weighted_by-nets}
use Rattle.bound_cert.specs.declared.certificate.CertKind.{CertKind}
use Rattle.bound_cert.specs.declared.certificate.CertKind.TheVariants.{Hop}
use Rattle.bound_cert.specs.Certificate.{Cert, IsCertFor, length_of, value_at}
use Rattle.bound_cert.specs.Valid.{IsValid}
use Rattle.bound_cert.specs.Sources.{sources_of}
use Rattle.bound_cert.specs.Bound.{bound_of, demand_of_kind, divisor_of_kind, least_even, net_spread, weight_of_net, weight_spreads}
use Rattle.bound_cert.specs.Depths.{AreDepths, depth_of, group_depth}
use Rattle.bound_cert.specs.Floors.{hop_floor, IsHopFloor}
use Rattle.bound_cert.specs.Makers.{AreSourcePotentials, ChooseSources, HasSourcePotentials, IsFirstDeepest, IsHopWeight, IsHopGroupCert}
use Rattle.bound_cert.proofs.Largest.{largest-above, largest-within}
use Rattle.bound_cert.proofs.Deepest.{first_deepest_unique}
use Rattle.bound_cert.proofs.OneWeight.{one_weight, length-one_weight, one_weight-same, one_weight-other, one_weight-small, sum-one_weight, weighted-one}
use Rattle.bound_cert.proofs.Parts.{potentials_long}
use Rattle.bound_cert.proofs.Scaled.{potential_scaled}
use Rattle.bound_cert.proofs.Validity.{IsValid-from_sources}
use Rattle.bound_cert.proofs.SourceSpreads.{net_spread_is}

-- the weights are 1 for the first of the deepest groups alone
pub record AreHopWeights (board : Board) (depths weights : List ℕ) : Type 0 where
  pub none : length board.groups ≡ 0 → weights ≡ []
  pub some : 0 < length board.groups → (g : ℕ) × IsFirstDeepest board depths g
      × (weights ≡ one_weight (length board.groups) g)

module _ (board : Board) (depths weights : List ℕ) (are : AreHopWeights board depths weights) where
  pub length-weights : length weights ≡ length board.groups
  length-weights = go (cases_lt 0 (length board.groups))
    where
      go : (0 < length board.groups) ⊎ (length board.groups ≤ 0) → length weights ≡ length board.groups
      go (inl some) = ap length (are.some some).2 ∙ length-one_weight (length board.groups) (are.some some).0
      go (inr none) =
          let zero' : length board.groups ≡ 0 = omega arith in
          omega (arith, ap length (are.none zero'))

  pub weights_small : All (λ w. w ≤ 1) weights
  weights_small = go (cases_lt 0 (length board.groups))
    where
      go : (0 < length board.groups) ⊎ (length board.groups ≤ 0) → All (λ w. w ≤ 1) weights
      go (inl some) =
          let deepest = are.some some in
          subst (λ (ws : List ℕ). All (λ w. w ≤ 1) ws) (sym deepest.2)
          (one_weight-small (length board.groups) deepest.0)
      go (inr none) = λ k d below. absurd (omega (arith, ap length (are.none (omega arith))))

  pub weights_each : (k : ℕ) → k < length board.groups → IsHopWeight board depths k (slice_index weights k)
  weights_each k there = go (are.some (omega arith))
    where
      go : (g : ℕ) × IsFirstDeepest board depths g × (weights ≡ one_weight (length board.groups) g)
          → IsHopWeight board depths k (slice_index weights k)
      go deepest = by (cases_eq k deepest.0)
        where
          at : slice_index weights k ≡ get_or (one_weight (length board.groups) deepest.0) k 0
          at = ap (λ (ws : List ℕ). slice_index ws k) deepest.2

          by : (k ≡ deepest.0) ⊎ (k ≡ deepest.0 → ⊥) → IsHopWeight board depths k (slice_index weights k)
          by (inl same) = inl (
            subst (IsFirstDeepest board depths) (sym same) deepest.1,
            at ∙ ap (λ (j : ℕ). get_or (one_weight (length board.groups) deepest.0) j 0) same
                ∙ one_weight-same (length board.groups) deepest.0 deepest.1.there,
          )
          by (inr other) = inr (
            λ first. other (first_deepest_unique board depths k deepest.0 first deepest.1),
            at ∙ one_weight-other (length board.groups) deepest.0 k there other,
          )

-- twice the depth of a first deepest group is the floor
floor_of_deepest : (board : Board) (depths : List ℕ) (g : ℕ) → IsFirstDeepest board depths g
    → 2 * group_depth depths (get_or board.groups g []) ≡ hop_floor board depths
floor_of_deepest board depths g deepest =
    let f : List ℕ → ℕ = λ group. 2 * group_depth depths group in
    let above = largest-above f board.groups (get_or board.groups g [])
    (Contains-get_or board.groups g [] deepest.there) in
    let within = largest-within f board.groups (2 * group_depth depths (get_or board.groups g []))
    (λ group inside.
    let at : get_or board.groups inside.0 [] ≡ group = get_or_default board.groups inside.0 [] group inside.1
    ∙ inside.2 in
    omega (arith, deepest.most inside.0 inside.1, ap (group_depth depths) at)) in
    omega (arith, above, within)

-- half of an even number, made even
least_even-double : (n : ℕ) → least_even (2 * n) 1 ≡ 2 * n
least_even-double n = omega arith

module _ (board : Board) (depths : List ℕ) (cert : Cert) (is : IsBoard board) (even : (e : ℕ)
    → e < length board.wires → length_of cert e ≡ 1) (has : HasSourcePotentials board cert)
    (are_depths : AreDepths board depths) where
  -- the weighted spreads are the depths of the groups, weighted
  weight_spreads_are : weight_spreads board cert ≡ weighted_by (group_depth depths) board.groups cert.weights
  weight_spreads_are =
      sum_below-agree (length board.nets) (λ n. weight_of_net board cert n * net_spread board cert n)
      (λ n. net_weight board.groups cert.weights n * depth_of depths n)
      (λ n there.
      ap (λ (spread : ℕ). weight_of_net board cert n * spread)
      (net_spread_is board cert depths 1 is even has are_depths n there ∙ one-mul (depth_of depths n)))
      ∙ sym (weighted_by-nets (depth_of depths) (length board.nets) board.groups cert.weights is.groups)

  pub bound_is_floor : cert.kind ≡ Hop 1 → AreHopWeights board depths cert.weights
      → bound_of board cert ≡ hop_floor board depths
  bound_is_floor kind are =
      ap (λ (k : CertKind). least_even (demand_of_kind k board cert) (divisor_of_kind k cert.weights)) kind
      ∙ go (cases_lt 0 (length board.groups))
    where
      go : (0 < length board.groups) ⊎ (length board.groups ≤ 0)
          → least_even (2 * weight_spreads board cert) (1 * sum cert.weights) ≡ hop_floor board depths
      go (inl some) =
          let deepest = are.some some in
          let g : ℕ = deepest.0 in
          let spreads : weight_spreads board cert ≡ group_depth depths (get_or board.groups g []) =
          weight_spreads_are ∙ ap (λ (ws : List ℕ). weighted_by (group_depth depths) board.groups ws)
          deepest.2
          ∙ weighted-one (group_depth depths) board.groups g deepest.1.there in
          let one : 1 * sum cert.weights ≡ 1 = omega (
            arith,
            ap sum deepest.2,
            sum-one_weight (length board.groups) g deepest.1.there,
          ) in
          ap (λ (n : ℕ). least_even (2 * weight_spreads board cert) n) one
          ∙ least_even-double (weight_spreads board cert)
          ∙ ap (λ (n : ℕ). 2 * n) spreads
          ∙ floor_of_deepest board depths g deepest.1
      go (inr none) =
          let groups : board.groups ≡ [] = nil_from_length board.groups (omega arith) in
          let zero' : 1 * sum cert.weights ≡ 0 = omega (arith, ap sum (are.none (omega arith))) in
          ap (λ (n : ℕ). least_even (2 * weight_spreads board cert) n) zero'
          ∙ sym (ap (λ (gs : List (List ℕ)). largest (map (λ group. 2 * group_depth depths group) gs)) groups)

-- what is made of these parts
pub record IsHopMade (board : Board) (cert : Cert) : Type 0 where
  pub made : IsHopGroupCert board cert
  pub for_problem : IsCertFor board cert
  pub valid : IsValid board cert
  pub floor : IsHopFloor board (bound_of board cert)

pub IsHopMade-from_parts : (board : Board) (depths weights lengths choices : List ℕ)
    (potentials : List (List ℕ)) → IsBoard board → AreHopWeights board depths weights
    → lengths ≡ replicate (length board.wires) 1 → AreSourcePotentials board (λ _. 1) potentials
    → ChooseSources board choices → AreDepths board depths
    → IsHopMade board (record {
      kind = Hop 1;
      grows = false;
      weights = weights;
      lengths = lengths;
      potentials = potentials;
      choices = choices;
    })
IsHopMade-from_parts board depths weights lengths choices potentials is weighted long hops chosen are_depths =
    let cert : Cert = record {
      kind = Hop 1;
      grows = false;
      weights = weights;
      lengths = lengths;
      potentials =
          potentials;
      choices = choices;
    } in
    let even : (e : ℕ) → e < length board.wires → length_of cert e ≡ 1 =
    λ e there. ap (λ (ls : List ℕ). get_or ls e 0) long
    ∙ get_or-replicate (length board.wires) e 1 0 there in
    let has : HasSourcePotentials board cert = record {
      potentials = record {
        count = hops.count;
        each = λ p there. potential_scaled board (length_of cert) 1 even (slice_index (sources_of board) p)
            (get_or potentials p []) (get_or potentials p [])
            (hops.each p there) refl (λ f below. sym (one-mul (value_at (get_or potentials p []) f)));
      };
      choices = chosen;
    } in
    record {
      made = record {
        depths = depths;
        are_depths = are_depths;
        kind = refl;
        chosen = refl;
        weights = weights_each board depths weights weighted;
        lengths = even;
        potentials = has;
      };
      for_problem = record {
        weights = length-weights board depths weights weighted;
        lengths = ap length long ∙ length-replicate (length board.wires) (let one : ℕ = 1 in one);
        potentials = potentials_long board (λ _. 1) potentials hops;
        choices = chosen.count;
      };
      valid = IsValid-from_sources board cert is has;
      floor = record {
        depths = depths;
        are_depths = are_depths;
        floor_is =
            bound_is_floor board depths cert is even has are_depths refl weighted;
      };
    }
