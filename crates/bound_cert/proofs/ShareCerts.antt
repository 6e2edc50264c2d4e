-- The certificate by shares with one weight for all groups, and its bound.
use Rattle.std.proofs.Common.{false, ◌≡◌, ℕ, zero, suc, ◌-◌, ◌*◌, ◌^◌, ◌<◌, ◌≤◌, List, length, get_or, refl, sym, ap, ◌∙◌, subst, arith}
use Rattle.std.specs.Prelude.{All, replicate, sum, sum_by, slice_index}
use Rattle.std.proofs.lemmas.List.{get_or-replicate, length-replicate}
use Rattle.std.proofs.lemmas.List.Sums.{sum_by-cons}
use Rattle.std.proofs.lemmas.List.Elements.{All-replicate}
use Rattle.tdm_problem.specs.Board.{Board, IsBoard}
use Rattle.tdm_problem.specs.Sums.{sum_below}
use Rattle.tdm_problem.specs.Roots.{root_of}
use Rattle.tdm_problem.specs.Weights.{net_weight}
use Rattle.tdm_problem.proofs.SumsBelow.{sum_below-agree, sum_below-times}
use Rattle.bound_cert.specs.Limits.{most_length, most_potential_values, uniform_weight}
use Rattle.tdm_problem.specs.Limits.{most_fpgas}
use Rattle.bound_cert.specs.declared.certificate.CertKind.{CertKind}
use Rattle.bound_cert.specs.declared.certificate.CertKind.TheVariants.{Share}
use Rattle.bound_cert.specs.Certificate.{Cert, IsCertFor, IsPotential, length_of}
use Rattle.bound_cert.specs.Valid.{IsValid}
use Rattle.bound_cert.specs.Bound.{bound_of, demand_of_kind, divisor_of_kind, least_even, net_spread, root_of_net, root_spreads}
use Rattle.bound_cert.specs.Depths.{AreDepths, depth_of}
use Rattle.bound_cert.specs.Floors.{holders_of, uniform_root, rooted_depths, uniform_length, share_floor, IsShareFloor}
use Rattle.bound_cert.specs.Makers.{AreSourcePotentials, ChooseSources, HasSourcePotentials, IsUniformShareCert}
use Rattle.bound_cert.specs.Scaling.{AreScaled}
use Rattle.bound_cert.proofs.HolderLaws.{net_weight-uniform}
use Rattle.bound_cert.proofs.Parts.{potentials_long, potentials_within, choices_there, few_values}
use Rattle.bound_cert.proofs.Rooted.{rooted}
use Rattle.bound_cert.proofs.ScaleLaws.{AreScaled-small, AreSourcePotentials-scaled}
use Rattle.bound_cert.proofs.Validity.{IsValid-from_sources}
use Rattle.bound_cert.proofs.SourceSpreads.{net_spread_is}

-- the sum of one number, so many times
sum-same : {A : Type 0} (f : A → ℕ) (n : ℕ) (x : A) → sum_by f (replicate n x) ≡ n * f x
sum-same f zero x = omega arith
sum-same f (suc n) x = omega (arith, sum_by-cons f x (replicate n x), sum-same f n x)

-- what is summed is the depths by the roots of the weights
pub rooted_depths_are : (board : Board) (holders depths : List ℕ) → AreDepths board depths
    → ((n : ℕ) → n < length board.nets → slice_index holders n ≡ holders_of board n)
    → sum_below (length depths) (rooted holders depths) ≡ rooted_depths board depths
rooted_depths_are board holders depths are held =
    ap (λ (n : ℕ). sum_below n (rooted holders depths)) are.count
    ∙ sum_below-agree (length board.nets) (rooted holders depths)
    (λ n. uniform_root board n * depth_of depths n)
    (λ n there. ap (λ (h : ℕ). root_of (uniform_weight * h) * depth_of depths n) (held n there))

module _ (board : Board) (depths : List ℕ) (cert : Cert) (is : IsBoard board)
    (are_depths : AreDepths board depths) (has : HasSourcePotentials board cert) (weights : cert.weights
    ≡ replicate (length board.groups) uniform_weight) (lengths : cert.lengths
    ≡ replicate (length board.wires) (uniform_length board depths)) where
  even : (e : ℕ) → e < length board.wires → length_of cert e ≡ uniform_length board depths
  even e there = ap (λ (ls : List ℕ). get_or ls e 0) lengths
      ∙ get_or-replicate (length board.wires) e (uniform_length board depths) 0 there

  root_is : (n : ℕ) → root_of_net board cert n ≡ uniform_root board n
  root_is n = ap root_of (ap (λ (ws : List ℕ). net_weight board.groups ws n) weights
      ∙ net_weight-uniform board.groups uniform_weight n)

  -- the spreads by the roots are the rooted depths, times the length
  root_spreads_are : root_spreads board cert ≡ uniform_length board depths * rooted_depths board depths
  root_spreads_are =
      sum_below-agree (length board.nets) (λ n. root_of_net board cert n * net_spread board cert n)
      (λ n. uniform_length board depths * (uniform_root board n * depth_of depths n))
      (λ n there.
      ap (λ (root : ℕ). root * net_spread board cert n) (root_is n)
      ∙ ap (λ (spread : ℕ). uniform_root board n * spread)
      (net_spread_is board cert depths (uniform_length board depths) is even has are_depths n there)
      ∙ moved (uniform_root board n) (uniform_length board depths) (depth_of depths n))
      ∙ sum_below-times (length board.nets) (uniform_length board depths)
      (λ n. uniform_root board n * depth_of depths n)
    where
      moved : (r l h : ℕ) → r * (l * h) ≡ l * (r * h)
      moved r l h = omega arith

  squares_are : sum_by (λ l. l * l) cert.lengths
      ≡ length board.wires * (uniform_length board depths * uniform_length board depths)
  squares_are =
      ap (λ (ls : List ℕ). sum_by (λ l. l * l) ls) lengths
      ∙ sum-same (λ (l : ℕ). l * l) (length board.wires) (uniform_length board depths)

  weights_are : sum cert.weights ≡ uniform_weight * length board.groups
  weights_are = omega (arith, ap sum weights, sum-same (λ (w : ℕ). w) (length board.groups) uniform_weight)

  pub bound_is_share_floor : cert.kind ≡ Share → bound_of board cert ≡ share_floor board depths
  bound_is_share_floor kind =
      let long : ℕ = uniform_length board depths in
      let total : ℕ = rooted_depths board depths in
      let demand : 2 * root_spreads board cert - sum_by (λ l. l * l) cert.lengths
      ≡ 2 * long * total - length board.wires * (long * long) = omega (
        arith,
        root_spreads_are,
        squares_are,
      ) in
      ap (λ (k : CertKind). least_even (demand_of_kind k board cert) (divisor_of_kind k cert.weights)) kind
      ∙ ap (λ (d : ℕ). least_even d (sum cert.weights)) demand
      ∙ ap (least_even (2 * long * total - length board.wires * (long * long))) weights_are

-- the parts of the certificate, with what is known of them
pub record AreShareParts (board : Board) (unit : ℕ) (depths weights lengths choices : List ℕ)
    (hops potentials : List (List ℕ)) : Type 0 where
  pub is_board : IsBoard board
  pub unit_is : unit ≡ uniform_length board depths
  pub unit_short : unit ≤ 2 ^ 40
  pub weights_are : weights ≡ replicate (length board.groups) uniform_weight
  pub lengths_are : lengths ≡ replicate (length board.wires) unit
  pub from_hops : AreSourcePotentials board (λ _. 1) hops
  pub few : length hops ≤ most_fpgas
  pub small : All (All (λ v. v ≤ most_fpgas)) hops
  pub scaled : AreScaled unit hops potentials
  pub chosen : ChooseSources board choices
  pub are_depths : AreDepths board depths

-- what is made of these parts
pub record IsShareMade (board : Board) (cert : Cert) : Type 0 where
  pub made : IsUniformShareCert board cert
  pub for_problem : IsCertFor board cert
  pub valid : IsValid board cert
  pub floor : IsShareFloor board (bound_of board cert)
  pub few : sum_by length cert.potentials ≤ most_potential_values

module _ (board : Board) (unit : ℕ) (depths weights lengths choices : List ℕ)
    (hops potentials : List (List ℕ)) (parts : AreShareParts board unit depths weights lengths choices hops
    potentials) where
  -- the length of each wire, by any function that is so on the wires
  are_scaled : (wire_length : ℕ → ℕ) → ((e : ℕ) → e < length board.wires → wire_length e ≡ unit)
      → AreSourcePotentials board wire_length potentials
  are_scaled wire_length at_unit = AreSourcePotentials-scaled board wire_length unit hops potentials at_unit
      parts.from_hops parts.scaled

  pub share_lengths_within : All (λ l. l ≤ most_length) lengths
  share_lengths_within =
      subst (λ (ls : List ℕ). All (λ l. l ≤ most_length) ls) (sym parts.lengths_are)
      (All-replicate (λ l. l ≤ most_length) (length board.wires) unit (omega (arith, parts.unit_short)))

  pub share_potentials_within : All IsPotential potentials
  share_potentials_within =
      potentials_within board (λ _. unit) potentials (are_scaled (λ _. unit) (λ e there. refl)) parts.is_board
      (unit * most_fpgas)
      (omega (arith, parts.unit_short)) (AreScaled-small unit most_fpgas hops potentials parts.scaled
      parts.small)

  pub share_choices_there : All (λ c. c ≤ length potentials) choices
  share_choices_there = choices_there board (λ _. unit) potentials (are_scaled (λ _. unit) (λ e there. refl))
      choices parts.chosen

  pub IsShareMade-from_parts : IsShareMade board (record {
    kind = Share;
    grows = false;
    weights = weights;
    lengths = lengths;
    potentials = potentials;
    choices = choices;
  })
  IsShareMade-from_parts =
      let cert : Cert = record {
        kind = Share;
        grows = false;
        weights = weights;
        lengths = lengths;
        potentials = potentials;
        choices = choices;
      } in
      let long : lengths ≡ replicate (length board.wires) (uniform_length board depths) = parts.lengths_are
      ∙ ap (replicate (length board.wires)) parts.unit_is in
      let at_unit : (e : ℕ) → e < length board.wires → length_of cert e ≡ unit =
      λ e there. ap (λ (ls : List ℕ). get_or ls e 0) parts.lengths_are
      ∙ get_or-replicate (length board.wires) e unit 0 there in
      let has : HasSourcePotentials board cert = record {
        potentials = are_scaled (length_of cert) at_unit;
        choices = parts.chosen;
      } in
      record {
        made = record {
          depths = depths;
          are_depths = parts.are_depths;
          kind = refl;
          chosen = refl;
          weights = λ g there. ap (λ (ws : List ℕ). get_or ws g 0) parts.weights_are
              ∙ get_or-replicate (length board.groups) g uniform_weight 0 there;
          lengths = λ e there. at_unit e there ∙ parts.unit_is;
          potentials = has;
        };
        for_problem = record {
          weights = ap length parts.weights_are ∙ length-replicate (length board.groups) uniform_weight;
          lengths = ap length parts.lengths_are ∙ length-replicate (length board.wires) unit;
          potentials = potentials_long board (length_of cert) potentials has.potentials;
          choices = parts.chosen.count;
        };
        valid = IsValid-from_sources board cert parts.is_board has;
        floor = record {
          depths = depths;
          are_depths = parts.are_depths;
          floor_is = bound_is_share_floor board depths cert parts.is_board parts.are_depths has
              parts.weights_are long refl;
        };
        few = few_values board (length_of cert) potentials has.potentials parts.is_board
            (omega (arith, parts.scaled.count, parts.few));
      }
