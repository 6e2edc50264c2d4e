-- The certificate by shares at any weights and lengths, and its bound.
use Rattle.std.proofs.Common.{false, ◌≡◌, ℕ, ◌-◌, ◌*◌, ◌<◌, ◌≤◌, List, [], ◌∷◌, length, get_or, map, refl, sym, ap, ◌∙◌, subst, arith}
use Rattle.std.specs.Prelude.{sum, sum_by}
use Rattle.std.proofs.lemmas.List.Sums.{sum_by-cons}
use Rattle.tdm_problem.specs.Board.{Board, IsBoard}
use Rattle.tdm_problem.specs.Distance.{IsDistance}
use Rattle.tdm_problem.specs.Distance as distance
use Rattle.tdm_problem.specs.Legal.{AllConnectable, lanes_of, source_of, terminals_of}
use Rattle.tdm_problem.specs.Limits.{most_fpgas}
use Rattle.tdm_problem.specs.Roots.{root_of}
use Rattle.tdm_problem.specs.Sums.{sum_below}
use Rattle.tdm_problem.specs.Value.{largest}
use Rattle.tdm_problem.specs.Walk.{IsWalk, AnyWire}
use Rattle.tdm_problem.specs.Weights.{net_weight}
use Rattle.tdm_problem.proofs.SumsBelow.{sum_below-agree, sum_below-first}
use Rattle.bound_cert.specs.declared.certificate.CertKind.{CertKind}
use Rattle.bound_cert.specs.declared.certificate.CertKind.TheVariants.{Share}
use Rattle.bound_cert.specs.Certificate.{Cert, IsCertFor, length_of, potential_of, value_at}
use Rattle.bound_cert.specs.Limits.{most_potential_values}
use Rattle.bound_cert.specs.Valid.{IsValid}
use Rattle.bound_cert.specs.Bound.{bound_of, demand_of_kind, divisor_of_kind, least_even, net_spread, root_of_net, root_spreads}
use Rattle.bound_cert.specs.Depths.{IsDepthOver}
use Rattle.bound_cert.specs.Makers.{AreSourcePotentials, ArePotentialsFrom, ChooseSources, HasSourcePotentials}
use Rattle.bound_cert.specs.Sources.{sources_of}
use Rattle.bound_cert.specs.Weighted.{IsWeightedShareCert, IsShareBound, ListsLengths, share_bound}
use Rattle.bound_cert.proofs.Choices.{chosen}
use Rattle.bound_cert.proofs.DepthLaws.{terminals_row, IsDepthOver-from_values}
use Rattle.bound_cert.proofs.Parts.{potentials_long, few_values}
use Rattle.bound_cert.proofs.SourceLaws.{sources_few}
use Rattle.bound_cert.proofs.SourceSpreads.{net_spread_over}
use Rattle.bound_cert.proofs.Validity.{IsValid-from_sources}

-- a sum over a list, place by place
sum_by-places : (f : ℕ → ℕ) (xs : List ℕ) → sum_by f xs ≡ sum_below (length xs) (λ i. f (get_or xs i 0))
sum_by-places f [] = refl
sum_by-places f (x ∷ xs) =
    omega (
      arith,
      sum_by-cons f x xs,
      sum_by-places f xs,
      sum_below-first (length xs) (λ i. f (get_or (x ∷ xs) i 0)),
    )

-- lengths that are the same on the wires of the board have the same distances and depths
module _ (board : Board) (wire_length other : ℕ → ℕ) (agree : (e : ℕ) → e < length board.wires
    → wire_length e ≡ other e) where
  walk-agree : (a : ℕ) (es : List ℕ) (b : ℕ) → IsWalk board (AnyWire board) a es b
      → distance.length_of wire_length es ≡ distance.length_of other es
  walk-agree a [] b walk = refl
  walk-agree a (e ∷ es) b walk =
      omega (
        arith,
        sum_by-cons wire_length e es,
        sum_by-cons other e es,
        agree e walk.0,
        walk-agree walk.1.0 es b walk.1.2,
      )

  IsDistance-agree : (a b d : ℕ) → IsDistance board wire_length a b d → IsDistance board other a b d
  IsDistance-agree a b d is = record {
    walk = (is.walk.0, is.walk.1, omega (arith, walk-agree a is.walk.0 b is.walk.1, is.walk.2));
    least = λ es walk. omega (arith, walk-agree a es b walk, is.least es walk);
  }

  IsDepthOver-agree : (n depth : ℕ) → IsDepthOver board wire_length n depth → IsDepthOver board other n depth
  IsDepthOver-agree n depth is = record {
    within = λ f inside. (let near = is.within f inside in
        (near.0, IsDistance-agree (source_of board n) f near.0 near.1, near.2));
    reached = (
      is.reached.0,
      is.reached.1,
      IsDistance-agree (source_of board n) is.reached.0 depth is.reached.2,
    );
  }

module _ (board : Board) (cert : Cert) (is : IsBoard board) (has : HasSourcePotentials board cert)
    (kind : cert.kind ≡ Share) (long : length cert.lengths ≡ length board.wires) where
  -- the bound, by the depths over any lengths that the certificate lists
  bound_is : (wire_length depth : ℕ → ℕ) → ListsLengths board cert.lengths wire_length
      → ((n : ℕ) → n < length board.nets → IsDepthOver board wire_length n (depth n))
      → bound_of board cert ≡ share_bound board cert.weights wire_length depth
  bound_is wire_length depth lists depths =
      let spreads : root_spreads board cert ≡ sum_below (length board.nets)
      (λ n. root_of (net_weight board.groups cert.weights n) * depth n) =
      sum_below-agree (length board.nets) (λ n. root_of_net board cert n * net_spread board cert n)
      (λ n. root_of_net board cert n * depth n)
      (λ n there.
      ap (λ (d : ℕ). root_of_net board cert n * d)
      (net_spread_over board cert n (depth n) is has there
      (IsDepthOver-agree board wire_length (length_of cert) (λ e below. sym (lists e below)) n (depth n)
      (depths n there)))) in
      let squares : sum_by (λ l. l * l) cert.lengths ≡ sum_below (length board.wires)
      (λ e. lanes_of board e * (wire_length e * wire_length e)) =
      sum_by-places (λ l. l * l) cert.lengths
      ∙ ap (λ (n : ℕ). sum_below n (λ e. length_of cert e * length_of cert e)) long
      ∙ sum_below-agree (length board.wires) (λ e. length_of cert e * length_of cert e)
      (λ e. lanes_of board e * (wire_length e * wire_length e))
      (λ e below. ap (λ (l : ℕ). l * l) (lists e below) ∙ once (wire_length e * wire_length e)) in
      ap (λ (k : CertKind). least_even (demand_of_kind k board cert) (divisor_of_kind k cert.weights)) kind
      ∙ ap (λ (d : ℕ). least_even (2 * d - sum_by (λ l. l * l) cert.lengths) (sum cert.weights)) spreads
      ∙ ap (λ (d : ℕ). least_even
      (2 * sum_below (length board.nets)
      (λ n. root_of (net_weight board.groups cert.weights n) * depth n) - d) (sum cert.weights))
      squares
    where
      once : (x : ℕ) → x ≡ 1 * x
      once x = omega arith

  -- the potentials show the depths
  depth_shown : AllConnectable board → (n : ℕ) → n < length board.nets
      → IsDepthOver board (length_of cert) n (net_spread board cert n)
  depth_shown joins n there =
      let chose = chosen board (length_of cert) cert.potentials cert.choices n has.potentials has.choices
      there in
      let depth : ℕ = largest (map (value_at (potential_of cert chose.place)) (terminals_of board n)) in
      let over : IsDepthOver board (length_of cert) n depth =
      IsDepthOver-from_values board (length_of cert) n (terminals_row board n is there)
      (potential_of cert chose.place) chose.potential (joins n there) in
      rw (net_spread_over board cert n depth is has there over) over

  IsShareBound-shown : AllConnectable board
      → IsShareBound board cert.weights (length_of cert) (bound_of board cert)
  IsShareBound-shown joins = record {
    depth = net_spread board cert;
    depths = depth_shown joins;
    bound_is = bound_is (length_of cert) (net_spread board cert) (λ e below. refl) (depth_shown joins);
  }

-- what is made of weights, lengths, potentials and choices
pub record IsWeightedMade (board : Board) (weights lengths : List ℕ) (cert : Cert) : Type 0 where
  pub made : IsWeightedShareCert board weights lengths cert
  pub for_problem : IsCertFor board cert
  pub valid : IsValid board cert
  pub bound : AllConnectable board
      → IsShareBound board weights (λ e. get_or lengths e 0) (bound_of board cert)
  pub only_bound : (wire_length : ℕ → ℕ) → ListsLengths board lengths wire_length → (bound : ℕ)
      → IsShareBound board weights wire_length bound → bound ≡ bound_of board cert
  pub few : sum_by length cert.potentials ≤ most_potential_values

pub IsWeightedMade-from_parts : (board : Board) (weights lengths choices : List ℕ)
    (potentials : List (List ℕ)) → IsBoard board → length weights ≡ length board.groups
    → length lengths ≡ length board.wires → AreSourcePotentials board (λ e. get_or lengths e 0) potentials
    → ChooseSources board choices → length potentials ≤ most_fpgas
    → IsWeightedMade board weights lengths (record {
      kind = Share;
      grows = false;
      weights = weights;
      lengths = lengths;
      potentials = potentials;
      choices = choices;
    })
IsWeightedMade-from_parts board weights lengths choices potentials is weighed long are choose few =
    let cert : Cert = record {
      kind = Share;
      grows = false;
      weights = weights;
      lengths = lengths;
      potentials =
          potentials;
      choices = choices;
    } in
    let has : HasSourcePotentials board cert = record { potentials = are; choices = choose } in
    record {
      made = record { kind = refl; chosen = refl; weights_are = refl; lengths_are = refl; potentials = has };
      for_problem = record {
        weights = weighed;
        lengths = long;
        potentials = potentials_long board (λ e. get_or lengths e 0) potentials are;
        choices = choose.count;
      };
      valid = IsValid-from_sources board cert is has;
      bound = IsShareBound-shown board cert is has refl long;
      only_bound = λ wire_length lists bound share.
          share.bound_is ∙ sym (bound_is board cert is has refl long wire_length share.depth lists
          share.depths);
      few = few_values board (λ e. get_or lengths e 0) potentials are is few;
    }

-- potentials from the sources are those of the sources, and no more than a board has FPGAs
pub source_potentials : (board : Board) (wire_length : ℕ → ℕ) (sources : List ℕ) (potentials : List (List ℕ))
    → sources ≡ sources_of board → ArePotentialsFrom board wire_length sources potentials
    → AreSourcePotentials board wire_length potentials
source_potentials board wire_length sources potentials same are =
    subst (λ (rs : List ℕ). ArePotentialsFrom board wire_length rs potentials) same are

pub potentials_few : (board : Board) (wire_length : ℕ → ℕ) (potentials : List (List ℕ)) → IsBoard board
    → AreSourcePotentials board wire_length potentials → length potentials ≤ most_fpgas
potentials_few board wire_length potentials is are = omega (
  arith,
  are.count,
  sources_few board is,
  is.fpga_limit,
)
