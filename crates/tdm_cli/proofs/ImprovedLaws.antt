-- What there is before the rounds, and what the rounds make of it.
use Rattle.std.proofs.Common.{◌≡◌, ◌⊎◌, ℕ, ◌<◌, ◌≤◌, List, length, sym, ap, subst, ◌∙◌, inl, inr, arith}
use Rattle.std.specs.Prelude.{sum_by}
use Rattle.tdm_problem.specs.Board.{Board, IsBoard}
use Rattle.tdm_problem.specs.Legal.{AllConnectable}
use Rattle.tdm_problem.specs.Routing.{Routing}
use Rattle.tdm_problem.specs.Tight.{IsTight}
use Rattle.tdm_problem.specs.Trees.{trees_of}
use Rattle.tdm_problem.specs.Value.{value_of}
use Rattle.even_legalise.specs.Uniform.{uniform_routing}
use Rattle.shortest_forest.specs.Baseline.{AreBaseTrees}
use Rattle.ripup_reroute.specs.Rerouting.{AreMinimalTrees}
use Rattle.bound_cert.specs.Certificate.{Cert}
use Rattle.bound_cert.specs.Bound.{bound_of, IsBound}
use Rattle.bound_cert.specs.Floors.{IsHopFloor, IsShareFloor}
use Rattle.cert_checker.specs.Answer.{IsLowerBound}
use Rattle.tdm_cli.specs.declared.certify.Certified.{Certified}
use Rattle.tdm_cli.specs.Baseline.{most_uses, IsBaseline}
use Rattle.tdm_cli.specs.Best.{IsBest}
use Rattle.tdm_cli.specs.Certified.{IsProof, IsBestCert}
use Rattle.tdm_cli.specs.Improved.{IsImproved}
use Rattle.tdm_cli.specs.Rounds.{MeetsRounds}
use Rattle.tdm_cli.specs.Routing.{IsBaselineValue}
use Rattle.tdm_cli.proofs.BaselineLaws.{base-trees-for, base-minimal-each, base-trees-unique}

-- baseline trees are minimal
pub base-minimal : (board : Board) → IsBoard board → (trees : List (List ℕ)) → AreBaseTrees board trees
    → AreMinimalTrees board trees
base-minimal board is trees base = record {
  for_board = base-trees-for board is trees base;
  minimal = base-minimal-each board is trees base;
}

-- the certificate is a proof whose bound is at least both floors
abbrev IsFloored : Board → Cert → Type 0
IsFloored board cert = IsProof board cert
    × ((floor : ℕ) → IsHopFloor board floor → floor ≤ bound_of board cert)
    × ((floor : ℕ) → IsShareFloor board floor → floor ≤ bound_of board cert)

best-floored : (board : Board) (cert : Cert) → IsBestCert board cert → IsFloored board cert
best-floored board cert best = by best.better
  where
    by : ((cert ≡ best.hop) × (bound_of board best.share ≤ bound_of board best.hop))
        ⊎ ((cert ≡ best.share) × (bound_of board best.hop < bound_of board best.share)) → IsFloored board cert
    by (inl hop) = (
      subst (IsProof board) (sym hop.0) best.is_hop.proof,
      (λ floor is. omega (arith, best.is_hop.only_floor floor is, ap (bound_of board) hop.0)),
      (λ floor is. omega (arith, best.is_share.only_floor floor is, ap (bound_of board) hop.0, hop.1)),
    )
    by (inr share) = (
      subst (IsProof board) (sym share.0) best.is_share.proof,
      (λ floor is. omega (arith, best.is_hop.only_floor floor is, ap (bound_of board) share.0, share.1)),
      (λ floor is. omega (arith, best.is_share.only_floor floor is, ap (bound_of board) share.0)),
    )

-- the baseline has the baseline's value
baseline-value : (board : Board) (routing : Routing) → IsBaseline board routing → (value : ℕ)
    → IsBaselineValue board value → value_of board routing ≡ value
baseline-value board routing baseline value is =
    ap (value_of board) (baseline.uniform
    ∙ ap (uniform_routing board) (base-trees-unique board (trees_of routing) is.0 baseline.base is.1))
    ∙ sym is.2

-- the baseline and the better of two certificates may be written
pub IsBest-baseline : (board : Board) (routing : Routing) (value : ℕ) (certified : Certified)
    → IsBaseline board routing → IsBestCert board certified.cert → value ≡ value_of board routing
    → certified.bound ≡ bound_of board certified.cert → IsBest board routing value certified
IsBest-baseline board routing value certified baseline best value_is bound_is =
    let floored = best-floored board certified.cert best in
    let proof = floored.0 in
    record {
      may_be_written = record {
        for_board = baseline.legal.is_for;
        legal = baseline.legal;
        minimal = baseline.minimal;
        few = baseline.few;
        sayable = baseline.sayable;
        no_worse = λ other is. omega (arith, baseline-value board routing baseline other is);
        within = proof.within;
        cert_for = proof.for_board;
        cert_few = proof.few;
        valid = proof.valid;
        is_bound = subst (IsBound board certified.cert) (sym bound_is) proof.bound;
        lower = subst (IsLowerBound board) (sym bound_is) proof.lower;
        hop_floor = λ floor is. omega (arith, floored.1 floor is, bound_is);
        share_floor = λ floor is. omega (arith, floored.2 floor is, bound_is);
      };
      value_is = value_is;
    }

-- what was improved by so many rounds from the baseline's trees
pub IsImproved-rounds : (board : Board) (trees : List (List ℕ)) (count : ℕ) (routing : Routing) (value : ℕ)
    (certified : Certified) → AllConnectable board → AreBaseTrees board trees
    → sum_by length trees ≤ most_uses → IsBest board routing value certified → IsTight board routing
    → (0 < value → MeetsRounds board trees count value certified.bound)
    → IsImproved board count routing certified.cert certified.bound
IsImproved-rounds board trees count routing value certified joined base few best tight met = record {
  joined = joined;
  within = λ others other. subst (λ ts. sum_by length ts ≤ most_uses)
      (base-trees-unique board trees others base other) few;
  may_be_written = best.may_be_written;
  tight = tight;
  rounds = λ positive. (
    trees,
    base,
    subst (λ v. MeetsRounds board trees count v certified.bound) best.value_is
        (met (omega (arith, positive, best.value_is))),
  );
}
