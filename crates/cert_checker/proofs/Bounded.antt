-- What is computed is the bound.
use Rattle.std.proofs.Common.{◌≡◌, ℕ, ◌*◌, ◌-◌, List, get_or, sym, ap, subst, ◌∙◌, arith}
use Rattle.std.specs.Prelude.{sum, sum_by}
use Rattle.tdm_problem.specs.Board.{Board}
use Rattle.bound_cert.specs.declared.certificate.CertKind.{CertKind}
use Rattle.bound_cert.specs.declared.certificate.CertKind.TheVariants.{Share}
use Rattle.bound_cert.specs.Certificate.{Cert}
use Rattle.bound_cert.specs.Bound.{IsBound, bound_of, demand_by, demand_of, demand_of_kind, divisor_of, divisor_of_kind, least_even, root_spreads}
use Rattle.cert_checker.specs.Spreads.{AreSpreads}

pub bounded : (board : Board) (cert : Cert) (spreads : List ℕ) (demand divisor bound : ℕ)
    → AreSpreads board cert spreads
    → bound ≡ least_even demand divisor → demand ≡ demand_by cert.kind board cert (λ n. get_or spreads n 0)
    → divisor ≡ divisor_of cert → IsBound board cert bound
bounded board cert spreads demand divisor bound are is demanded divided = record {
  spreads = λ n. get_or spreads n 0;
  are = are.each;
  bound_is =
      is ∙ ap (λ (d : ℕ). least_even d divisor) demanded
      ∙ ap (λ (d : ℕ). least_even (demand_by cert.kind board cert (λ n. get_or spreads n 0)) d) divided;
}

-- so it is by shares and by the choices of nets
pub bounded_by_shares : (board : Board) (cert : Cert) (total squares weights demand divisor bound : ℕ)
    → cert.kind ≡ Share → total ≡ root_spreads board cert → squares ≡ sum_by (λ l. l * l) cert.lengths
    → weights ≡ sum cert.weights → demand ≡ 2 * total - squares → divisor ≡ weights
    → bound ≡ least_even demand divisor → bound ≡ bound_of board cert
bounded_by_shares board cert total squares weights demand divisor bound share spread squared weighed demanded
    divided is =
    let demand_is : demand ≡ demand_of board cert =
    subst (λ (kind : CertKind). demand ≡ demand_of_kind kind board cert) (sym share)
    (omega (arith, demanded, spread, squared)) in
    let divisor_is : divisor ≡ divisor_of cert =
    subst (λ (kind : CertKind). divisor ≡ divisor_of_kind kind cert.weights) (sym share)
    (divided ∙ weighed) in
    is ∙ ap (λ (d : ℕ). least_even d divisor) demand_is
    ∙ ap (λ (d : ℕ). least_even (demand_of board cert) d) divisor_is
