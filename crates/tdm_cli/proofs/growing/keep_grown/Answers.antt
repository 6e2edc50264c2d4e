use Rattle.std.proofs.Common.{◌≡◌, ℕ, List, sym, ap, ◌∙◌, subst}
use Rattle.bound_cert.specs.declared.certificate.CertKind.TheVariants.{Share}
use Rattle.bound_cert.specs.Bound.{IsBound}
use Rattle.bound_cert.specs.Certificate.{Cert}
use Rattle.bound_cert.specs.Makers.{growing_cert}
use Rattle.tdm_cli.proofs.growing.keep_grown.Goals as goal

pub returns-clause-bound : goal.returns-clause-bound
returns-clause-bound c other is =
    let board = c.args.problem.now in
    let weights : List ℕ = c.args.candidate.now.weights.items in
    let made : c.in_ok-cert.cert ≡ growing_cert board Share weights c.args.candidate.now.lengths.items =
    c.in_ok-cert.ensures.made ∙ ap (λ (ws : List ℕ). growing_cert board Share ws c.deref-2.result.now)
    c.deref.ensures.value ∙ ap (growing_cert board Share weights) c.deref-2.ensures.value in
    c.in_ok-keep_checked.ensures.bound other (subst (λ (cert : Cert). IsBound board cert other) (sym made) is)
