use Rattle.std.proofs.Common.{◌∷◌, sym, subst}
use Rattle.tdm_lines.specs.SoFar.{ended_line}
use Rattle.tdm_lines.specs.Refusals.{IsFaultOf}
use Rattle.bound_cert.specs.Roles.{said_in, so_far}
use Rattle.bound_cert.specs.declared.state.Role.{Role}
use Rattle.bound_cert.proofs.RoleLaws.{header-refused}
use Rattle.bound_cert.proofs.state.CertState.header_line.Goals as goal

pub returns-in_ok-refuse-in-Err-clause-said : goal.returns-in_ok-refuse-in-Err-clause-said
returns-in_ok-refuse-in-Err-clause-said c = λ numbers after more taken.
    let now = c.args.self.now in
    c.in_ok-refuse-in-Err.ensures.said _ after more
    (subst (λ (r : Role). IsFaultOf c.in-Err.fault (said_in r now.sizes now.header.potentials
    (so_far now) now.left after (ended_line c.args.line c.args.fault numbers ∷ more)))
    (sym c.requires.role)
    (header-refused after now.sizes c.args.line c.args.fault numbers more c.in-Err.fault
    (c.in-Err.ensures.said numbers taken)))
