use Rattle.std.proofs.Common.{◌≡◌, ℕ, ◌∷◌, [], ◌++◌, ◌-◌, List, ap, sym, subst, ◌∙◌, rules}
use Rattle.std.proofs.lemmas.Grind.{common_steps}
use Rattle.tdm_lines.specs.Lines.{Line}
use Rattle.tdm_lines.specs.SoFar.{ended_line}
use Rattle.bound_cert.specs.declared.refusal.CertTextKind.TheVariants.{UnknownPotential}
use Rattle.bound_cert.specs.declared.state.Role.{Role}
use Rattle.tdm_lines.specs.Refusals.{IsFaultOf}
use Rattle.bound_cert.specs.CertReading.{number_said, unless_more}
use Rattle.bound_cert.specs.Roles.{said_in, so_far, IsInRole}
use Rattle.bound_cert.proofs.RoleLaws.{section-refused, section-taken}
use Rattle.bound_cert.proofs.state.CertState.choice_line.Goals as goal

pub returns-then-self-gt0-clause-said : goal.returns-then-self-gt0-clause-said
returns-then-self-gt0-clause-said c = λ numbers after more taken.
    let now = c.args.self.now in
    let line : Line = ended_line c.args.line c.args.fault numbers in
    let fits = subst (λ (r : Role). IsInRole r now.header.potentials (so_far now) now.left) c.requires.role
    c.requires.fine.in_role in
    let items : c.push.new.self.items ≡ now.choices.items ++ c.in-Ok.choice ∷ [] =
    search (rules, common_steps) in
    ap (λ (r : Role). said_in r now.sizes now.header.potentials (so_far now) now.left after (line ∷ more))
    c.requires.role
    ∙ section-taken after (number_said UnknownPotential now.header.potentials)
    (λ (cs : List ℕ). unless_more (record (so_far now) { choices = cs })) now.left now.choices.items
    c.push.new.self.items c.args.line c.args.fault numbers more c.in-Ok.choice fits.some
    (c.in-Ok.ensures.said numbers taken) items
    ∙ ap (λ (r : Role). said_in r now.sizes now.header.potentials (record (so_far now) {
      choices =
          c.push.new.self.items;
    }) (now.left - 1) after more) (sym c.requires.role)

pub returns-in_ok-refuse-in-Err-clause-said : goal.returns-in_ok-refuse-in-Err-clause-said
returns-in_ok-refuse-in-Err-clause-said c = λ numbers after more taken.
    let now = c.args.self.now in
    let line : Line = ended_line c.args.line c.args.fault numbers in
    let fits = subst (λ (r : Role). IsInRole r now.header.potentials (so_far now) now.left) c.requires.role
    c.requires.fine.in_role in
    c.in_ok-refuse-in-Err.ensures.said _ after more
    (subst (λ (r : Role). IsFaultOf c.in-Err.fault (said_in r now.sizes now.header.potentials
    (so_far now) now.left after (line ∷ more))) (sym c.requires.role)
    (section-refused after (number_said UnknownPotential now.header.potentials)
    (λ (cs : List ℕ). unless_more (record (so_far now) { choices = cs })) now.left now.choices.items
    c.args.line c.args.fault numbers more c.in-Err.fault fits.some (c.in-Err.ensures.said numbers taken)))
