use Rattle.std.proofs.Common.{◌≡◌, ℕ, ◌∷◌, [], ◌++◌, ◌-◌, List, ap, sym, subst, ◌∙◌, arith, rules}
use Rattle.std.proofs.lemmas.Grind.{common_steps}
use Rattle.tdm_lines.specs.Lines.{Line}
use Rattle.tdm_lines.specs.SoFar.{ended_line}
use Rattle.bound_cert.specs.declared.refusal.CertTextKind.TheVariants.{WeightLimit}
use Rattle.bound_cert.specs.declared.state.Role.{Role}
use Rattle.tdm_lines.specs.Refusals.{IsFaultOf}
use Rattle.bound_cert.specs.CertReading.{number_said}
use Rattle.tdm_problem.specs.Limits.{most_weight}
use Rattle.bound_cert.specs.Roles.{past_weights, said_in, so_far, IsInRole}
use Rattle.bound_cert.proofs.RoleLaws.{section-refused, section-taken, section-done}
use Rattle.bound_cert.proofs.state.CertState.weight_line.Goals as goal

pub returns-then-self-gt0-clause-said : goal.returns-then-self-gt0-clause-said
returns-then-self-gt0-clause-said c = λ numbers after more taken.
    let now = c.args.self.now in
    let line : Line = ended_line c.args.line c.args.fault numbers in
    let fits = subst (λ (r : Role). IsInRole r now.header.potentials (so_far now) now.left) c.requires.role
    c.requires.fine.in_role in
    let items : c.push.new.self.items ≡ now.weights.items ++ c.in-Ok.weight ∷ [] =
    search (rules, common_steps) in
    ap (λ (r : Role). said_in r now.sizes now.header.potentials (so_far now) now.left after (line ∷ more))
    c.requires.role
    ∙ section-taken after (number_said WeightLimit most_weight)
    (λ (ws : List ℕ). past_weights after now.sizes now.header.potentials (record (so_far now) {
      weights =
          ws;
    })) now.left now.weights.items c.push.new.self.items c.args.line c.args.fault numbers more
    c.in-Ok.weight fits.some (c.in-Ok.ensures.said numbers taken) items
    ∙ ap (λ (r : Role). said_in r now.sizes now.header.potentials (record (so_far now) {
      weights =
          c.push.new.self.items;
    }) (now.left - 1) after more) (sym c.requires.role)

pub returns-in_ok-begin_lengths-in-Ok-clause-said : goal.returns-in_ok-begin_lengths-in-Ok-clause-said
returns-in_ok-begin_lengths-in-Ok-clause-said c = λ numbers after more taken.
    let now = c.args.self.now in
    let line : Line = ended_line c.args.line c.args.fault numbers in
    let fits = subst (λ (r : Role). IsInRole r now.header.potentials (so_far now) now.left) c.requires.role
    c.requires.fine.in_role in
    let items : c.push.new.self.items ≡ now.weights.items ++ c.in-Ok.weight ∷ [] =
    search (rules, common_steps) in
    ap (λ (r : Role). said_in r now.sizes now.header.potentials (so_far now) now.left after (line ∷ more))
    c.requires.role
    ∙ section-taken after (number_said WeightLimit most_weight)
    (λ (ws : List ℕ). past_weights after now.sizes now.header.potentials (record (so_far now) {
      weights =
          ws;
    })) now.left now.weights.items c.push.new.self.items c.args.line c.args.fault numbers more
    c.in-Ok.weight fits.some (c.in-Ok.ensures.said numbers taken) items
    ∙ section-done after (number_said WeightLimit most_weight)
    (λ (ws : List ℕ). past_weights after now.sizes now.header.potentials (record (so_far now) {
      weights =
          ws;
    })) (now.left - 1) c.push.new.self.items more (omega (arith, c.if-self-gt0.false))
    ∙ sym (c.in_ok-begin_lengths-in-Ok.ensures.said after more)

pub returns-in_ok-refuse-in-Err-clause-said : goal.returns-in_ok-refuse-in-Err-clause-said
returns-in_ok-refuse-in-Err-clause-said c = λ numbers after more taken.
    let now = c.args.self.now in
    let line : Line = ended_line c.args.line c.args.fault numbers in
    let fits = subst (λ (r : Role). IsInRole r now.header.potentials (so_far now) now.left) c.requires.role
    c.requires.fine.in_role in
    c.in_ok-refuse-in-Err.ensures.said _ after more
    (subst (λ (r : Role). IsFaultOf c.in-Err.fault (said_in r now.sizes now.header.potentials
    (so_far now) now.left after (line ∷ more))) (sym c.requires.role)
    (section-refused after (number_said WeightLimit most_weight)
    (λ (ws : List ℕ). past_weights after now.sizes now.header.potentials
    (record (so_far now) { weights = ws })) now.left now.weights.items c.args.line c.args.fault
    numbers more c.in-Err.fault fits.some (c.in-Err.ensures.said numbers taken)))
