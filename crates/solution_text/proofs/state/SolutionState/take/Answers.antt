use Rattle.std.proofs.Common.{◌-◌, ◌++◌, [], ◌∷◌, length, sym, ap, subst, ◌∙◌}
use Rattle.tdm_lines.specs.Lines.{Line}
use Rattle.tdm_lines.specs.SoFar.{ended_line}
use Rattle.tdm_problem.specs.declared.solution.WireUse.{WireUse}
use Rattle.tdm_lines.specs.Refusals.{◌>>=◌}
use Rattle.solution_text.specs.Roles.{IsStamped, said_in, from_use}
use Rattle.solution_text.specs.declared.state.Role.{Role}
use Rattle.solution_text.proofs.RoleLaws.{count-law, use-law}
use Rattle.solution_text.proofs.state.SolutionState.take.Goals as goal

pub returns-in_ok-begin_net-in-Ok-clause-said : goal.returns-in_ok-begin_net-in-Ok-clause-said
returns-in_ok-begin_net-in-Ok-clause-said c = λ numbers after more first.
    let now = c.args.self.now in
    let line : Line = ended_line c.args.line c.args.fault numbers in
    ap (λ (r : Role). said_in r now.wires now.left now.solution now.uses.items now.count after (line ∷ more))
    c.in-Count.is
    ∙ count-law now.wires after now.solution now.left c.args.line c.args.fault numbers more
    ∙ ap (λ k. k >>= λ count. from_use now.wires after now.solution [] count (now.left - 1) more)
    (sym (c.count_of.ensures.said numbers first) ∙ c.in-Ok.is)
    ∙ c.in_ok-begin_net-in-Ok.ensures.said after more

pub returns-in_ok-add_use-in-Ok-use_of-clause-said : goal.returns-in_ok-add_use-in-Ok-use_of-clause-said
returns-in_ok-add_use-in-Ok-use_of-clause-said c = λ numbers after more first.
    let now = c.args.self.now in
    let line : Line = ended_line c.args.line c.args.fault numbers in
    let stamped = subst (λ (r : Role). IsStamped r now.wires (length now.solution) now.left now.count
    now.stamps.items now.uses.items) c.in-Use.is c.requires.stamped in
    ap (λ (r : Role). said_in r now.wires now.left now.solution now.uses.items now.count after (line ∷ more))
    c.in-Use.is
    ∙ use-law now.wires after now.solution now.uses.items now.count (now.left - 1) c.args.line c.args.fault
    numbers more stamped.1
    ∙ ap (λ k. k >>= λ (u : WireUse). from_use now.wires after now.solution (now.uses.items ++ u ∷ [])
    (now.count - 1) (now.left - 1) more) (sym (c.use_of.ensures.said numbers first)
    ∙ c.in-Ok-use_of.is)
    ∙ c.in_ok-add_use-in-Ok-use_of.ensures.said after more
