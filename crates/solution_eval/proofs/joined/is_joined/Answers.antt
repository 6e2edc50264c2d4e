use Rattle.std.proofs.Common.{get_or}
use Rattle.std.specs.Prelude.{All, Contains, IsTrue, ◌↔◌}
use Rattle.std.proofs.lemmas.Result.{IfOk-weaker}
use Rattle.tdm_problem.specs.Routing.{wires_of}
use Rattle.tdm_problem.specs.Walk.{Joins}
use Rattle.solution_eval.specs.Flood.{HasPath}
use Rattle.solution_eval.proofs.Joining.{joined_by_leads}
use Rattle.solution_eval.proofs.joined.is_joined.Goals as goal

pub returns-clause-joined : goal.returns-clause-joined
returns-clause-joined c =
    IfOk-weaker c.leads_to_all.result
    (λ r. IsTrue r ↔ All (HasPath c.deref.result.now (get_or c.args.fpgas.now 0 0)) c.args.fpgas.now)
    (λ r. IsTrue r ↔ Joins c.args.problem.now (Contains (wires_of c.args.uses.now)) c.args.fpgas.now)
    (λ r told. joined_by_leads r c.args.problem.now (wires_of c.args.uses.now) c.deref.result.now
    c.list_steps.new.steps.items c.args.fpgas.now c.requires.net c.deref.ensures.value
    c.in_ok-list_steps.ensures.steps told)
    c.leads_to_all.ensures.leads
