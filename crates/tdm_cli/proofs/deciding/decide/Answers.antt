use Rattle.std.proofs.Common.{◌≡◌, ◌∙◌, Option, Some, sym, ap, subst}
use Rattle.command_run.specs.Decision.{Decides}
use Rattle.command_run.proofs.DecisionLaws.{decides-last}
use Rattle.tdm_cli.specs.declared.command.Command.{Command}
use Rattle.tdm_cli.specs.Texts.{text_of}
use Rattle.tdm_cli.specs.Kinds.{faults}
use Rattle.tdm_cli.specs.Request.{request_of, inputs_of}
use Rattle.tdm_cli.specs.Outcomes.{CallsFor, Generates, Demonstrates, refused_words}
use Rattle.tdm_cli.proofs.deciding.decide.Goals as goal

pub returns-in-Some-Route : goal.returns-in-Some-Route
returns-in-Some-Route g c =
    let P : Option Command → Type 0 = λ found. Decides g.D.Desk.counts g.D.Desk.steady g.D.Desk.seen text_of
    faults 0
    (inputs_of (request_of found)) (CallsFor (request_of found)) c.args.desk.now
    c.decide_route.new.desk c.decide_route.result in
    let is = rw c.in-Some-Route.is at c.in-Some-Route.field-0-is in
    subst P (sym (c.in-Some-Route.is ∙ ap Some is)) c.decide_route.ensures

pub returns-in-Some-Gen : goal.returns-in-Some-Gen
returns-in-Some-Gen g c =
    let P : Option Command → Type 0 = λ found. Decides g.D.Desk.counts g.D.Desk.steady g.D.Desk.seen text_of
    faults 0
    (inputs_of (request_of found)) (CallsFor (request_of found)) c.args.desk.now
    c.args.desk.now c.decided.result in
    let is = rw c.in-Some-Gen.is at c.in-Some-Gen.field-0-is in
    subst P (sym (c.in-Some-Gen.is ∙ ap Some is))
    (decides-last {counts = g.D.Desk.counts} {steady = g.D.Desk.steady} {seen =
    g.D.Desk.seen} text_of faults
    0 (Generates c.in-Some-Gen.fpgas c.in-Some-Gen.nets c.in-Some-Gen.groups) c.args.desk.now
    c.generate.result c.decided.result c.generate.ensures c.decided.ensures.some
    c.decided.ensures.wanting)

pub returns-in-Some-Demo : goal.returns-in-Some-Demo
returns-in-Some-Demo g c =
    let P : Option Command → Type 0 = λ found. Decides g.D.Desk.counts g.D.Desk.steady g.D.Desk.seen text_of
    faults 0
    (inputs_of (request_of found)) (CallsFor (request_of found)) c.args.desk.now
    c.args.desk.now c.decided-in-Some-Demo.result in
    let is = rw c.in-Some-Demo.is at c.in-Some-Demo.field-0-is in
    subst P (sym (c.in-Some-Demo.is ∙ ap Some is))
    (decides-last {counts = g.D.Desk.counts} {steady = g.D.Desk.steady} {seen =
    g.D.Desk.seen} text_of faults
    0 (Demonstrates c.in-Some-Demo.fpgas c.in-Some-Demo.nets c.in-Some-Demo.groups) c.args.desk.now
    c.demo.result c.decided-in-Some-Demo.result c.demo.ensures c.decided-in-Some-Demo.ensures.some
    c.decided-in-Some-Demo.ensures.wanting)

pub returns-in-None : goal.returns-in-None
returns-in-None g c =
    rw c.in-None.is (decides-last {counts = g.D.Desk.counts} {steady = g.D.Desk.steady} {seen =
    g.D.Desk.seen} text_of faults
    0 (λ outcome. outcome ≡ refused_words) c.args.desk.now c.refused.result c.decided-in-None.result
    c.refused.ensures c.decided-in-None.ensures.some c.decided-in-None.ensures.wanting)
