use Rattle.std.proofs.Common.{ap, sym, ◌∙◌, codes, nat_eq}
use Rattle.std.specs.Cmp.Lexicographic.{pointwise}
use Rattle.std.proofs.lemmas.Bool.{false≢true}
use Rattle.std.proofs.lemmas.Cmp.{nat_list_eq_equiv}
use Rattle.tdm_cli.proofs.WordLaws.{if-none, none-of-five}
use Rattle.tdm_cli.proofs.command.parse_five.Goals as goal

pub returns-clause-none : goal.returns-clause-none
returns-clause-none c =
    if-none c.parse_rounds.result _ _
    (none-of-five c.args.verb.now c.args.first.now c.args.second.now c.args.third.now c.args.fourth.now
    (λ is. absurd (false≢true (sym c.if-eq.false ∙ c.eq.ensures
    ∙ ap (λ verb. pointwise nat_eq verb (codes "gen")) is ∙ nat_list_eq_equiv.refl (codes "gen")))))
    c.parse_rounds.ensures.none
