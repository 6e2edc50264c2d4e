use Rattle.std.proofs.Common.{arith}
use Rattle.tdm_cli.proofs.WordLaws.{sizes-are}
use Rattle.tdm_cli.proofs.command.parse_sizes.Goals as goal
use Rattle.tdm_cli.proofs.command.parse_sizes.Goals.{then-fpgas-lt2-via-then-fpgas-lt2, then-fpgas-lt2-via-else-fpgas-lt2+then-nets-lt1}

pub returns-then-fpgas-lt2-clause-none : goal.returns-then-fpgas-lt2-clause-none
returns-then-fpgas-lt2-clause-none c = λ f n g asks.
    let are = sizes-are c.args.fpgas.now c.args.nets.now c.args.groups.now c.in-Some.fpgas
    c.in-Some-number.nets c.in-Some-number-2.groups f n g c.in-Some.ensures.found
    c.in-Some-number.ensures.found c.in-Some-number-2.ensures.found asks in
    elim c.then-fpgas-lt2.branch [
      | then-fpgas-lt2-via-then-fpgas-lt2 w ↦ absurd (omega (
        arith,
        are.0,
        asks.sizes.some_fpgas,
        w.if-fpgas-lt2,
      ))
      | then-fpgas-lt2-via-else-fpgas-lt2+then-nets-lt1 w ↦
          absurd (omega (arith, are.1, asks.sizes.some_nets, w.if-nets-lt1))
    ]
