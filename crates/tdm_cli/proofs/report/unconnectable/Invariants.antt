use Rattle.std.proofs.Common.{◌≡◌, take}
use Rattle.tdm_cli.specs.Reports.{unconnectable_report}
use Rattle.tdm_cli.proofs.report.unconnectable.Given as goal

-- the nets so far have their lines
abbrev pub invariant-loop-net : goal.invariant-loop-net
invariant-loop-net l = l.text.items ≡ unconnectable_report (take l.net-index l.nets)
