use Rattle.std.proofs.Common.{◌∙◌, ap, sym}
use Rattle.std.specs.Prelude.{is_some}
use Rattle.tdm_desk.specs.Slots.{at, map_slots}
use Rattle.tdm_desk.specs.RealDesk.{RealDesk}
use Rattle.tdm_desk.proofs.RealLaws.{put_back, not_none}
use Rattle.tdm_desk.proofs.std_desk.StdDesk.read_file.Goals as goal

pub unreachable-requires : goal.unreachable-requires
unreachable-requires g c =
    not_none c.args.place c.self.inside.inputs c.replace.result c.replace.ensures.before c.in-None.is
    (ap (λ (d : RealDesk). at c.args.place d.inputs) c.self.view_is ∙ c.requires)

pub returns-clause-same : goal.returns-clause-same
returns-clause-same g c =
    ap (λ inputs. record {
      counts = c.self.inside.faults;
      inputs = inputs;
      outputs = map_slots is_some c.self.inside.outputs;
    }) (put_back c.args.place c.in-Some.file c.read-answer.new.self c.self.inside.inputs _ _
    (sym c.in-Some.is ∙ c.replace.ensures.before) c.replace.ensures.after c.put.ensures)
    ∙ c.self.view_is
