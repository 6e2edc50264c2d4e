use Rattle.std.proofs.Common.{◌∙◌, ap, false}
use Rattle.std.specs.Prelude.{is_some, None}
use Rattle.tdm_desk.specs.Slots.{at, put, map_slots}
use Rattle.tdm_desk.specs.RealDesk.{RealDesk}
use Rattle.tdm_desk.proofs.SlotLaws.{map-put}
use Rattle.tdm_desk.proofs.RealLaws.{not_none}
use Rattle.tdm_desk.proofs.std_desk.StdDesk.close_file.Goals as goal

pub unreachable-requires : goal.unreachable-requires
unreachable-requires g c =
    not_none c.args.place c.self.inside.outputs c.replace.result c.replace.ensures.before c.in-None.is
    (ap (λ (d : RealDesk). at c.args.place d.outputs) c.self.view_is ∙ c.requires)

pub returns : goal.returns
returns g c =
    ap (λ outputs. record {
      counts = c.self.inside.faults;
      inputs = map_slots is_some c.self.inside.inputs;
      outputs = outputs;
    }) (ap (map_slots is_some) c.replace.ensures.after
    ∙ map-put is_some c.args.place None c.self.inside.outputs)
    ∙ ap (λ (d : RealDesk). record d { outputs = put c.args.place false d.outputs }) c.self.view_is
