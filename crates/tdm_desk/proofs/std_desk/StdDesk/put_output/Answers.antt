use Rattle.std.proofs.Common.{◌∙◌, ap}
use Rattle.std.specs.Prelude.{is_some}
use Rattle.tdm_desk.specs.Slots.{put, map_slots}
use Rattle.tdm_desk.specs.RealDesk.{RealDesk}
use Rattle.tdm_desk.proofs.SlotLaws.{map-put}
use Rattle.tdm_desk.proofs.std_desk.StdDesk.put_output.Goals as goal

pub returns : goal.returns
returns g c =
    ap (λ outputs. record {
      counts = c.self.inside.faults;
      inputs = map_slots is_some c.self.inside.inputs;
      outputs = outputs;
    }) (ap (map_slots is_some) c.put.ensures ∙ map-put is_some c.args.place c.args.file c.self.inside.outputs)
    ∙ ap (λ (d : RealDesk). record d { outputs = put c.args.place (is_some c.args.file) d.outputs })
    c.self.view_is
