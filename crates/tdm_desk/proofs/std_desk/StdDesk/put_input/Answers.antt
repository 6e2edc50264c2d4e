use Rattle.std.proofs.Common.{◌∙◌, ap}
use Rattle.std.specs.Prelude.{is_some}
use Rattle.tdm_desk.specs.Slots.{put, map_slots}
use Rattle.tdm_desk.specs.RealDesk.{RealDesk}
use Rattle.tdm_desk.proofs.SlotLaws.{map-put}
use Rattle.tdm_desk.proofs.std_desk.StdDesk.put_input.Goals as goal

pub returns : goal.returns
returns g c =
    ap (λ inputs. record {
      counts = c.self.inside.faults;
      inputs = inputs;
      outputs = map_slots is_some c.self.inside.outputs;
    }) (ap (map_slots is_some) c.put.ensures ∙ map-put is_some c.args.place c.args.file c.self.inside.inputs)
    ∙ ap (λ (d : RealDesk). record d { inputs = put c.args.place (is_some c.args.file) d.inputs })
    c.self.view_is
