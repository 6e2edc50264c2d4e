use Rattle.std.proofs.Common.{◌∙◌, ap, string_bytes}
use Rattle.std.specs.Prelude.{option_map}
use Rattle.tdm_desk.specs.Slots.{put, map_slots}
use Rattle.tdm_desk.specs.Memory.{Memory}
use Rattle.tdm_desk.proofs.SlotLaws.{map-put}
use Rattle.tdm_desk.proofs.memory_store.MemoryStore.put_output.Goals as goal

pub returns : goal.returns
returns c =
    ap (λ outputs. record {
      files = c.self.inside.files;
      inputs = c.self.inside.inputs;
      outputs = outputs;
      said = c.self.inside.report.items;
    }) (ap (map_slots (option_map string_bytes)) c.put.ensures
    ∙ map-put (option_map string_bytes) c.args.place c.args.name c.self.inside.outputs)
    ∙ ap (λ (m : Memory). record m {
      outputs =
          put c.args.place (option_map string_bytes c.args.name) m.outputs;
    }) c.self.view_is
