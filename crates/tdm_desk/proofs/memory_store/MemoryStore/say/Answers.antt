use Rattle.std.proofs.Common.{◌∙◌, ap, ◌++◌, string_bytes}
use Rattle.std.specs.Prelude.{option_map}
use Rattle.tdm_desk.specs.Slots.{map_slots}
use Rattle.tdm_desk.specs.Memory.{Memory}
use Rattle.tdm_desk.proofs.MemoryLaws.{said_in_memory}
use Rattle.tdm_desk.proofs.memory_store.MemoryStore.say.Goals as goal

pub returns-clause-ok : goal.returns-clause-ok
returns-clause-ok c =
    said_in_memory c.args.piece.now c.args.self.now _
    (ap (λ report. record {
      files = c.self.inside.files;
      inputs = c.self.inside.inputs;
      outputs = map_slots (option_map string_bytes) c.self.inside.outputs;
      said = report;
    }) c.in_ok-extend_from_slice.ensures.items
    ∙ ap (λ (m : Memory). record m { said = m.said ++ c.args.piece.now }) c.self.view_is)
