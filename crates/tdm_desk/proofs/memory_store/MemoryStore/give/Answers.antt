use Rattle.std.proofs.Common.{◌≡◌, ◌∙◌, ap, sym, string_bytes, drop}
use Rattle.std.specs.Prelude.{Some, None, option_map}
use Rattle.tdm_desk.specs.Slots.{at, put, map_slots}
use Rattle.tdm_desk.specs.Memory.{Memory}
use Rattle.tdm_desk.proofs.SlotLaws.{put-put}
use Rattle.tdm_desk.proofs.memory_store.MemoryStore.give.Goals as goal

pub returns-clause-rest : goal.returns-clause-rest
returns-clause-rest c = λ rest is.
    let there : Some c.in-Some.input ≡ Some rest =
    sym c.in-Some.is ∙ c.replace.ensures.before ∙ ap (λ (m : Memory). at c.args.place m.inputs) c.self.view_is
    ∙ is in
    let same : c.in-Some.input ≡ rest = cc in
    ap (λ inputs. record {
      files = c.self.inside.files;
      inputs = inputs;
      outputs = map_slots (option_map string_bytes) c.self.inside.outputs;
      said = c.self.inside.report.items;
    }) (c.put.ensures
    ∙ ap (put c.args.place (Some c.give-count.new.self)) c.replace.ensures.after
    ∙ put-put c.args.place None (Some c.give-count.new.self) c.self.inside.inputs
    ∙ ap (λ b. put c.args.place (Some b) c.self.inside.inputs) (c.give-count.ensures.rest
    ∙ ap (drop c.give-count.result) same))
    ∙ ap (λ (m : Memory). record m {
      inputs =
          put c.args.place (Some (drop c.give-count.result rest)) m.inputs;
    }) c.self.view_is
