use Rattle.std.proofs.Common.{◌≡◌, ◌∙◌, ap, sym, string_bytes, false}
use Rattle.std.specs.Prelude.{Some, is_some, option_map}
use Rattle.std.proofs.lemmas.Result.{on_ok_weaker}
use Rattle.tdm_desk.specs.Slots.{at, map_slots}
use Rattle.tdm_desk.specs.Files.{with_more}
use Rattle.tdm_desk.specs.Memory.{Memory}
use Rattle.tdm_desk.proofs.SlotLaws.{at-map}
use Rattle.tdm_desk.proofs.memory_store.MemoryStore.append.Goals as goal

pub unreachable-requires : goal.unreachable-requires
unreachable-requires c =
    let none : is_some (at c.args.place c.args.self.now.outputs) ≡ false = ap is_some
    (ap (λ (m : Memory). at c.args.place m.outputs) (sym c.self.view_is)
    ∙ at-map (option_map string_bytes) c.args.place c.self.inside.outputs
    ∙ ap (option_map string_bytes) (sym c.get.ensures ∙ c.in-None.is)) in
    cc

pub returns-clause-ok : goal.returns-clause-ok
returns-clause-ok c = on_ok_weaker c.append.result (λ appended name is.
    let there : Some (string_bytes c.in-Some.name) ≡ Some name =
    sym (ap (option_map string_bytes) (sym c.get.ensures ∙ c.in-Some.is))
    ∙ sym (at-map (option_map string_bytes) c.args.place c.self.inside.outputs)
    ∙ ap (λ (m : Memory). at c.args.place m.outputs) c.self.view_is ∙ is in
    let same : string_bytes c.in-Some.name ≡ name = cc in
    ap (λ files. record {
      files = files;
      inputs = c.self.inside.inputs;
      outputs = map_slots (option_map string_bytes) c.self.inside.outputs;
      said = c.self.inside.report.items;
    }) (appended ∙ ap (λ n. with_more n c.args.more.now c.self.inside.files) (c.as_str.ensures.value ∙ same))
    ∙ ap (λ (m : Memory). record m { files = with_more name c.args.more.now m.files }) c.self.view_is)
    c.append.ensures.ok
