use Rattle.tdm_desk.proofs.MemoryLaws.{closed_in_memory}
use Rattle.tdm_desk.proofs.memory_store.MemoryStore.close_input.Goals as goal

pub returns : goal.returns
returns c = closed_in_memory c.args.slot c.place.result _ _ c.place.ensures c.put_input.ensures
