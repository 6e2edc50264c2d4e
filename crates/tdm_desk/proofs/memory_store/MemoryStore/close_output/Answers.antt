use Rattle.tdm_desk.proofs.MemoryLaws.{finished_in_memory}
use Rattle.tdm_desk.proofs.memory_store.MemoryStore.close_output.Goals as goal

pub returns : goal.returns
returns c = finished_in_memory c.args.slot c.place.result _ _ c.place.ensures c.put_output.ensures
