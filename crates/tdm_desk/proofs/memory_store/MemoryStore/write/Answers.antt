use Rattle.tdm_desk.proofs.MemoryLaws.{open_output_in_memory, written_in_memory, value_of}
use Rattle.tdm_desk.proofs.memory_store.MemoryStore.write.Goals as goal

pub append-requires : goal.append-requires
append-requires c = open_output_in_memory c.args.slot c.place.result c.args.self.now c.place.ensures
    c.requires

pub returns-clause-ok : goal.returns-clause-ok
returns-clause-ok c =
    let name = value_of _ (open_output_in_memory c.args.slot c.place.result c.args.self.now c.place.ensures
    c.requires) in
    written_in_memory c.args.slot c.args.piece.now name.0 c.place.result _ _ c.place.ensures name.1
    (c.in_ok-append.ensures.ok name.0 name.1)
