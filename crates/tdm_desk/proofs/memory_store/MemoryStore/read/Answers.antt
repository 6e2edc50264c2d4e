use Rattle.std.proofs.Common.{arith, length}
use Rattle.tdm_desk.specs.Slots.{at}
use Rattle.tdm_desk.proofs.MemoryLaws.{taken_in_memory, input_told, ends, open_input_in_memory, value_of}
use Rattle.tdm_desk.proofs.memory_store.MemoryStore.read.Goals as goal

pub give-requires : goal.give-requires
give-requires c = open_input_in_memory c.args.slot c.place.result c.args.self.now c.place.ensures
    c.requires.is_open

pub returns-clause-within : goal.returns-clause-within
returns-clause-within c =
    let rest = value_of (at c.place.result c.args.self.now.inputs)
    (open_input_in_memory c.args.slot c.place.result c.args.self.now c.place.ensures c.requires.is_open)
    in
    omega (arith, c.give.ensures.count rest.0 rest.1)

pub returns-clause-ok : goal.returns-clause-ok
returns-clause-ok c =
    let rest = value_of (at c.place.result c.args.self.now.inputs)
    (open_input_in_memory c.args.slot c.place.result c.args.self.now c.place.ensures c.requires.is_open)
    in
    taken_in_memory c.args.slot c.give.result rest.0 c.place.result _ _ c.place.ensures rest.1
    (c.give.ensures.rest rest.0 rest.1)

pub returns-clause-bytes : goal.returns-clause-bytes
returns-clause-bytes c = λ rest is.
    c.give.ensures.bytes rest (input_told c.args.slot c.place.result c.args.self.now rest c.place.ensures
    c.requires.is_open is)

pub returns-clause-end : goal.returns-clause-end
returns-clause-end c = λ rest is.
    ends c.give.result (length c.give.new.buf) rest
    (c.give.ensures.count rest (input_told c.args.slot c.place.result c.args.self.now rest c.place.ensures
    c.requires.is_open is))
    (omega arith)
