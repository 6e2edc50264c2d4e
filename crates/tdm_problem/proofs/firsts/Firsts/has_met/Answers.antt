use Rattle.std.proofs.Common.{arith}
use Rattle.tdm_problem.proofs.Repeats.{met_by_place, absent-by_place_behind}
use Rattle.tdm_problem.proofs.firsts.Firsts.has_met.Goals as goal

pub returns-then-place-len : goal.returns-then-place-len
returns-then-place-len c =
    met_by_place c.args.self.now.places.items c.args.self.now.kept.items c.args.x c.index.result.now
    c.index-then-place-len.result.now
    c.requires.indexed (omega arith) c.index.ensures (omega arith) c.index-then-place-len.ensures

pub returns-else-place-len : goal.returns-else-place-len
returns-else-place-len c =
    absent-by_place_behind c.args.self.now.places.items c.args.self.now.kept.items c.args.x c.index.result.now
    c.requires.indexed (omega arith) c.index.ensures (omega arith)
