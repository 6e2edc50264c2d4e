use Rattle.std.proofs.Common.{◌≡◌, ◌≤◌, take, vec_len}
use Rattle.tdm_problem.specs.Board.{without_repeats}
use Rattle.tdm_problem.specs.Firsts.{IsIndexed}
use Rattle.tdm_problem.proofs.firsts.Firsts.keep.Given as goal

abbrev pub invariant-loop-x : goal.invariant-loop-x
invariant-loop-x l = record {
  kept : l.self.kept.items ≡ without_repeats (take l.x-index l.row);
  indexed : IsIndexed l.self.places.items l.self.kept.items;
  room : l.limit ≤ vec_len l.self.places;
  short : vec_len l.self.kept ≤ l.x-index;
}
