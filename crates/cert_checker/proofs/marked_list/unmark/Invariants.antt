use Rattle.std.proofs.Common.{[]}
use Rattle.steiner_build.proofs.MarkLaws.{IsUnmarking}
use Rattle.cert_checker.proofs.marked_list.unmark.Given as goal

abbrev pub invariant-loop-x : goal.invariant-loop-x
invariant-loop-x l = IsUnmarking l.listed l.x-index (record {
  labels = [];
  goals = l.fn.marks.items;
  queue = [];
}) (record { labels = []; goals = l.marks.items; queue = [] })
