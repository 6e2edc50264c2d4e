use Rattle.std.proofs.Common.{◌≡◌, map}
use Rattle.std.specs.List.{range_with_len}
use Rattle.board_generator.specs.Generated.{group_of}
use Rattle.board_generator.proofs.generator.push_groups.Given as goal

abbrev pub invariant-loop-j : goal.invariant-loop-j
invariant-loop-j l = l.draft ≡ record l.fn.draft { groups = map (group_of l.nets) (range_with_len 0 l.j) }
