use Rattle.std.proofs.Common.{◌≡◌, map}
use Rattle.std.specs.List.{range_with_len}
use Rattle.board_generator.specs.Generated.{net_of}
use Rattle.board_generator.proofs.generator.push_nets.Given as goal

abbrev pub invariant-loop-i : goal.invariant-loop-i
invariant-loop-i l = l.draft ≡ record l.fn.draft { nets = map (net_of l.fpgas) (range_with_len 0 l.i) }
