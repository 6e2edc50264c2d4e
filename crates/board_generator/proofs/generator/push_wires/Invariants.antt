use Rattle.std.proofs.Common.{◌≡◌, ◌++◌, map}
use Rattle.std.specs.List.{range_with_len}
use Rattle.board_generator.specs.Generated.{wire_over}
use Rattle.board_generator.proofs.generator.push_wires.Given as goal

abbrev pub invariant-loop-i : goal.invariant-loop-i
invariant-loop-i l =
    l.draft ≡ record l.fn.draft {
      wires = l.fn.draft.wires ++ map (wire_over l.fpgas l.step)
          (range_with_len 0 l.i);
    }
