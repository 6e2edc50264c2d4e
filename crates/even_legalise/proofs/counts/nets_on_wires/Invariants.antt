use Rattle.std.proofs.Common.{take}
use Rattle.even_legalise.specs.Uniform.{CountsNets}
use Rattle.even_legalise.proofs.counts.nets_on_wires.Given as goal

abbrev pub invariant-loop-n : goal.invariant-loop-n
invariant-loop-n l = CountsNets (take l.n l.trees) l.wires l.counts.items
