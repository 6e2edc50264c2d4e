use Rattle.std.proofs.Common.{take}
use Rattle.even_legalise.specs.Claims.{HasLargest}
use Rattle.even_legalise.proofs.claims.largest_numbers.Given as goal

abbrev pub invariant-loop-n : goal.invariant-loop-n
invariant-loop-n l = HasLargest (take l.n l.trees) (take l.n l.s) l.wires l.most.items
