use Rattle.std.proofs.Common.{take}
use Rattle.even_legalise.proofs.ClaimSteps.{HasClaimsBy}
use Rattle.even_legalise.proofs.claims.all_claims.Given as goal

abbrev pub invariant-loop-n : goal.invariant-loop-n
invariant-loop-n l = HasClaimsBy (take l.n l.trees) (take l.n l.s) l.least l.claims.items
