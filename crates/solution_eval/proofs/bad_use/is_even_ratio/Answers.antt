use Rattle.solution_eval.proofs.BadUses.{even_test}
use Rattle.solution_eval.proofs.bad_use.is_even_ratio.Goals as goal

pub returns-then-ratio-ne0 : goal.returns-then-ratio-ne0
returns-then-ratio-ne0 c = even_test c.args.ratio c.if-ratio-ne0.true
