use Rattle.std.proofs.Common.{arith}
use Rattle.std.proofs.lemmas.Grind.{common_steps}
use Rattle.group_multipliers.proofs.Largest.{le-largest}
use Rattle.group_multipliers.proofs.Pulls.{length-pulls, pulls_more}
use Rattle.group_multipliers.proofs.renewal.pulls_of.Goals as goal

pub pull_of-requires-clause-within : goal.pull_of-requires-clause-within
pull_of-requires-clause-within c = omega (arith, le-largest c.args.sums.now c.loop-g.g 0 (omega arith))

pub loop-g-preserved : goal.loop-g-preserved
loop-g-preserved c =
    let more = pulls_more c.args.weights.now c.args.sums.now c.loop-g.g c.requires.paired (omega arith) in
    grind (arith, common_steps, more)

pub returns : goal.returns
returns c = grind (arith, common_steps, length-pulls c.args.weights.now c.args.sums.now c.requires.paired)
