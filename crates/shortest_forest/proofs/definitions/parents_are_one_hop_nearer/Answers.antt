use Rattle.std.proofs.Common.{arith}
use Rattle.tdm_problem.specs.Samples.{star}
use Rattle.shortest_forest.proofs.BaselineLaws.{source-has-no-parent}
use Rattle.shortest_forest.proofs.SampleParents.{middle-parent, end-parent}
use Rattle.shortest_forest.proofs.definitions.parents_are_one_hop_nearer.Goals as goal

pub returns-clause-middle : goal.returns-clause-middle
returns-clause-middle c = middle-parent

pub returns-clause-second : goal.returns-clause-second
returns-clause-second c = end-parent 1 (omega arith) (omega arith)

pub returns-clause-third : goal.returns-clause-third
returns-clause-third c = end-parent 2 (omega arith) (omega arith)

pub returns-clause-source : goal.returns-clause-source
returns-clause-source c = λ e u. source-has-no-parent star 1 e u
