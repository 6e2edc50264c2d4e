use Rattle.std.proofs.Common.{refl, arith}
use Rattle.tdm_problem.specs.Samples.{wire}
use Rattle.tdm_problem.proofs.definitions.a_board_has_no_loop_and_no_repeats.Goals as goal

pub returns-clause-looped : goal.returns-clause-looped
returns-clause-looped c is = (is.wires 0 (wire 1 1) (omega arith)).no_loop refl
