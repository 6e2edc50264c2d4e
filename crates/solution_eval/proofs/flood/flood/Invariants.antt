use Rattle.std.proofs.Common.{◌-◌, length, get_or}
use Rattle.solution_eval.proofs.Flooding.{Flooding}
use Rattle.solution_eval.proofs.flood.flood.Given as goal

abbrev pub invariant-loop-next : goal.invariant-loop-next
invariant-loop-next l = Flooding l.steps l.mark (get_or l.initial.queue.items 0 0) (length l.initial.marks)
    l.next l.marks l.queue.items

abbrev pub decreases-loop-next : goal.decreases-loop-next
decreases-loop-next l = length l.initial.marks - l.next
