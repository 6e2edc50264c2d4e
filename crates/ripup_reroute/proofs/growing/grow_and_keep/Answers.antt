use Rattle.ripup_reroute.proofs.growing.grow_and_keep.Goals as goal

pub returns-clause-grown : goal.returns-clause-grown
returns-clause-grown c = rw (c.in_ok-write_over.ensures, c.wires.ensures) c.in_ok-grown.ensures.grown
