use Rattle.recip_sum.proofs.tests.compares_the_sum_of_reciprocals_exactly.Given as goal

abbrev pub ghosts-fits_with_new_steps : goal.ghosts-fits_with_new_steps
ghosts-fits_with_new_steps g a = record { name = a.blank.name; parts = a.blank.parts }
