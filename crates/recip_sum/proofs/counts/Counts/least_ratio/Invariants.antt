use Rattle.recip_sum.proofs.counts.Counts.least_ratio.Given as goal

abbrev pub ghosts-least_even_from : goal.ghosts-least_even_from
ghosts-least_even_from a = record { name = a.blank.name; parts = a.blank.parts }
