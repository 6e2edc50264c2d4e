use Rattle.recip_sum.proofs.counts.Counts.fits_lanes.Given as goal

abbrev pub ghosts-at_most_from : goal.ghosts-at_most_from
ghosts-at_most_from a = record { name = a.blank.name; parts = a.blank.parts }
