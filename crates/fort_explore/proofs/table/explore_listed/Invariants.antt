use Rattle.fort_explore.proofs.table.explore_listed.Given as goal

abbrev pub ghosts-explore_by : goal.ghosts-explore_by
ghosts-explore_by g a = record { name = a.blank.name; parts = a.blank.parts }
