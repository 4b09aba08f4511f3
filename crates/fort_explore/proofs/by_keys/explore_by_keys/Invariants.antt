use Rattle.fort_explore.proofs.by_keys.explore_by_keys.Given as goal

abbrev pub ghosts-explore_leading : goal.ghosts-explore_leading
ghosts-explore_leading g a = record { name = a.blank.name; parts = a.blank.parts }
