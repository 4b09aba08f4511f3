use Rattle.std.proofs.Common.{◌-◌, length}
use Rattle.fort_leading_walk.proofs.choices.+first_rest.Given as goal

abbrev pub decreases-first_rest : goal.decreases-first_rest
decreases-first_rest g l = length (g.L.LeaderLists.lists l.lists.now) - l.place
