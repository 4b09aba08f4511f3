use Rattle.std.proofs.Common.{◌≡◌, take}
use Rattle.fort_theory.specs.Trees.{trees}
use Rattle.fort_answers.specs.FamilySystems.{ground_sides}
use Rattle.fort_terms.specs.SideView.{as_sides}
use Rattle.fort_synth.proofs.candidate.+ground_side.Given as goal

abbrev pub invariant-loop-kid : goal.invariant-loop-kid
invariant-loop-kid l = as_sides l.sides.items ≡ ground_sides (trees (take l.kid-index l.kid-items))
