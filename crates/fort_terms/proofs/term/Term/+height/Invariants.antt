use Rattle.std.proofs.Common.{◌≡◌, max, drop}
use Rattle.fort_theory.specs.Trees.{heights, trees}
use Rattle.fort_terms.proofs.term.Term.+height.Given as goal

abbrev pub invariant-loop-kid : goal.invariant-loop-kid
invariant-loop-kid l = max l.most (heights (trees (drop l.kid-index l.kid-items))) ≡ heights (trees l.kid-items)
