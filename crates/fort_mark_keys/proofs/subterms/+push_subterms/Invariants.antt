use Rattle.std.proofs.Common.{◌≡◌, ◌++◌, map, take}
use Rattle.fort_theory.specs.Trees.{trees}
use Rattle.fort_alike.specs.Subterms.{subterms_among}
use Rattle.fort_mark_keys.proofs.subterms.+push_subterms.Given as goal

abbrev pub invariant-loop-kid : goal.invariant-loop-kid
invariant-loop-kid l =
    map (λ t. t.now) l.listed.items ≡ map (λ t. t.now) l.initial.listed.items ++ subterms_among (trees (take l.kid-index l.kid-items))
