use Rattle.std.proofs.Common.{◌≡◌, ◌-◌, ◌^◌, min, take}
use Rattle.fort_class_blocks.specs.Blocks.{product}
use Rattle.fort_class_blocks.proofs.shape.combinations.Given as goal

abbrev pub invariant-loop-count : goal.invariant-loop-count
invariant-loop-count l = l.combinations ≡ min (product (take l.count-index l.counts)) (2 ^ 64 - 1)
