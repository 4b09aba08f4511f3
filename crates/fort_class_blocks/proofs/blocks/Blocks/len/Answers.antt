use Rattle.std.proofs.Common.{◌≤◌, List, length, subst}
use Rattle.fort_class_blocks.specs.Blocks.{Block, AreFull, counts_at}
use Rattle.fort_class_blocks.proofs.BlockLaws.{blocks_full, few_places}
use Rattle.fort_class_blocks.proofs.blocks.Blocks.len.Goals as goal

pub returns-clause-full : goal.returns-clause-full
returns-clause-full c = subst (λ (bs : List Block). AreFull bs) c.self.view_is (blocks_full c.self.inside.targets.items c.self.inside.shapes.items c.self.invariant.between)

pub returns-clause-places : goal.returns-clause-places
returns-clause-places c = λ b.
    let a = c.self.inside in
    subst (λ (bs : List Block). length (counts_at bs b) ≤ 8) c.self.view_is (few_places a.targets.items a.shapes.items 0 (length a.targets.items) b c.self.invariant.between)
