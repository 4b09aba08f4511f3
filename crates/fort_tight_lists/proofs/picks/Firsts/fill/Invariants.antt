use Rattle.std.proofs.Common.{ℕ, ◌-◌, map, vec_items, length}
use Rattle.fort_class_blocks.specs.Blocks.{product, target_of}
use Rattle.fort_class_blocks.specs.KeptBlocks.{KeepsBlocks}
use Rattle.fort_class_blocks.proofs.CombinationLaws.{reached, IsCombination}
use Rattle.fort_class_blocks.proofs.FillingLaws.{IsFilledTo}
use Rattle.fort_tight_lists.specs.Picks.{renumbered}
use Rattle.fort_tight_lists.proofs.picks.Firsts.fill.Given as goal

abbrev pub invariant-combinations : goal.invariant-combinations
invariant-combinations l = record {
  kept : KeepsBlocks l.block l.initial.blocks l.blocks;
  next_is : IsCombination (map (length {A = ℕ}) (map vec_items l.self.lists.now)) l.next;
  filled : IsFilledTo (map (length {A = ℕ}) (map vec_items l.self.lists.now)) (λ ds. target_of l.old l.from (renumbered (map vec_items l.self.lists.now) ds)) l.blocks l.block (reached (map (length {A = ℕ}) (map vec_items l.self.lists.now)) l.next);
}

abbrev pub decreases-combinations : goal.decreases-combinations
decreases-combinations l = product (map (length {A = ℕ}) (map vec_items l.self.lists.now)) - reached (map (length {A = ℕ}) (map vec_items l.self.lists.now)) l.next
