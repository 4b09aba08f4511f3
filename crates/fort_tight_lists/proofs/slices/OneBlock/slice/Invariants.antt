use Rattle.std.proofs.Common.{◌-◌, set}
use Rattle.fort_class_blocks.specs.Blocks.{product, target_of}
use Rattle.fort_class_blocks.proofs.CombinationLaws.{reached, IsCombination}
use Rattle.fort_tight_lists.specs.Slices.{others_of}
use Rattle.fort_tight_lists.proofs.SliceLaws.{IsListedTo}
use Rattle.fort_tight_lists.proofs.slices.OneBlock.slice.Given as goal

abbrev pub invariant-combinations : goal.invariant-combinations
invariant-combinations l = record {
  next_is : IsCombination (others_of l.self.counts.now l.place) l.next;
  listed : IsListedTo (others_of l.self.counts.now l.place) (λ cs. target_of l.self.blocks.now l.self.block (set cs l.place l.class)) l.slice.items (reached (others_of l.self.counts.now l.place) l.next);
}

abbrev pub decreases-combinations : goal.decreases-combinations
decreases-combinations l = product (others_of l.self.counts.now l.place) - reached (others_of l.self.counts.now l.place) l.next
