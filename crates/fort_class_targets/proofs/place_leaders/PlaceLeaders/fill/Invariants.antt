use Rattle.std.proofs.Common.{ℕ, ◌-◌, List, map, length}
use Rattle.fort_tables.specs.Entries.{Entry}
use Rattle.fort_class_blocks.specs.Blocks.{product}
use Rattle.fort_class_targets.specs.FilledBlocks.{leaders_of, MayFill}
use Rattle.fort_class_blocks.specs.KeptBlocks.{KeepsBlocks}
use Rattle.fort_class_blocks.proofs.CombinationLaws.{reached, IsCombination}
use Rattle.fort_class_targets.proofs.FillLaws.{value_of}
use Rattle.fort_class_blocks.proofs.FillingLaws.{IsFilledTo}
use Rattle.fort_class_targets.proofs.place_leaders.PlaceLeaders.fill.Given as goal

abbrev pub invariant-combinations : goal.invariant-combinations
invariant-combinations l = record {
  kept : KeepsBlocks l.block l.initial.blocks l.blocks;
  next_is : IsCombination (map (length {A = ℕ}) (leaders_of l.self.views.now l.self.numbers.now)) l.next;
  filled : (columns : ℕ) (es : List Entry) (qs : List ℕ) → MayFill columns es qs l.targets l.symbol (leaders_of l.self.views.now l.self.numbers.now)
      → IsFilledTo (map (length {A = ℕ}) (leaders_of l.self.views.now l.self.numbers.now)) (value_of es qs l.symbol (leaders_of l.self.views.now l.self.numbers.now)) l.blocks l.block
      (reached (map (length {A = ℕ}) (leaders_of l.self.views.now l.self.numbers.now)) l.next);
}

abbrev pub decreases-combinations : goal.decreases-combinations
decreases-combinations l = product (map (length {A = ℕ}) (leaders_of l.self.views.now l.self.numbers.now)) - reached (map (length {A = ℕ}) (leaders_of l.self.views.now l.self.numbers.now)) l.next
