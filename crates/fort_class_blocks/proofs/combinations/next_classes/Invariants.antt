use Rattle.std.proofs.Common.{◌≡◌, ◌≤◌, length, take}
use Rattle.fort_class_blocks.specs.Blocks.{cell_of}
use Rattle.fort_class_blocks.proofs.CombinationLaws.{IsWrapped}
use Rattle.fort_class_blocks.proofs.combinations.next_classes.Given as goal

abbrev pub invariant-loop-place : goal.invariant-loop-place
invariant-loop-place l = record {
  size : length l.classes ≡ 8;
  low : l.place ≤ length l.counts;
  wrapped : IsWrapped l.counts l.classes l.place (cell_of l.counts (take (length l.counts) l.initial.classes));
}
