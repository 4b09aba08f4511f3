use Rattle.std.proofs.Common.{◌≡◌, ℕ, ◌<◌, [], length, take, get_or}
use Rattle.fort_class_targets.specs.FilledBlocks.{leaders_of}
use Rattle.fort_class_targets.proofs.place_leaders.PlaceLeaders.over.Given as goal

abbrev pub invariant-loop-place : goal.invariant-loop-place
invariant-loop-place l = record {
  size : length l.kids ≡ 8;
  are : (j : ℕ) → j < l.place → get_or l.kids j 0 ≡ get_or (get_or (leaders_of l.self.views.now l.self.numbers.now) j []) (get_or (take (length l.self.numbers.now) l.classes) j 0) 0;
}
