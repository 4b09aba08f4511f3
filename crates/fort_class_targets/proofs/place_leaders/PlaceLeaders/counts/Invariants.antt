use Rattle.std.proofs.Common.{◌≡◌, ℕ, ◌<◌, [], length, get_or}
use Rattle.fort_class_targets.specs.FilledBlocks.{leaders_of}
use Rattle.fort_class_targets.proofs.place_leaders.PlaceLeaders.counts.Given as goal

abbrev pub invariant-loop-place : goal.invariant-loop-place
invariant-loop-place l = record {
  size : length l.counts ≡ 8;
  are : (j : ℕ) → j < l.place → get_or l.counts j 0 ≡ length (get_or (leaders_of l.self.views.now l.self.numbers.now) j []);
}
