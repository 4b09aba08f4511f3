use Rattle.std.proofs.Common.{◌≡◌, ℕ, ◌<◌, ◌≤◌, List, length, get_or}
use Rattle.fort_tables.specs.Entries.{Entry}
use Rattle.fort_tables.specs.Laid.{start_of}
use Rattle.fort_target_lists.specs.Walks.{AreStageCounts}
use Rattle.fort_target_lists.proofs.laying.begin_stages.Given as goal

abbrev pub invariant-loop-s : goal.invariant-loop-s
invariant-loop-s l = record {
  size : length l.cursors ≡ length l.initial.cursors;
  before : (es : List Entry) → AreStageCounts es l.initial.cursors → l.before ≡ start_of es l.s;
  begun : (es : List Entry) → AreStageCounts es l.initial.cursors → (r : ℕ) → r < l.s → get_or l.cursors r 0 ≡ start_of es r;
  later : (r : ℕ) → l.s ≤ r → get_or l.cursors r 0 ≡ get_or l.initial.cursors r 0;
}
