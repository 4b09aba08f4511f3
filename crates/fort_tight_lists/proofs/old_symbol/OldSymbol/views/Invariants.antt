use Rattle.std.proofs.Common.{◌≡◌, ℕ, ◌<◌, length, get_or}
use Rattle.fort_target_lists.specs.ClassLists.{view_of}
use Rattle.fort_tight_lists.proofs.old_symbol.OldSymbol.views.Given as goal

abbrev pub invariant-loop-place : goal.invariant-loop-place
invariant-loop-place l = record {
  size : length l.views ≡ 8;
  are : (j : ℕ) → j < l.place → get_or l.views j 0 ≡ view_of l.self.list.now l.self.number j;
}
