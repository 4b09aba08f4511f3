use Rattle.std.proofs.Common.{◌≡◌, ℕ, ◌<◌, length, get_or}
use Rattle.fort_target_lists.specs.ClassLists.{view_of, view_leaders}
use Rattle.fort_tight_lists.proofs.old_symbol.OldSymbol.counts.Given as goal

abbrev pub invariant-loop-place : goal.invariant-loop-place
invariant-loop-place l = record {
  size : length l.counts ≡ 8;
  are : (j : ℕ) → j < l.place → get_or l.counts j 0 ≡ length (view_leaders l.self.list.now (view_of l.self.list.now l.self.number j));
}
