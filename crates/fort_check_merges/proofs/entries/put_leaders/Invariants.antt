use Rattle.std.proofs.Common.{◌≡◌, ℕ, ◌<◌, length, get_or}
use Rattle.fort_tables.specs.Merges.{leader}
use Rattle.fort_check_merges.proofs.entries.put_leaders.Given as goal

abbrev pub invariant-loop-j : goal.invariant-loop-j
invariant-loop-j l = record {
  room : length l.states ≡ length l.fn.states;
  are : (i : ℕ) → i < l.j → get_or l.states i 0 ≡ leader l.classes (get_or l.kids i 0);
}
