use Rattle.std.proofs.Common.{◌≡◌, ℕ, ◌<◌, length, get_or}
use Rattle.fort_open_checker.proofs.nodes.state_over.Given as goal

abbrev pub invariant-loop-j : goal.invariant-loop-j
invariant-loop-j g l = record {
  long : length l.own ≡ 8;
  values : (i : ℕ) → i < l.j → get_or l.own i 0 ≡ get_or l.states (get_or l.kids i 0) 0;
}
