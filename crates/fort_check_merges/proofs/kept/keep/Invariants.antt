use Rattle.std.proofs.Common.{◌≡◌, ℕ, ◌<◌, ◌≤◌, length, get_or, vec_capacity}
use Rattle.fort_check_merges.proofs.kept.keep.Given as goal

abbrev pub invariant-loop-c : goal.invariant-loop-c
invariant-loop-c g l = record {
  count : length l.elements.items ≡ length l.fn.elements.items;
  done : (k : ℕ) (d : g.row.T.Denot) → k < l.c → get_or l.elements.items k d ≡ get_or l.fn.elements.items (get_or l.leaders k 0) d;
  rest : (k : ℕ) (d : g.row.T.Denot) → l.c ≤ k → get_or l.elements.items k d ≡ get_or l.fn.elements.items k d;
  capacity : vec_capacity l.elements ≡ vec_capacity l.fn.elements;
}
