use Rattle.std.proofs.Common.{◌≡◌, ℕ, ◌<◌, ◌≤◌, bit_or, length, get_or}
use Rattle.fort_projections.proofs.imaged.join.Given as goal

abbrev pub invariant-loop-i : goal.invariant-loop-i
invariant-loop-i l = record {
  size : length l.out ≡ length l.set;
  first : get_or l.out 0 0 ≡ get_or l.initial.out 0 0;
  second : get_or l.out 1 0 ≡ get_or l.initial.out 1 0;
  done : (k : ℕ) → 2 ≤ k → k < l.i → get_or l.out k 0 ≡ bit_or (get_or l.initial.out k 0) (get_or l.set k 0);
  rest : (k : ℕ) → l.i ≤ k → get_or l.out k 0 ≡ get_or l.initial.out k 0;
}
