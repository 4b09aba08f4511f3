use Rattle.std.proofs.Common.{◌≡◌, ℕ, ◌<◌, ◌≤◌, get_or, bit_or}
use Rattle.fort_label_bits.proofs.rows.add_words.Given as goal

abbrev pub invariant-loop-k : goal.invariant-loop-k
invariant-loop-k l = record {
  before : (i : ℕ) → i < l.k → get_or l.out i 0 ≡ bit_or (get_or l.initial.out i 0) (get_or l.row i 0);
  after : (i : ℕ) → l.k ≤ i → get_or l.out i 0 ≡ get_or l.initial.out i 0;
}
