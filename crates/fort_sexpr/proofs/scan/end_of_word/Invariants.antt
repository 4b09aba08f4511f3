use Rattle.std.proofs.Common.{◌≡◌, ℕ, ◌<◌, ◌≤◌, true, slice_index}
use Rattle.fort_theory.specs.Signatures.{is_word_byte}
use Rattle.fort_sexpr.proofs.scan.end_of_word.Given as goal

abbrev pub invariant-loop-i : goal.invariant-loop-i
invariant-loop-i l = (k : ℕ) → l.from ≤ k → k < l.i → is_word_byte (slice_index l.bytes k) ≡ true
