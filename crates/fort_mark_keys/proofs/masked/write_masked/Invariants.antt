use Rattle.std.proofs.Common.{◌≡◌, take}
use Rattle.fort_mark_keys.specs.MaskedWords.{masked}
use Rattle.fort_mark_keys.proofs.masked.write_masked.Given as goal

abbrev pub invariant-loop-k : goal.invariant-loop-k
invariant-loop-k l = l.words.items ≡ masked (take l.k l.mask) (take l.k l.label)
