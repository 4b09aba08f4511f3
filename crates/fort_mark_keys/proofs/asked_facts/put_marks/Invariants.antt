use Rattle.std.proofs.Common.{◌≡◌, List, Bool, ◌++◌, replicate, length}
use Rattle.fort_label_bits.specs.RowBits.{HasBits}
use Rattle.fort_mark_keys.proofs.asked_facts.put_marks.Given as goal

abbrev pub invariant-loop-k : goal.invariant-loop-k
invariant-loop-k l = (bits : List Bool) → length bits ≡ l.base → HasBits bits l.initial.out → HasBits (bits ++ replicate l.k l.on) l.out
