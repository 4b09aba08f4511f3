use Rattle.std.proofs.Common.{take}
use Rattle.fort_gtt_closure.specs.Groups.{AreByFirst}
use Rattle.fort_gtt_closure.proofs.groups.grouped.Given as goal

abbrev pub invariant-loop-pair : goal.invariant-loop-pair
invariant-loop-pair l = AreByFirst l.count (take l.pair-index l.pairs) l.groups
