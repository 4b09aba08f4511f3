use Rattle.std.proofs.Common.{take}
use Rattle.fort_gtt_closure.specs.Ready.{Passed}
use Rattle.fort_gtt_closure.proofs.agenda.Agenda.wait_by_pairs.Given as goal

abbrev pub invariant-loop-pair : goal.invariant-loop-pair
invariant-loop-pair l = Passed l.initial.self.shape l.grid.entries.items l.p l.initial.self l.self (take l.pair-index l.pairs)
