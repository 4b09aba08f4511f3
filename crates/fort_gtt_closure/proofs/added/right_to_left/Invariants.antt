use Rattle.std.proofs.Common.{◌≡◌, map, take}
use Rattle.fort_gtt_closure.specs.declared.entry.Entry.{Entry}
use Rattle.fort_gtt_closure.proofs.added.right_to_left.Given as goal

abbrev pub invariant-loop-entry : goal.invariant-loop-entry
invariant-loop-entry l = l.states.items ≡ map (λ (e : Entry). (e.p, e.q)) (take l.entry-index l.entries)
